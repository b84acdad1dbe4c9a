use Rattle.std.proofs.Common.{◌≡◌, take}
use Rattle.fg_task.specs.Running.{HasRun}
use Rattle.fg_task.proofs.running.run_jobs.Given as goal

abbrev pub invariant-loop-job : goal.invariant-loop-job
invariant-loop-job g l = record {
  run : HasRun (g.F.SegmentRun.work l.fn.function) l.fn.bytes (take l.job-index l.fn.jobs) l.fn.outbox l.outbox
      (g.T.Tally.entries l.fn.tally) (g.T.Tally.entries l.tally) l.bad;
  runs : g.T.Tally.runs l.tally ≡ g.T.Tally.runs l.fn.tally;
}
