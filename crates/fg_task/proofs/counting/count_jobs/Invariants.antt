use Rattle.std.proofs.Common.{◌≡◌, take}
use Rattle.fg_task.specs.Running.{entries_of}
use Rattle.fg_task.proofs.counting.count_jobs.Given as goal

abbrev pub invariant-loop-job : goal.invariant-loop-job
invariant-loop-job g l = record {
  weighted : l.weighted ≡ (g.F.SegmentRun.work l.fn.function).weighted;
  counted : l.count ≡ entries_of (g.F.SegmentRun.work l.fn.function) (take l.job-index l.fn.jobs);
}
