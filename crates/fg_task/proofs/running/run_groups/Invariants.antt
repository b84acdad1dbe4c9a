use Rattle.std.proofs.Common.{◌≡◌, ◌≤◌, ◌++◌, drop, map, take}
use Rattle.fg_task.specs.Groups.{emptied, waiting_on}
use Rattle.fg_task.specs.Running.{HasRun}
use Rattle.fg_task.proofs.running.run_groups.Given as goal

abbrev pub invariant-loop-at : goal.invariant-loop-at
invariant-loop-at g l = record {
  within : l.at ≤ l.fn.places.to;
  left : l.groups.items ≡ map (emptied l.fn.page) (take l.at l.fn.groups.items) ++ drop l.at l.fn.groups.items;
  run : HasRun (g.F.SegmentRun.work l.fn.function) l.fn.bytes (waiting_on l.fn.page l.fn.jobs (take l.at l.fn.groups.items)) l.fn.outbox l.outbox
      (g.T.Tally.entries l.fn.tally) (g.T.Tally.entries l.tally) l.bad;
  runs : g.T.Tally.runs l.tally ≡ g.T.Tally.runs l.fn.tally;
}
