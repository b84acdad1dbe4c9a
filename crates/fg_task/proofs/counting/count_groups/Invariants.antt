use Rattle.std.proofs.Common.{◌≡◌, ◌≤◌, take}
use Rattle.fg_task.specs.Groups.{waiting_on}
use Rattle.fg_task.specs.Running.{entries_of}
use Rattle.fg_task.proofs.counting.count_groups.Given as goal

abbrev pub invariant-loop-at : goal.invariant-loop-at
invariant-loop-at g l = record {
  within : l.at ≤ l.fn.places.to;
  counted : l.count ≡ entries_of (g.F.SegmentRun.work l.fn.function) (waiting_on l.fn.page l.fn.jobs (take l.at l.fn.groups));
}
