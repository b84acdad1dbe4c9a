use Rattle.std.proofs.Common.{◌≡◌, ◌++◌, ◌+◌, ◌-◌, length}
use Rattle.fg_queue.specs.QueueStep.{run_from}
use Rattle.fg_queue.proofs.take.collect_run.Given as goal

abbrev pub invariant-loop-place : goal.invariant-loop-place
invariant-loop-place l = record {
  count : length l.run.items ≡ l.place;
  so_far : l.run.items ++ run_from (32 - l.place) (l.first + l.place) l.loads ≡ run_from 32 l.first l.loads;
}
