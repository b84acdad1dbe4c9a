use Rattle.std.proofs.Common.{◌≡◌, ◌++◌, ◌-◌, ◌≤◌, take, drop, vec_len, vec_capacity}
use Rattle.fg_queue.proofs.RestLemmas.{left, due_from}
use Rattle.fg_queue.proofs.take.remove_run.Given as goal

abbrev pub invariant-loop-place : goal.invariant-loop-place
invariant-loop-place l = l.due ≡ due_from l.place (l.count - l.place)

abbrev pub invariant-loop-next : goal.invariant-loop-next
invariant-loop-next l = record {
  same_len : vec_len l.loads ≡ vec_len l.initial.loads;
  capacity : vec_capacity l.loads ≡ vec_capacity l.initial.loads;
  behind : l.kept ≤ l.next;
  so_far : take l.kept l.loads.items ++ left l.first l.due (drop l.next l.loads.items) ≡ left l.first l.initial.due l.initial.loads.items;
}
