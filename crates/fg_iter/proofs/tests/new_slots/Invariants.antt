use Rattle.std.proofs.Common.{◌≡◌, ◌≤◌, length}
use Rattle.std.specs.Prelude.{All, vec_capacity}
use Rattle.fg_iter.specs.Crew.{IsSettled}
use Rattle.fg_iter.specs.Ring.{spent_by}
use Rattle.fg_iter.proofs.tests.new_slots.Given as goal

abbrev pub invariant-loop-worker : goal.invariant-loop-worker
invariant-loop-worker l = record {
  count : length l.slots.items ≡ l._worker;
  room : l.workers ≤ vec_capacity l.slots;
  settled : All (λ slot. IsSettled (spent_by slot.kept.runs slot.kept.entries)) l.slots.items;
}
