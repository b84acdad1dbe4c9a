use Rattle.std.proofs.Common.{◌≡◌, ◌≤◌, length}
use Rattle.std.specs.Prelude.{All, vec_capacity}
use Rattle.fg_wave.proofs.tests.new_slots.Given as goal

abbrev pub invariant-loop-worker : goal.invariant-loop-worker
invariant-loop-worker l = record {
  count : length l.slots.items ≡ l._worker;
  room : l.workers ≤ vec_capacity l.slots;
  none : All (λ slot. slot.kept ≡ 0) l.slots.items;
}
