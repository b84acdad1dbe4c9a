use Rattle.std.proofs.Common.{◌≡◌, ℕ, ◌≤◌, [], length}
use Rattle.std.specs.Vec.{vec_capacity}
use Rattle.fg_batch.specs.Outbox.{lane_at}
use Rattle.fg_batch.proofs.outbox.empty_lanes.Given as goal

abbrev pub invariant-loop : goal.invariant-loop
invariant-loop l = record {
  count : length l.lanes.items ≡ l.counter;
  room : l.fn.count ≤ vec_capacity l.lanes;
  none : (k : ℕ) → (lane_at l.lanes.items k).items ≡ [];
}
