use Rattle.std.proofs.Common.{◌≡◌, ℕ, ◌<◌, ◌≤◌, [], length}
use Rattle.fg_batch.specs.Outbox.{lane_at}
use Rattle.fg_batch.proofs.outbox.clear_all.Given as goal

abbrev pub invariant-loop-at : goal.invariant-loop-at
invariant-loop-at l = record {
  length : length l.lanes.items ≡ length l.fn.lanes.items;
  none : (k : ℕ) → k < l.at → (lane_at l.lanes.items k).items ≡ [];
  kept : (k : ℕ) → (lane_at l.fn.lanes.items k).room ≤ (lane_at l.lanes.items k).room;
}
