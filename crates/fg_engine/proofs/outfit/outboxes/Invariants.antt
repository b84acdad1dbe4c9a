use Rattle.std.proofs.Common.{◌≡◌, ◌≤◌, All, length, vec_len, vec_capacity}
use Rattle.fg_engine.specs.Outfit.{IsOutboxOf}
use Rattle.fg_engine.proofs.outfit.outboxes.Given as goal

abbrev pub invariant-loop-worker : goal.invariant-loop-worker
invariant-loop-worker l = record {
  count : length l.outboxes.items ≡ l._worker;
  long : vec_len l.outboxes ≡ l._worker;
  room : l.fn.map.parts ≤ vec_capacity l.outboxes;
  each : All (IsOutboxOf l.fn.map) l.outboxes.items;
}
