use Rattle.std.proofs.Common.{◌≡◌, ℕ, ◌<◌}
use Rattle.std.specs.List.{Contains}
use Rattle.fg_steal.proofs.tests.spend_all.Given as goal

abbrev pub invariant-loop-part : goal.invariant-loop-part
invariant-loop-part g l = record {
  own : l.seat.claims ≡ l.claims;
  before : (part : ℕ) → Contains l.seat.told part → part < l.part;
}
