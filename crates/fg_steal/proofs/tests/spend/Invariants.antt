use Rattle.std.proofs.Common.{◌≡◌}
use Rattle.fg_steal.proofs.tests.spend.Given as goal

abbrev pub invariant-loop : goal.invariant-loop
invariant-loop g l = record {
  goes_on : (goal.iterator-loop g).can_next l.iterator' × (goal.iterator-loop g).is_finite l.iterator';
  own : l.seat.claims ≡ l.claims;
  same : l.seat.told ≡ l.fn.seat.told;
}
