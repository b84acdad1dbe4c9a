use Rattle.std.proofs.Common.{◌≤◌, ◌^◌, length, ap, arith}
use Rattle.std.proofs.lemmas.List.Sums.{sum_by-take-le}
use Rattle.fg_index.specs.Degrees.{joined}
use Rattle.fg_index.proofs.JoinedLemmas.{joined-length}
use Rattle.fg_index.proofs.degrees.Degrees.below.Goals as goal

pub below_of-requires-clause-few : goal.below_of-requires-clause-few
below_of-requires-clause-few c =
    let inside = c.self.inside in
    rw c.deref.ensures.value (omega (arith, joined-length inside.low.items inside.long.items, ap length c.self.view_is, c.requires.few))

pub below_of-requires-clause-within : goal.below_of-requires-clause-within
below_of-requires-clause-within c =
    let inside = c.self.inside in
    rw c.deref.ensures.value (omega (arith, joined-length inside.low.items inside.long.items, ap length c.self.view_is, c.requires.within))

pub returns-clause-bounded : goal.returns-clause-bounded
returns-clause-bounded c =
    let inside = c.self.inside in
    let below = rw (c.deref.ensures.value, c.deref-2.ensures.value) at c.below_of.ensures in
    let few : length inside.low.items ≤ 2 ^ 24 = omega (arith, joined-length inside.low.items inside.long.items, ap length c.self.view_is, c.requires.few) in
    omega (arith, below.degrees, sum_by-take-le (λ x. x) (joined inside.low.items inside.long.items) c.args.v, c.self.invariant.total_is, c.self.invariant.bounded, few)
