use Rattle.std.proofs.Common.{◌≡◌, ℕ, List, [], ◌∷◌, ◌++◌, ◌⊎◌, inl, inr, ⊎_elim, subst, sym, arith}
use Rattle.std.specs.List.{Contains}
use Rattle.std.proofs.lemmas.List.Elements.{Contains-push_cases}
use Rattle.fg_steal.proofs.tests.spend_all.Goals as goal

pub spend-seat-requires-clause-untold : goal.spend-seat-requires-clause-untold
spend-seat-requires-clause-untold g c found = let before = c.loop-part.invariant.before c.loop-part.part found in omega arith

pub loop-part-preserved : goal.loop-part-preserved
loop-part-preserved g c = record {
  own = c.spend-seat.ensures.own;
  before = λ part found. ⊎_elim
      (λ was. let before = c.loop-part.invariant.before part was in omega arith)
      (λ (now : c.loop-part.part ≡ part). omega arith)
      (Contains-push_cases c.loop-part.seat.told c.loop-part.part part (subst (λ (l : List ℕ). Contains l part) c.spend-seat.ensures.told found));
}
