use Rattle.std.proofs.Common.{◌≡◌, ◌∙◌, ℕ, ◌/◌, ◌%◌, ◌<◌, List, refl, sym, ap, subst, arith}
use Rattle.std.proofs.Math.Nat.{mod-lt}
use Rattle.std.proofs.lemmas.Nat.{div-add-mod'}
use Rattle.std.specs.List.{Contains}
use Rattle.fg_stripe.specs.Striping.{local_of}
use Rattle.fg_stripe.specs.declared.layout.Layout.{Layout}
use Rattle.fg_cache.specs.Pass.{IsPassOf}
use Rattle.fg_cache.specs.declared.shape.Shape.{Shape}
use Rattle.fg_cache.proofs.SiteLemmas.{may_ask}
use Rattle.fg_cache.proofs.tests.calls.opened.Goals as goal

-- the image's pages stand behind the label
told_all : (page : ℕ) → page < 3 → local_of page 1 1 < 4
told_all page below =
    let units = div-add-mod' page 1 in
    let rounds = div-add-mod' (page / 1) 1 in
    let rest : page % 1 < 1 = mod-lt page (omega arith) in
    omega (arith, below, units, rounds, rest)

pub open-requires-clause-stocked : goal.open-requires-clause-stocked
open-requires-clause-stocked c =
    rw (c.pages_1_and_2.ensures.image, c.in_ok-drives.ensures.items)
    (record { pages = tt; all_told = λ page below on. omega (arith, told_all page below, c.in_ok-drive.ensures) }, tt)

pub returns-in-Ok-clause-asked : goal.returns-in-Ok-clause-asked
returns-in-Ok-clause-asked c =
    let pages = ap (λ (l : Layout). l.pages) c.in-Ok.ensures.layout.0 in
    let asked = c.in-Ok.ensures.name.1 ∙ c.pages_1_and_2.ensures.asked in (
      may_ask _ 1 (omega (arith, pages)) (subst (λ (l : List ℕ). Contains l 1) (sym asked) (0, omega arith, refl)),
      may_ask _ 2 (omega (arith, pages)) (subst (λ (l : List ℕ). Contains l 2) (sym asked) (1, omega arith, refl)),
    )

pub returns-in-Ok-clause-passes : goal.returns-in-Ok-clause-passes
returns-in-Ok-clause-passes c = λ k d below.
    let passes = ap (λ (s : Shape). s.passes) c.in-Ok.ensures.layout.1 in
    subst (IsPassOf _) (sym (c.in-Ok.ensures.passes k d below))
    (record { own = refl; worker_within = omega (arith, below, c.in-Ok.ensures.count, passes) })
