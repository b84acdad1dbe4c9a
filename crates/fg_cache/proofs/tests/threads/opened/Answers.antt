use Rattle.std.proofs.Common.{◌≡◌, ◌∙◌, ℕ, ◌/◌, ◌%◌, ◌<◌, List, refl, sym, ap, subst, arith}
use Rattle.std.proofs.Math.Nat.{mod-lt}
use Rattle.std.proofs.lemmas.Nat.{div-add-mod'}
use Rattle.std.proofs.lemmas.List.FromFn.{length-range_with_len, get_or-range_with_len}
use Rattle.std.specs.List.{Contains, range_with_len}
use Rattle.fg_stripe.specs.Striping.{local_of}
use Rattle.fg_stripe.specs.declared.layout.Layout.{Layout}
use Rattle.fg_cache.specs.Pass.{IsPassOf}
use Rattle.fg_cache.specs.declared.shape.Shape.{Shape}
use Rattle.fg_cache.proofs.SiteLemmas.{may_ask}
use Rattle.fg_cache.proofs.tests.threads.opened.Goals as goal

-- each drive has half of the image's pages behind its label
told_all : (page : ℕ) → page < 16 → local_of page 2 1 < 9
told_all page below =
    let units = div-add-mod' page 1 in
    let rounds = div-add-mod' (page / 1) 2 in
    let rest : page % 1 < 1 = mod-lt page (omega arith) in
    omega (arith, below, units, rounds, rest)

among : (page : ℕ) → page < 16 → Contains (range_with_len 0 16) page
among page below =
    let long = length-range_with_len 0 16 in
    let at = get_or-range_with_len 0 16 page page below in
    (page, omega (arith, below, long), omega (arith, at))

pub open-requires-clause-stocked : goal.open-requires-clause-stocked
open-requires-clause-stocked c =
    rw (c.all_pages.ensures.image, c.in_ok-drives.ensures.items) (
      record { pages = tt; all_told = λ page below on. omega (arith, told_all page below, c.in_ok-drive.ensures) },
      (record { pages = tt; all_told = λ page below on. omega (arith, told_all page below, c.in_ok-drive-2.ensures) }, tt),
    )

pub returns-in-Ok-clause-asked : goal.returns-in-Ok-clause-asked
returns-in-Ok-clause-asked c = λ page below.
    let pages = ap (λ (l : Layout). l.pages) c.in-Ok.ensures.layout.0 in
    let asked = c.in-Ok.ensures.name.1 ∙ c.all_pages.ensures.asked in
    may_ask _ page (omega (arith, pages, below)) (subst (λ (l : List ℕ). Contains l page) (sym asked) (among page below))

pub returns-in-Ok-clause-passes : goal.returns-in-Ok-clause-passes
returns-in-Ok-clause-passes c =
    let passes = ap (λ (s : Shape). s.passes) c.in-Ok.ensures.layout.1 in (
      omega (arith, c.in-Ok.ensures.count),
      (λ k d below.
          subst (IsPassOf _) (sym (c.in-Ok.ensures.passes k d below))
          (record { own = refl; worker_within = omega (arith, below, c.in-Ok.ensures.count, passes) })),
    )
