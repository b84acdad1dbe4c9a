use Rattle.std.proofs.Common.{◌∙◌, ℕ, ◌/◌, ◌%◌, ◌<◌, List, sym, ap, subst, arith}
use Rattle.std.proofs.Math.Nat.{mod-lt}
use Rattle.std.proofs.lemmas.Nat.{div-add-mod'}
use Rattle.std.specs.List.{Contains}
use Rattle.fg_stripe.specs.Striping.{local_of}
use Rattle.fg_stripe.specs.declared.layout.Layout.{Layout}
use Rattle.fg_cache.proofs.SiteLemmas.{may_ask}
use Rattle.fg_worker.proofs.NeededLaws.{stands_in}
use Rattle.fg_worker.proofs.tests.opened.Goals as goal

-- the image's pages stand behind the label
told_all : (page : ℕ) → page < 40 → local_of page 1 1 < 41
told_all page below =
    let units = div-add-mod' page 1 in
    let rounds = div-add-mod' (page / 1) 1 in
    let rest : page % 1 < 1 = mod-lt page (omega arith) in
    omega (arith, below, units, rounds, rest)

pub open-requires-clause-stocked : goal.open-requires-clause-stocked
open-requires-clause-stocked c =
    rw (c.all_pages.ensures.image, c.layout.ensures, c.in_ok-drives.ensures.items)
    (record { pages = tt; all_told = λ page below on. omega (arith, told_all page below, c.in_ok-drive.ensures) }, tt)

pub returns-in-Some-clause-asked : goal.returns-in-Some-clause-asked
returns-in-Some-clause-asked c = λ page below.
    let pages = ap (λ (l : Layout). l.pages) (c.in-Ok.ensures.layout.0 ∙ c.layout.ensures) in
    let asked = c.in-Ok.ensures.name.1 ∙ c.all_pages.ensures.asked in
    may_ask _ page (omega (arith, pages, below)) (subst (λ (l : List ℕ). Contains l page) (sym asked) (stands_in 0 40 page (omega arith) (omega (arith, below))))
