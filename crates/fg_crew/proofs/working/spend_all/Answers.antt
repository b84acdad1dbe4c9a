use Rattle.std.proofs.Common.{◌≡◌, ℕ, ◌-◌, List, [], ◌++◌, refl, ap, ◌∙◌, subst, arith}
use Rattle.std.proofs.lemmas.Result.{on_ok_weaker}
use Rattle.std.specs.List.{Contains, range_with_len}
use Rattle.fg_task.specs.declared.block_result.BlockResult.{BlockResult}
use Rattle.fg_task.specs.Spending.{SpentOnMore}
use Rattle.fg_crew.proofs.CaseLaws.{on_ok}
use Rattle.fg_crew.proofs.SpendingLaws.{spent-then}
use Rattle.fg_crew.proofs.TellingLaws.{all_told, not_before}
use Rattle.fg_steal.specs.Seat.{SeatValue}
use Rattle.fg_crew.proofs.working.spend_all.Goals as goal

-- a fresh seat was told of the first parts alone
told_first : (seat : SeatValue) (told first : List ℕ) → seat.told ≡ [] → told ≡ seat.told ++ first → told ≡ first
told_first seat told first none is = is ∙ ap (λ (l : List ℕ). l ++ first) none

pub spend_parts-requires-clause-untold : goal.spend_parts-requires-clause-untold
spend_parts-requires-clause-untold g c κs within part above below found =
    let own = c.args.own in
    let count = c.args.wave.now.parts - own in
    let told = on_ok c.spend_parts-seat.result.1 c.in-Ok.field-0 c.in-Ok.is c.spend_parts-seat.ensures.told in
    not_before own count part below
    (subst (λ (l : List ℕ). Contains l part) (told_first c.args.seat c.spend_parts-seat.result.0.told (range_with_len own count) (ap (λ (seat : SeatValue). seat.told) c.requires.fresh) told) found)

pub returns-in-Ok-clause-told : goal.returns-in-Ok-clause-told
returns-in-Ok-clause-told g c =
    let own = c.args.own in
    let parts = c.args.wave.now.parts in
    let behind = range_with_len own (parts - own) in
    let before = c.spend_parts-seat.result.0.told in
    let after = c.spend_parts.result.0.told in
    let told = on_ok c.spend_parts-seat.result.1 c.in-Ok.field-0 c.in-Ok.is c.spend_parts-seat.ensures.told in
    let first = told_first c.args.seat before behind (ap (λ (seat : SeatValue). seat.told) c.requires.fresh) told in
    on_ok_weaker c.spend_parts.result.1
    (λ (more : after ≡ before ++ range_with_len 0 (own - 0)). λ part below.
    all_told after own parts part (parts - own) (own - 0) (more ∙ ap (λ (l : List ℕ). l ++ range_with_len 0 (own - 0)) first) refl (omega arith) (omega (arith, c.requires.part))
    (omega (arith, below, c.requires.dealt.deals.one_each)))
    c.spend_parts.ensures.told

pub returns-in-Ok-clause-exact : goal.returns-in-Ok-clause-exact
returns-in-Ok-clause-exact g c =
    let runs = g.B.RunsBlock in
    let blocks = runs.blocks c.args.wave.now.runner.now in
    let first = runs.spent c.args.kept.now in
    let middle = runs.spent c.spend_parts-seat.new.kept in
    let last = runs.spent c.spend_parts.new.kept in
    let results = c.spend_parts-seat.new.results.items in
    let more = c.spend_parts.new.results.items in
    let exact = on_ok c.spend_parts-seat.result.1 c.in-Ok.field-0 c.in-Ok.is c.spend_parts-seat.ensures.exact in
    let begun : SpentOnMore blocks first middle [] results = subst (λ (before : List BlockResult). SpentOnMore blocks first middle before results) c.requires.none exact in
    on_ok_weaker c.spend_parts.result.1 (λ (then : SpentOnMore blocks middle last results more). spent-then blocks first middle last [] results more begun then) c.spend_parts.ensures.exact
