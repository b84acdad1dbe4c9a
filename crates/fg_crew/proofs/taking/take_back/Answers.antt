use Rattle.std.proofs.Common.{◌≡◌, ℕ, ◌+◌, ◌<◌, ◌≢◌, List, [], ◌∷◌, ◌++◌, length, get_or, take, ap, sym, ◌∙◌, subst, arith}
use Rattle.std.proofs.lemmas.List.{flat_map_more, get_or-set_other, length-set, take_all, take_more}
use Rattle.std.proofs.lemmas.List.Elements.{All-more}
use Rattle.std.specs.Prelude.{All, OnOk}
use Rattle.std.specs.List.{flat_map}
use Rattle.fg_task.specs.Blocks.{HasCause}
use Rattle.fg_crew.specs.declared.slot.Slot.{Slot}
use Rattle.fg_crew.specs.Slots.{HasEndedWell, results_at, seat_at}
use Rattle.fg_crew.proofs.CaseLaws.{err_of_both, on_both}
use Rattle.fg_crew.proofs.ListLaws.{map-set_same}
use Rattle.fg_crew.proofs.taking.take_back.Goals as goal

-- what comes of one item more
taken : {X Y : Type 0} (f : X → List Y) (xs : List X) (k : ℕ) (x d : X) (before old now : List Y) → k < length xs → get_or xs k d ≡ x
    → old ≡ before ++ flat_map f (take k xs) → now ≡ old ++ f x → now ≡ before ++ flat_map f (take (k + 1) xs)
taken {X = X} {Y = Y} f xs k x d before old now below is so_far more =
    more ∙ ap (λ (l : List Y). l ++ f x) so_far ∙ flat_map_more f before (take k xs) x
    ∙ ap (λ (l : List X). before ++ flat_map f l) (sym (take_more xs k d below ∙ ap (λ (y : X). take k xs ++ y ∷ []) is))

pub loop-k-preserved : goal.loop-k-preserved
loop-k-preserved g c =
    let inv = c.loop-k.invariant in
    let first = c.args.slots.now in
    let slots = c.loop-k.slots in
    let k = c.loop-k.k in
    let default = c.index-slots-k.result in
    let slot = get_or slots k default in
    let next = c.take_one.new.slot in
    let below : k < length slots = omega arith in
    let same : get_or first k default ≡ slot = sym (inv.rest k default (omega arith) below) in
    let within : k < length first = omega (arith, below, inv.count) in
    let so_far = c.loop-k.taken in
    let here = c.take_one.result in
    let all = c.worse-taken.result in
    let is = c.worse-taken.ensures in
    record {
      the_end = inv.the_end;
      count = length-set slots k next ∙ inv.count;
      kept = map-set_same (λ one. one.kept) slots k next default below c.take_one.ensures.kept ∙ inv.kept;
      rest = λ j d above under.
          let other : j ≢ k = omega (arith, above) in
          get_or-set_other slots k j next d other ∙ inv.rest j d (omega (arith, above)) (omega (arith, under, length-set slots k next));
      room = (omega (arith, inv.room.0, c.take_one.ensures.room.0), c.take_one.ensures.room.1 ∙ inv.room.1);
      seats = taken seat_at first k slot default c.args.seats.now.items c.loop-k.seats.items c.take_one.new.seats.items within same inv.seats c.take_one.ensures.seats;
      ended = on_both so_far here all is (λ ended well. All-more HasEndedWell first k default within ended (subst HasEndedWell (sym same) well)) inv.ended c.take_one.ensures.ended;
      results = on_both so_far here all is (taken results_at first k slot default c.args.results.now.items c.loop-k.results.items c.take_one.new.results.items within same)
          inv.results c.take_one.ensures.results;
      fault = err_of_both so_far here all is (HasCause (g.B.RunsBlock.caused c.args.runner.now)) inv.fault c.take_one.ensures.fault;
    }

pub returns-clause-ended : goal.returns-clause-ended
returns-clause-ended g c =
    let first = c.args.slots.now in
    subst (λ (slots : List (Slot _ _)). OnOk c.loop-k.taken (All HasEndedWell slots)) (take_all c.loop-k.k first (omega (arith, c.loop-k.invariant.the_end))) c.loop-k.invariant.ended
