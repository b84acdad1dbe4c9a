use Rattle.std.proofs.Common.{◌≡◌, ℕ, ◌<◌, Bool, false, nat_eq, List, [], ◌∷◌, ◌++◌, length, Option, Some, None, IfSome, IfNone, refl, sym, ap, subst, ◌∙◌}
use Rattle.std.specs.Option.{is_some}
use Rattle.std.specs.List.{Contains}
use Rattle.fg_steal.specs.declared.run.Run.{Run}
use Rattle.fg_steal.specs.declared.run.Run.TheVariants.{Near, Far}
use Rattle.fg_steal.specs.Run.{run_of, spent_parts, first_run, second_run}
use Rattle.fg_steal.specs.Seat.{SeatValue, IsToldOf}
use Rattle.fg_steal.proofs.Spent.{part_spent, twins, of_either, first_is_there, no_part_more, both_there, one_part_more}
use Rattle.fg_steal.proofs.claims.Claims.draw.Goals as goal

if_none : {X : Type 0} (P : Type 0) (o : Option X) → is_some o ≡ false → IfNone o P → P
if_none P None is holds = holds
if_none P (Some x) is holds = absurd (cc is)

-- what holds at a block, and what at none
at_block : {X : Type 0} (o : Option X) (Q : X → Type 0) → ((x : X) → o ≡ Some x → Q x) → IfSome o Q
at_block None Q gives = tt
at_block (Some x) Q gives = gives x refl

at_none : {X : Type 0} (o : Option X) (Q : Type 0) → (o ≡ None → Q) → IfNone o Q
at_none None Q gives = gives refl
at_none (Some x) Q gives = tt

-- what the two tries say of the seat's lists, by the runs that were tried
module _ (counts : List ℕ) (number part : ℕ) (within : part < length counts) (tried then : Run) (tried_is : tried ≡ first_run number part) (then_is : then ≡ second_run number part)
    (before between : List ℕ) (told : IsToldOf (run_of counts part tried) before between) where
  abbrev own : Bool
  own = nat_eq number part

  told_first : IsToldOf (run_of counts part (first_run number part)) before between
  told_first = subst (λ (run : Run). IsToldOf (run_of counts part run) before between) tried_is told

  second_missing : (Contains between (run_of counts part then) → ⊥) → Contains between (run_of counts part (second_run number part)) → ⊥
  second_missing missing found = missing (subst (λ (run : Run). Contains between (run_of counts part run)) (sym then_is) found)

  still : (Contains between (run_of counts part then) → ⊥) → spent_parts counts between ≡ spent_parts counts before
  still missing = no_part_more counts part within _ _ (twins counts part within own) before between told_first (second_missing missing)

  first_there : Contains between (run_of counts part (first_run number part))
  first_there = first_is_there counts part within _ _ (twins counts part within own) before between told_first

  module _ (after : List ℕ) (told_too : IsToldOf (run_of counts part then) between after) where
    told_second : IsToldOf (run_of counts part (second_run number part)) between after
    told_second = subst (λ (run : Run). IsToldOf (run_of counts part run) between after) then_is told_too

    all_there : (run : Run) → Contains after (run_of counts part run)
    all_there =
        let both = both_there counts part within _ _ (twins counts part within own) before between told_first after told_second in
        of_either counts part within own (Contains after) both.0 both.1

    part_more : (Contains (spent_parts counts before) part → ⊥) → spent_parts counts after ≡ spent_parts counts before ++ part ∷ []
    part_more untold = one_part_more counts part within _ _ (twins counts part within own) before between told_first after told_second
        (λ one other. untold (part_spent counts part within before
        (of_either counts part within own (Contains before) one other Near) (of_either counts part within own (Contains before) one other Far)))

pub returns-clause-drawn : goal.returns-clause-drawn
returns-clause-drawn c = at_block c.try_run.result.1 _ (λ k is.
    let n = c.args.self.now.counts in
    let none = if_none _ c.try_run-seat.result.1 (sym c.is_some.ensures ∙ c.if-is_some.false) c.try_run-seat.ensures.none in
    let drawn = rw is at c.try_run.ensures.drawn in
    let missing = rw is at c.try_run.ensures.unspent in
    let same = still n c.seat.inside.number c.args.part c.requires.part c.order-first.result.0 c.order-first.result.1 c.order-first.ensures.first c.order-first.ensures.second
    c.args.seat.spent c.try_run-seat.result.0.spent none.1 missing in (
      drawn.0 ∙ ap (λ (l : List (ℕ × ℕ)). l ++ (c.args.part, k) ∷ []) none.0,
      c.try_run.ensures.told.1 ∙ ap (spent_parts n) drawn.1 ∙ same ∙ sym c.try_run-seat.ensures.told.0,
    ))

pub returns-clause-second : goal.returns-clause-second
returns-clause-second c = at_block c.try_run.result.1 _ (λ k is in_run.
    let n = c.args.self.now.counts in
    let none = if_none _ c.try_run-seat.result.1 (sym c.is_some.ensures ∙ c.if-is_some.false) c.try_run-seat.ensures.none in
    let drawn = rw is at c.try_run.ensures.drawn in
    let there = first_there n c.seat.inside.number c.args.part c.requires.part c.order-first.result.0 c.order-first.result.1 c.order-first.ensures.first c.order-first.ensures.second
    c.args.seat.spent c.try_run-seat.result.0.spent none.1 in
    let number : c.seat.inside.number ≡ c.args.seat.number = ap (λ (s : SeatValue). s.number) c.seat.view_is in
    subst (λ (m : ℕ). Contains c.try_run.result.0.spent (run_of n c.args.part (first_run m c.args.part))) number
    (subst (λ (l : List ℕ). Contains l (run_of n c.args.part (first_run c.seat.inside.number c.args.part))) (sym drawn.1) there))

pub returns-clause-told : goal.returns-clause-told
returns-clause-told c = at_none c.try_run.result.1 _ (λ is.
    let n = c.args.self.now.counts in
    let none = if_none _ c.try_run-seat.result.1 (sym c.is_some.ensures ∙ c.if-is_some.false) c.try_run-seat.ensures.none in
    let none_again = rw is at c.try_run.ensures.none in
    let told = c.try_run-seat.ensures.told.0 in
    let more = part_more n c.seat.inside.number c.args.part c.requires.part c.order-first.result.0 c.order-first.result.1 c.order-first.ensures.first c.order-first.ensures.second
    c.args.seat.spent c.try_run-seat.result.0.spent none.1 c.try_run.result.0.spent none_again.1
    (λ found. c.requires.untold (subst (λ (l : List ℕ). Contains l c.args.part) (sym told) found)) in (
      none_again.0 ∙ none.0,
      c.try_run.ensures.told.1 ∙ more ∙ ap (λ (l : List ℕ). l ++ c.args.part ∷ []) (sym told),
    ))

pub returns-clause-spent : goal.returns-clause-spent
returns-clause-spent c = at_none c.try_run.result.1 _ (λ is.
    let none = if_none _ c.try_run-seat.result.1 (sym c.is_some.ensures ∙ c.if-is_some.false) c.try_run-seat.ensures.none in
    let none_again = rw is at c.try_run.ensures.none in
    all_there c.args.self.now.counts c.seat.inside.number c.args.part c.requires.part c.order-first.result.0 c.order-first.result.1 c.order-first.ensures.first c.order-first.ensures.second
    c.args.seat.spent c.try_run-seat.result.0.spent none.1 c.try_run.result.0.spent none_again.1)
