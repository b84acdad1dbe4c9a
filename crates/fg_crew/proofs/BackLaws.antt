-- What all workers spent on a wave, when their seats are back.
use Rattle.std.proofs.Common.{◌≡◌, ℕ, zero, suc, ◌+◌, ◌<◌, ◌≤◌, None, Some, Option, List, [], ◌∷◌, ◌++◌, length, map, get_or, refl, sym, ap, ◌∙◌, subst, ⊎_elim, arith}
use Rattle.std.proofs.lemmas.Bool.{cases_lt}
use Rattle.std.proofs.lemmas.Grind.{flat_map-append}
use Rattle.std.proofs.lemmas.List.{append-nil}
use Rattle.std.proofs.lemmas.List.Elements.{All-cons, All-nil}
use Rattle.std.proofs.lemmas.List.Sums.{sum_by-append, sum_by-cons}
use Rattle.std.specs.Prelude.{All, slice_index}
use Rattle.std.specs.List.{flat_map, sum_by}
use Rattle.fg_crew.specs.declared.slot.Desk.{Desk}
use Rattle.fg_crew.specs.declared.slot.Slot.{Slot}
use Rattle.fg_crew.specs.Claimed.{IsDealt, Plan, SpentOnDraws, block_drawn, in_drawn}
use Rattle.fg_crew.specs.Slots.{AllHaveWorked, Has, HasEnded, desk_seat, seat_at}
use Rattle.fg_crew.specs.Wave.{EachSpentWithin, SpentWithin, blocks_in}
use Rattle.fg_task.specs.Spending.{Counted, SpentInAllUpTo}
use Rattle.fg_crew.proofs.DrawLaws.{drawn_within}
use Rattle.fg_crew.proofs.KeptLaws.{kept_at}
use Rattle.fg_crew.proofs.SlotLaws.{all_drawn, same_count, same_spent, spent_at}
use Rattle.fg_steal.specs.Claims.{AtMostOnce, ClaimsValue, EachOnce}
use Rattle.fg_steal.specs.Seat.{SeatValue}

-- seats taken from slots, however their workers ended
pub record AreBack (plan : Plan) (claims : ClaimsValue) (old new : List Counted) (seats : List SeatValue) : Type 0 where
  pub count : length seats ≡ length old
  pub own : All (λ (seat : SeatValue). seat.claims ≡ claims) seats
  pub few_runs : sum_by (λ (spent : Counted). spent.runs) new ≤ sum_by (λ (spent : Counted). spent.runs) old + in_drawn plan plan.blocks.active_of (all_drawn seats)
  pub few_entries : sum_by (λ (spent : Counted). spent.entries) new ≤ sum_by (λ (spent : Counted). spent.entries) old + in_drawn plan plan.blocks.needed_of (all_drawn seats)

module _ (plan : Plan) where
  in_drawn-append : (of : ℕ → ℕ) (seats more : List SeatValue) → in_drawn plan of (all_drawn (seats ++ more)) ≡ in_drawn plan of (all_drawn seats) + in_drawn plan of (all_drawn more)
  in_drawn-append of seats more =
      ap (in_drawn plan of) (flat_map-append (λ (seat : SeatValue). seat.drawn) seats more)
      ∙ sum_by-append (λ draw. of (block_drawn plan draw)) (all_drawn seats) (all_drawn more)

  -- one slot's draws are among all
  one_of_all : {K F : Type 0} (of : ℕ → ℕ) (slots : List (Slot K F)) (k : ℕ) (d : Slot K F) → k < length slots
      → in_drawn plan of (all_drawn (seat_at (get_or slots k d))) ≤ in_drawn plan of (all_drawn (flat_map seat_at slots))
  one_of_all of [] k d below = absurd (omega (arith, below))
  one_of_all of (slot ∷ slots) zero d below = omega (arith, in_drawn-append of (seat_at slot) (flat_map seat_at slots))
  one_of_all of (slot ∷ slots) (suc k) d below =
      omega (arith, in_drawn-append of (seat_at slot) (flat_map seat_at slots), one_of_all of slots k d (omega (arith, below)))

  module _ (claims : ClaimsValue) {F : Type 0} (caused : F → Type 0) (before after : Counted) where
    spent-at : (desk : Option (Desk F)) → Has (HasEnded plan claims caused before after) desk → SpentOnDraws plan before after [] (all_drawn (desk_seat desk))
    spent-at None ended = absurd ended
    spent-at (Some desk) ended = subst (SpentOnDraws plan before after []) (sym (append-nil desk.seat.drawn)) ended.few

    back-more : (desk : Option (Desk F)) → Has (HasEnded plan claims caused before after) desk → (old new : List Counted) (seats : List SeatValue)
        → AreBack plan claims old new seats → AreBack plan claims (before ∷ old) (after ∷ new) (desk_seat desk ++ seats)
    back-more None ended old new seats rest = absurd ended
    back-more (Some desk) ended old new seats rest =
        let here = spent-at (Some desk) ended in
        record {
          count = omega (arith, rest.count);
          own = All-cons (λ (seat : SeatValue). seat.claims ≡ claims) desk.seat seats ended.own rest.own;
          few_runs = omega (
            arith,
            here.few_runs,
            rest.few_runs,
            in_drawn-append plan.blocks.active_of (desk.seat ∷ []) seats,
            sum_by-cons (λ (one : Counted). one.runs) after new,
            sum_by-cons (λ (one : Counted). one.runs) before old,
          );
          few_entries = omega (
            arith,
            here.few_entries,
            rest.few_entries,
            in_drawn-append plan.blocks.needed_of (desk.seat ∷ []) seats,
            sum_by-cons (λ (one : Counted). one.entries) after new,
            sum_by-cons (λ (one : Counted). one.entries) before old,
          );
        }

pub at_most_once : (counts : List ℕ) (draws : List (ℕ × ℕ)) → EachOnce counts draws → AtMostOnce counts draws
at_most_once counts draws each = record {
  once = λ part k. ⊎_elim
      (λ (below : k < slice_index counts part). omega (arith, each.once part k below))
      (λ (over : slice_index counts part ≤ k). omega (arith, each.nothing_else part k over))
      (cases_lt k (slice_index counts part));
  nothing_else = each.nothing_else;
}

module _ (plan : Plan) (claims : ClaimsValue) {K F : Type 0} (lends : K → Type 0) (spent : K → Counted) (caused : F → Type 0) where
  abbrev spent_of : Slot K F → Counted
  spent_of slot = spent_at plan claims lends spent caused slot

  all_back : (old worked : List (Slot K F)) → AllHaveWorked plan claims lends spent caused old worked
      → AreBack plan claims (map spent_of old) (map spent_of worked) (flat_map seat_at worked)
  all_back [] [] all = record { count = refl; own = All-nil (λ (seat : SeatValue). seat.claims ≡ claims); few_runs = omega arith; few_entries = omega arith }
  all_back [] (slot ∷ worked) all = absurd (omega (arith, all.count))
  all_back (slot ∷ old) [] all = absurd (omega (arith, all.count))
  all_back (slot ∷ old) (now ∷ worked) all =
      back-more plan claims caused (spent_of slot) (spent_of now) now.desk (all.each 0 slot (omega arith)).desk (map spent_of old) (map spent_of worked) (flat_map seat_at worked)
      (all_back old worked (record { count = omega (arith, all.count); each = λ k d below. all.each (suc k) d (omega (arith, below)) }))

  module _ (old worked : List (Slot K F)) (all : AllHaveWorked plan claims lends spent caused old worked)
      (seats : List SeatValue) (seats_are : seats ≡ flat_map seat_at worked) where
    pub seats_back : AreBack plan claims (map spent_of old) (map spent_of worked) seats
    seats_back = subst (AreBack plan claims (map spent_of old) (map spent_of worked)) (sym seats_are) (all_back old worked all)

    -- of slots in which each worker still keeps what it kept
    module _ (dealt : IsDealt plan) (once : AtMostOnce plan.counts (all_drawn seats))
        (new : List (Slot K F)) (same : map (λ (slot : Slot K F). slot.kept) new ≡ map (λ (slot : Slot K F). slot.kept) worked) where
      pub each_few : EachSpentWithin spent plan.blocks plan.list plan.from plan.to old new
      each_few k d under =
          let below : k < length worked = omega (arith, under, all.count) in
          let here = spent-at plan claims caused (spent (get_or old k d).kept) (spent (get_or worked k d).kept) (get_or worked k d).desk (all.each k d under).desk in
          let seated = λ (of : ℕ → ℕ). ap (λ (l : List SeatValue). in_drawn plan of (all_drawn l)) seats_are in
          let active = plan.blocks.active_of in
          let needed = plan.blocks.needed_of in
          subst (λ (kept : K). SpentWithin plan.blocks plan.list plan.from plan.to (spent (get_or old k d).kept) (spent kept))
          (sym (kept_at new worked same k d (omega (arith, under, same_count plan claims lends spent caused old worked new all same)))) (record {
            few_runs = omega (arith, here.few_runs, one_of_all plan active worked k d below, seated active, drawn_within plan dealt active (all_drawn seats) once);
            few_entries = omega (arith, here.few_entries, one_of_all plan needed worked k d below, seated needed, drawn_within plan dealt needed (all_drawn seats) once);
          })

      pub few_all : SpentInAllUpTo plan.blocks (blocks_in plan.list plan.from plan.to) (map spent_of old) (map spent_of new)
      few_all =
          let back = seats_back in
          subst (λ (news : List Counted). SpentInAllUpTo plan.blocks (blocks_in plan.list plan.from plan.to) (map spent_of old) news)
          (sym (same_spent plan claims lends spent caused old worked new all same)) (record {
            few_runs = omega (arith, back.few_runs, drawn_within plan dealt plan.blocks.active_of (all_drawn seats) once);
            few_entries = omega (arith, back.few_entries, drawn_within plan dealt plan.blocks.needed_of (all_drawn seats) once);
          })
