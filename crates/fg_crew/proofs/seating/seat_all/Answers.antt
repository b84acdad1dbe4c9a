use Rattle.std.proofs.Common.{◌≡◌, ℕ, ◌+◌, ◌<◌, ◌≤◌, ◌≢◌, List, length, get_or, set, Some, ⊎_elim, subst, sym, ap, ◌∙◌, arith}
use Rattle.std.proofs.lemmas.Bool.{cases_eq}
use Rattle.std.proofs.lemmas.List.{get_or-set_other, get_or-set_same, length-set, length_push}
use Rattle.std.proofs.lemmas.List.Elements.{All-pop}
use Rattle.fg_crew.specs.declared.slot.Slot.{Slot}
use Rattle.fg_crew.specs.Slots.{Has, IsFresh}
use Rattle.fg_crew.proofs.ListLaws.{map-set_same}
use Rattle.fg_steal.specs.Claims.{ClaimsValue}
use Rattle.fg_steal.specs.Seat.{SeatValue, fresh_seat}
use Rattle.fg_crew.proofs.seating.seat_all.Goals as goal

-- one desk more is fresh
seated : {K F : Type 0} (claims : ClaimsValue) (slots : List (Slot K F)) (i : ℕ) (slot : Slot K F) → i < length slots → Has (IsFresh claims) slot.desk
    → ((k : ℕ) (d : Slot K F) → i + 1 ≤ k → k < length slots → Has (IsFresh claims) (get_or slots k d).desk)
    → (k : ℕ) (d : Slot K F) → i ≤ k → k < length (set slots i slot) → Has (IsFresh claims) (get_or (set slots i slot) k d).desk
seated claims slots i slot below fresh rest k d above under =
    let has = λ (one : Slot _ _). Has (IsFresh claims) one.desk in
    ⊎_elim
    (λ (same : k ≡ i). subst has (sym (ap (λ (j : ℕ). get_or (set slots i slot) j d) same ∙ get_or-set_same slots i slot d below)) fresh)
    (λ (other : k ≢ i). subst has (sym (get_or-set_other slots i k slot d other)) (rest k d (omega (arith, above, other)) (omega (arith, under, length-set slots i slot))))
    (cases_eq k i)

pub loop-seat-preserved : goal.loop-seat-preserved
loop-seat-preserved g c =
    let inv = c.loop-seat.invariant in
    let slots = c.loop-seat.slots in
    let left = c.pop.new.self.items in
    let i = c.len.result in
    let next = c.seat_one.new.slot in
    let more : length c.loop-seat.seats.items ≡ length left + 1 = ap length c.in-Some.ensures.items ∙ length_push left c.in-Some.seat in
    let place : i ≡ length left = omega (arith, c.len.ensures, c.pop.new.self.ok.0) in
    let below : i < length slots = omega (arith, more, place, inv.within) in
    let popped = All-pop (λ (seat : SeatValue). seat ≡ fresh_seat c.args.claims.now seat.number) _ _ (Some c.in-Some.seat) c.in-Some.ensures.items inv.seats in
    record {
      within = omega (arith, more, inv.within, length-set slots i next);
      seats = popped.0;
      room = c.pop.ensures.capacity ∙ inv.room;
      kept = map-set_same (λ slot. slot.kept) slots i next c.index-slots-len.result below c.seat_one.ensures.kept ∙ inv.kept;
      fresh = λ k d above under.
          seated c.args.claims.now slots i next below c.seat_one.ensures.fresh (λ j e over inside. inv.fresh j e (omega (arith, over, more, place)) inside)
          k d (omega (arith, above, place)) under;
    }
