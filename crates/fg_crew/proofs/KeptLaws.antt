-- Slots in which each worker still keeps what it kept.
use Rattle.std.proofs.Common.{◌≡◌, ℕ, ◌<◌, List, length, map, get_or, sym, ap, ◌∙◌, subst, arith}
use Rattle.std.proofs.lemmas.List.{get_or-map, length-map}
use Rattle.std.specs.Prelude.{All}
use Rattle.fg_task.specs.Spending.{Counted}
use Rattle.fg_crew.specs.declared.slot.Slot.{Slot}
use Rattle.fg_crew.specs.Claimed.{HasRoomFor, Plan}
use Rattle.fg_crew.specs.Slots.{AllHaveWorked, Has, HasEnded, IsFresh, IsReady}
use Rattle.fg_steal.specs.Claims.{ClaimsValue}

module _ {K F : Type 0} (xs ys : List (Slot K F)) (same : map (λ (slot : Slot K F). slot.kept) xs ≡ map (λ (slot : Slot K F). slot.kept) ys) where
  pub same_length : length xs ≡ length ys
  same_length = sym (length-map xs (λ (slot : Slot K F). slot.kept)) ∙ ap length same ∙ length-map ys (λ (slot : Slot K F). slot.kept)

  pub kept_at : (k : ℕ) (d : Slot K F) → k < length xs → (get_or xs k d).kept ≡ (get_or ys k d).kept
  kept_at k d below =
      sym (get_or-map (λ (slot : Slot K F). slot.kept) xs k d d.kept below) ∙ ap (λ (l : List K). get_or l k d.kept) same
      ∙ get_or-map (λ (slot : Slot K F). slot.kept) ys k d d.kept (omega (arith, below, same_length))

-- slots before a wave, and when the workers have their seats
module _ (plan : Plan) (claims : ClaimsValue) {K F : Type 0} (lends : K → Type 0) (spent : K → Counted)
    (old seated : List (Slot K F)) (same : map (λ (slot : Slot K F). slot.kept) seated ≡ map (λ (slot : Slot K F). slot.kept) old) where
  pub seated_ready : All (λ (slot : Slot K F). Has (IsFresh claims) slot.desk) seated → All (λ (slot : Slot K F). lends slot.kept) old
      → All (λ (slot : Slot K F). HasRoomFor plan (spent slot.kept)) old → All (IsReady plan claims lends spent) seated
  seated_ready fresh lent room = λ k d below.
      let under : k < length old = omega (arith, below, same_length seated old same) in
      let back = sym (kept_at seated old same k d below) in
      record { desk = fresh k d below; lent = subst lends back (lent k d under); room = subst (λ (kept : K). HasRoomFor plan (spent kept)) back (room k d under) }

  -- so what they did since is what they did in the wave
  pub worked_since : (caused : F → Type 0) (new : List (Slot K F)) → AllHaveWorked plan claims lends spent caused seated new → AllHaveWorked plan claims lends spent caused old new
  worked_since caused new all = record {
    count = all.count ∙ same_length seated old same;
    each = λ k d under.
        let below : k < length seated = omega (arith, under, same_length seated old same) in
        let is = kept_at seated old same k d below in
        let worked = all.each k d below in
        let now = get_or new k d in
        record {
          desk = subst (λ (kept : K). Has (HasEnded plan claims caused (spent kept) (spent now.kept)) now.desk) is worked.desk;
          lent = worked.lent;
        };
  }
