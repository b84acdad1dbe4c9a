-- The slots of all workers after a wave.
use Rattle.std.proofs.Common.{◌≡◌, ℕ, suc, ◌<◌, None, Some, Option, Ok, List, [], ◌∷◌, ◌++◌, length, map, refl, sym, ap, ap₂, ◌∙◌, subst, arith}
use Rattle.std.proofs.lemmas.List.{append-nil, map-append}
use Rattle.std.proofs.lemmas.Grind.{flat_map-append}
use Rattle.std.proofs.lemmas.Simd.{map-map}
use Rattle.std.proofs.lemmas.List.Elements.{All-append, All-cons, All-head, All-nil, All-tail}
use Rattle.std.proofs.lemmas.List.Sums.{sum_by-append, sum_by-cons}
use Rattle.std.specs.Prelude.{All}
use Rattle.std.specs.List.{flat_map}
use Rattle.fg_task.specs.declared.block_result.BlockResult.{BlockResult}
use Rattle.fg_crew.specs.declared.slot.Desk.{Desk}
use Rattle.fg_crew.specs.declared.slot.Slot.{Slot}
use Rattle.fg_task.specs.Blocks.{IsResult}
use Rattle.fg_crew.specs.Claimed.{IsDealt, Plan, block_drawn}
use Rattle.fg_crew.specs.Slots.{AllHaveWorked, Has, HasEnded, HasEndedWell, HasFinished, desk_results, desk_seat, results_at, seat_at}
use Rattle.fg_task.specs.Spending.{NoneBad, Counted, SpentInAll, active_in, sent_in, visits_in}
use Rattle.fg_crew.proofs.CaseLaws.{on_ok}
use Rattle.fg_crew.proofs.KeptLaws.{kept_at, same_length}
use Rattle.fg_crew.proofs.ListLaws.{all-behind, all-first}
use Rattle.fg_crew.proofs.SpendingLaws.{active-append, sent-append, visits-append}
use Rattle.fg_crew.specs.Wave.{IsWave}
use Rattle.fg_crew.proofs.WaveLaws.{each_block_once, wave_is}
use Rattle.fg_steal.specs.Claims.{ClaimsValue, EachOnce}
use Rattle.fg_steal.specs.Seat.{SeatValue, WasToldOfAll}

-- what all seats drew
abbrev pub all_drawn : List SeatValue → List (ℕ × ℕ)
all_drawn seats = flat_map (λ (seat : SeatValue). seat.drawn) seats

-- results of what seats drew, taken from slots whose workers all ended well
pub record AreTaken (plan : Plan) (old new : List Counted) (seats : List SeatValue) (results : List BlockResult) : Type 0 where
  pub told : All (λ (seat : SeatValue). WasToldOfAll plan.counts seat) seats
  pub same : map (λ (one : BlockResult). one.block) results ≡ map (block_drawn plan) (all_drawn seats)
  pub each_own : All (λ (one : BlockResult). IsResult plan.blocks one.block one) results
  pub spent : SpentInAll plan.blocks old new results

module _ (plan : Plan) (claims : ClaimsValue) where
  module _ {F : Type 0} (before after : Counted) where
    taken-one : (desk : Desk F) → HasFinished plan before after desk → AreTaken plan (before ∷ []) (after ∷ []) (desk.seat ∷ []) desk.results.items
    taken-one desk done =
        let blocks = plan.blocks in
        let exact = done.exact in
        let all : desk.results.items ≡ exact.added = exact.behind in
        record {
          told = All-cons (λ (seat : SeatValue). WasToldOfAll plan.counts seat) desk.seat [] done.told (All-nil (λ (seat : SeatValue). WasToldOfAll plan.counts seat));
          same = done.results.same ∙ ap (map (block_drawn plan)) (sym (append-nil desk.seat.drawn));
          each_own = done.results.each_own;
          spent = record {
            runs = omega (arith, exact.runs, ap active_in all, sum_by-cons (λ (one : Counted). one.runs) after [], sum_by-cons (λ (one : Counted). one.runs) before []);
            entries = omega (arith, exact.entries, ap sent_in all, sum_by-cons (λ (one : Counted). one.entries) after [], sum_by-cons (λ (one : Counted). one.entries) before []);
            hits = λ none.
                let fine = exact.hits (subst NoneBad all none) in
                omega (arith, fine, ap (visits_in blocks) all, sum_by-cons (λ (one : Counted). one.hits) after [], sum_by-cons (λ (one : Counted). one.hits) before []);
          };
        }

    taken-at : (desk : Option (Desk F)) (caused : F → Type 0) → Has (HasEnded plan claims caused before after) desk → Has (λ (one : Desk F). one.end ≡ Ok tt) desk
        → AreTaken plan (before ∷ []) (after ∷ []) (desk_seat desk) (desk_results desk)
    taken-at None caused ended well = absurd ended
    taken-at (Some desk) caused ended well = taken-one desk (on_ok desk.end tt well ended.ok)

  taken-both : (old new olds news : List Counted) (seats more_seats : List SeatValue) (results more : List BlockResult) → AreTaken plan old new seats results
      → AreTaken plan olds news more_seats more → AreTaken plan (old ++ olds) (new ++ news) (seats ++ more_seats) (results ++ more)
  taken-both old new olds news seats more_seats results more one rest =
      let blocks = plan.blocks in
      let fine = λ (result : BlockResult). result.bad ≡ None in
      record {
        told = All-append (λ (seat : SeatValue). WasToldOfAll plan.counts seat) seats more_seats one.told rest.told;
        same = map-append (λ (result : BlockResult). result.block) results more ∙ ap₂ (λ (l m : List ℕ). l ++ m) one.same rest.same
            ∙ sym (map-append (block_drawn plan) (all_drawn seats) (all_drawn more_seats))
            ∙ ap (map (block_drawn plan)) (sym (flat_map-append (λ (seat : SeatValue). seat.drawn) seats more_seats));
        each_own = All-append (λ (result : BlockResult). IsResult blocks result.block result) results more one.each_own rest.each_own;
        spent = record {
          runs = omega (arith, one.spent.runs, rest.spent.runs, active-append results more, sum_by-append (λ (spent : Counted). spent.runs) new news, sum_by-append (λ (spent : Counted). spent.runs) old olds);
          entries = omega (
            arith,
            one.spent.entries,
            rest.spent.entries,
            sent-append results more,
            sum_by-append (λ (spent : Counted). spent.entries) new news,
            sum_by-append (λ (spent : Counted). spent.entries) old olds,
          );
          hits = λ none.
              let first = one.spent.hits (all-first fine results more none) in
              let last = rest.spent.hits (all-behind fine results more none) in
              omega (arith, first, last, visits-append blocks results more, sum_by-append (λ (spent : Counted). spent.hits) new news, sum_by-append (λ (spent : Counted). spent.hits) old olds);
        };
      }

  taken-none : AreTaken plan [] [] [] []
  taken-none = record {
    told = All-nil (λ (seat : SeatValue). WasToldOfAll plan.counts seat);
    same = refl;
    each_own = All-nil (λ (result : BlockResult). IsResult plan.blocks result.block result);
    spent = record { runs = refl; entries = refl; hits = λ none. omega arith };
  }

  module _ {K F : Type 0} (lends : K → Type 0) (spent : K → Counted) (caused : F → Type 0) where
    abbrev pub spent_at : Slot K F → Counted
    spent_at slot = spent slot.kept

    all_taken : (old new : List (Slot K F)) → AllHaveWorked plan claims lends spent caused old new → All HasEndedWell new
        → AreTaken plan (map spent_at old) (map spent_at new) (flat_map seat_at new) (flat_map results_at new)
    all_taken [] [] worked well = taken-none
    all_taken [] (slot ∷ new) worked well = absurd (omega (arith, worked.count))
    all_taken (slot ∷ old) [] worked well = absurd (omega (arith, worked.count))
    all_taken (slot ∷ old) (now ∷ new) worked well =
        let here = worked.each 0 slot (omega arith) in
        taken-both (spent_at slot ∷ []) (spent_at now ∷ []) (map spent_at old) (map spent_at new) (seat_at now) (flat_map seat_at new) (results_at now) (flat_map results_at new)
        (taken-at (spent_at slot) (spent_at now) now.desk caused here.desk (All-head HasEndedWell now new well))
        (all_taken old new (record { count = omega (arith, worked.count); each = λ k d below. worked.each (suc k) d (omega (arith, below)) }) (All-tail HasEndedWell now new well))

    pub taken_all : (old worked : List (Slot K F)) (seats : List SeatValue) (results : List BlockResult) → AllHaveWorked plan claims lends spent caused old worked
        → All HasEndedWell worked → seats ≡ flat_map seat_at worked → results ≡ flat_map results_at worked → AreTaken plan (map spent_at old) (map spent_at worked) seats results
    taken_all old worked seats results all well seats_are results_are =
        subst (λ (l : List SeatValue). AreTaken plan (map spent_at old) (map spent_at worked) l results) (sym seats_are)
        (subst (λ (l : List BlockResult). AreTaken plan (map spent_at old) (map spent_at worked) (flat_map seat_at worked) l) (sym results_are) (all_taken old worked all well))

    -- of the slots after seats and results were taken, where what was kept wasn't touched
    module _ (old worked new : List (Slot K F)) (all : AllHaveWorked plan claims lends spent caused old worked)
        (same : map (λ (slot : Slot K F). slot.kept) new ≡ map (λ (slot : Slot K F). slot.kept) worked) where
      pub same_count : length new ≡ length old
      same_count = same_length new worked same ∙ all.count

      pub still_lent : All (λ (slot : Slot K F). lends slot.kept) new
      still_lent = λ k d below.
          let under : k < length old = omega (arith, below, same_count) in
          subst lends (sym (kept_at new worked same k d below)) (all.each k d under).lent

      pub same_spent : map (λ (slot : Slot K F). spent slot.kept) new ≡ map (λ (slot : Slot K F). spent slot.kept) worked
      same_spent = sym (map-map spent (λ (slot : Slot K F). slot.kept) new) ∙ ap (map spent) same ∙ map-map spent (λ (slot : Slot K F). slot.kept) worked

-- so the results are those of the wave
pub taken_wave : (plan : Plan) (old new : List Counted) (seats : List SeatValue) (results : List BlockResult) → IsDealt plan
    → AreTaken plan old new seats results → EachOnce plan.counts (all_drawn seats) → IsWave plan.blocks plan.list plan.from plan.to results
taken_wave plan old new seats results dealt taken each =
    wave_is plan.blocks plan.list plan.from plan.to results (each_block_once plan dealt (all_drawn seats) results each taken.same) taken.each_own
