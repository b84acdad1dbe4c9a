-- A draw from a run keeps the rule, whether it finds a place or is told that the run is spent.
use Rattle.std.proofs.Common.{◌≡◌, ℕ, ◌+◌, ◌^◌, ◌%◌, ◌<◌, ◌≤◌, ◌≢◌, nat_eq, List, length, slice_index, set, refl, sym, ap, subst, ⊎_elim, arith, length-set}
use Rattle.std.proofs.lemmas.Bool.{cases_lt, cases_eq}
use Rattle.std.proofs.lemmas.List.{get_or-set_other, get_or-set_same}
use Rattle.std.specs.List.{sum_by}
use Rattle.atomic_table.proofs.Lists.{at_set}
use mathlib.Core.Option.{some}
use Rattle.std.proofs.Math.Nat.{mod-eq_of_lt}
use Rattle.atomic_table.specs.Table.{Me, Allows}
use Rattle.atomic_table.specs.Table.Act.{keeps}
use lib.ListN.{get_elem?}
use Rattle.fg_steal.specs.declared.view.View.{View}
use Rattle.fg_steal.specs.Claims.{is_draw_of, times_drawn}
use Rattle.fg_steal.specs.Run.{run_lengths, run_length}
use Rattle.fg_steal.specs.Once.{drew, was_told, Draws, times_told, drawn_of, IsSound, Kept}
use Rattle.fg_steal.proofs.Totals.{sum_set, sum_below, part_of_sum}
use Rattle.fg_steal.proofs.Times.{one_if, same_draw, other_part, other_block, times_more, times_again, same_run, differing_run}

abbrev pub drawn_in : ℕ → ℕ → View → ℕ
drawn_in run k v = times_drawn run k v.drawn

abbrev pub seats_of : View → ℕ
seats_of v = v.stands_for

module _ {counts : List ℕ} {seats : ℕ} {words : List ℕ} {views : List View} (kept : Kept counts seats words views) (id : ℕ) (v : View) (at : get_elem? views id ≡ some v) where
  -- the views after one of them changed are sound where the new one is
  pub sound_after : (w : View) → IsSound counts seats w → (j : ℕ) (u : View) → get_elem? (set views id w) j ≡ some u → IsSound counts seats u
  sound_after w sound j u there =
      ⊎_elim
      (λ (here : (j ≡ id) × (w ≡ u)). subst (IsSound counts seats) here.1 sound)
      (λ (else : (j ≢ id) × (get_elem? views j ≡ some u)). kept.each_sound j u else.1)
      (at_set views id j w u there)

  -- all tellings of a run are at most as many as the seats
  few_told : (run : ℕ) → sum_by (times_told run) views ≤ seats
  few_told run = omega (arith, kept.each_seat, sum_below (times_told run) seats_of views (λ j u there. (kept.each_sound j u there).told run))

  pub small_word : (run : ℕ) → slice_index words run < 2 ^ 33
  small_word run = omega (arith, few_told run, kept.few_places run, kept.few_seats, kept.counted run)

  -- what a word is after one was added to that of a run
  same_word : (run m : ℕ) → run < length (run_lengths counts) → slice_index (set words run m) run ≡ m
  same_word run m within = get_or-set_same words run m 0 (omega (arith, kept.one_word_each))

  other_word : (run m q : ℕ) → q ≢ run → slice_index (set words run m) q ≡ slice_index words q
  other_word run m q differ = get_or-set_other words run q m 0 differ

  module _ (run : ℕ) (within : run < length (run_lengths counts)) (some_seat : 0 < v.stands_for) where
    abbrev pub number : ℕ
    number = slice_index words run

    abbrev pub words_then : List ℕ
    words_then = set words run (number + 1)

    -- how often a place was drawn in all, after the draw of one
    drawn_then : (q k : ℕ) → sum_by (drawn_in q k) (set views id (drew v run number)) ≡ sum_by (drawn_in q k) views + one_if (is_draw_of q k (run, number))
    drawn_then q k = omega (arith, sum_set (drawn_in q k) views id v (drew v run number) at, times_more q k v.drawn run number)

    own_word : (q : ℕ) → q ≡ run → (slice_index words_then q ≡ number + 1) × (slice_index words q ≡ number) × (run_length counts q ≡ run_length counts run)
    own_word q same = (rw same (same_word run (number + 1) within), ap (slice_index words) same, ap (run_length counts) same)

    drawn_once : number < run_length counts run → (q k : ℕ) → k < drawn_of counts words_then q → sum_by (drawn_in q k) (set views id (drew v run number)) ≡ 1
    drawn_once below q k under = ⊎_elim
        (λ (same : q ≡ run). let own = own_word q same in ⊎_elim
        (λ (block : number ≡ k). omega (arith, drawn_then q k, same_draw q k run number same block, kept.nothing_else q k (omega (arith, own))))
        (λ (differ : number ≢ k). omega (arith, drawn_then q k, other_block q k run number same differ, kept.once q k (omega (arith, own))))
        (cases_eq number k))
        (λ (differ : q ≢ run). let else = other_word run (number + 1) q differ in
        omega (arith, drawn_then q k, other_part q k run number differ, kept.once q k (omega arith)))
        (cases_eq q run)

    drawn_no_more : number < run_length counts run → (q k : ℕ) → drawn_of counts words_then q ≤ k → sum_by (drawn_in q k) (set views id (drew v run number)) ≡ 0
    drawn_no_more below q k over = ⊎_elim
        (λ (same : q ≡ run). let own = own_word q same in let differ : number ≢ k = λ block. omega (arith, own) in
        omega (arith, drawn_then q k, other_block q k run number same differ, kept.nothing_else q k (omega (arith, own))))
        (λ (differ : q ≢ run). let else = other_word run (number + 1) q differ in
        omega (arith, drawn_then q k, other_part q k run number differ, kept.nothing_else q k (omega arith)))
        (cases_eq q run)

    -- with a view that was told as often as before
    still_counted : number < run_length counts run → (q : ℕ) → drawn_of counts words_then q + sum_by (times_told q) (set views id (drew v run number)) ≡ slice_index words_then q
    still_counted below q =
        let sums = sum_set (times_told q) views id v (drew v run number) at in ⊎_elim
        (λ (same : q ≡ run). let own = own_word q same in omega (arith, own, kept.counted q))
        (λ (differ : q ≢ run). let else = other_word run (number + 1) q differ in omega (arith, kept.counted q))
        (cases_eq q run)

    -- the draw of a place
    pub place_drawn : number < run_length counts run → Kept counts seats words_then (set views id (drew v run number))
    place_drawn below = record {
      one_word_each = omega (arith, length-set words run (number + 1), kept.one_word_each);
      few_places = kept.few_places;
      few_seats = kept.few_seats;
      each_seat = omega (arith, kept.each_seat, sum_set seats_of views id v (drew v run number) at);
      each_sound = sound_after (drew v run number) record { plan = sound.plan; told = sound.told; idle = λ none. absurd (omega arith) };
      once = drawn_once below;
      nothing_else = drawn_no_more below;
      counted = still_counted below;
    }
      where
        sound : IsSound counts seats v
        sound = kept.each_sound id v at

    -- the draw of a number past the run
    told_then : (q : ℕ) → sum_by (times_told q) (set views id (was_told v run)) ≡ sum_by (times_told q) views + one_if (nat_eq run q)
    told_then q = omega (arith, sum_set (times_told q) views id v (was_told v run) at, times_again q run v.spent)

    told_counted : run_length counts run ≤ number → (q : ℕ) → drawn_of counts words_then q + sum_by (times_told q) (set views id (was_told v run)) ≡ slice_index words_then q
    told_counted over q = ⊎_elim
        (λ (same : q ≡ run). let own = own_word q same in omega (arith, own, told_then q, same_run q run (sym same), kept.counted q))
        (λ (differ : q ≢ run). let else = other_word run (number + 1) q differ in
        omega (arith, told_then q, differing_run q run (λ same. differ (sym same)), kept.counted q))
        (cases_eq q run)

    same_drawn : run_length counts run ≤ number → (q : ℕ) → drawn_of counts words_then q ≡ drawn_of counts words q
    same_drawn over q = ⊎_elim
        (λ (same : q ≡ run). let own = own_word q same in omega (arith, own))
        (λ (differ : q ≢ run). let else = other_word run (number + 1) q differ in omega arith)
        (cases_eq q run)

    same_sums : (q k : ℕ) → sum_by (drawn_in q k) (set views id (was_told v run)) ≡ sum_by (drawn_in q k) views
    same_sums q k = omega (arith, sum_set (drawn_in q k) views id v (was_told v run) at)

    fairly_told : times_told run v < v.stands_for → (q : ℕ) → times_told q (was_told v run) ≤ v.stands_for
    fairly_told fair q = ⊎_elim
        (λ (same : run ≡ q). omega (arith, times_again q run v.spent, same_run q run same, subst (λ p. times_told p v < v.stands_for) same fair))
        (λ (differ : run ≢ q). omega (arith, times_again q run v.spent, differing_run q run differ, (kept.each_sound id v at).told q))
        (cases_eq run q)

    pub run_spent : run_length counts run ≤ number → times_told run v < v.stands_for → Kept counts seats words_then (set views id (was_told v run))
    run_spent over fair = record {
      one_word_each = omega (arith, length-set words run (number + 1), kept.one_word_each);
      few_places = kept.few_places;
      few_seats = kept.few_seats;
      each_seat = omega (arith, kept.each_seat, sum_set seats_of views id v (was_told v run) at);
      each_sound = sound_after (was_told v run) record { plan = sound.plan; told = fairly_told fair; idle = sound.idle };
      once = λ q k under. omega (arith, same_sums q k, kept.once q k (omega (arith, same_drawn over q)));
      nothing_else = λ q k past. omega (arith, same_sums q k, kept.nothing_else q k (omega (arith, same_drawn over q)));
      counted = told_counted over;
    }
      where
        sound : IsSound counts seats v
        sound = kept.each_sound id v at

-- what a fetch-and-add on a run's word asks of the drawing seat
pub draw_allowed : (counts : List ℕ) (seats slots id : ℕ) (me : Me (Unit {0}) View) (run : ℕ) → run < length (run_lengths counts) → times_told run me.0 < me.0.stands_for
    → Allows (λ s. Kept counts seats s.words s.views) slots id me run (λ n. (n + 1) % 2 ^ 64) (λ n after. Draws run me.0 n after.0 × (after.1 ≡ me.1))
draw_allowed counts seats slots id me run within fair s kept homes at fits =
    let v : View = me.0 in
    let n : ℕ = slice_index s.words run in
    let some_seat : 0 < v.stands_for = omega arith in
    let same : v.counts ≡ counts = ((kept.each_sound id v at).plan some_seat).0 in
    let count : run_length v.counts run ≡ run_length counts run = ap (λ (l : List ℕ). run_length l run) same in
    let times_within : (other k : ℕ) → times_drawn other k v.drawn ≤ sum_by (drawn_in other k) s.views = λ other k. part_of_sum (drawn_in other k) s.views id v at in
    let new : n < run_length v.counts run → times_drawn run n v.drawn ≡ 0 = λ below. omega (arith, times_within run n, kept.nothing_else run n (omega arith)) in
    let nothing_else : (other k : ℕ) → run_length v.counts other ≤ k → times_drawn other k v.drawn ≡ 0 =
    λ other k over. omega (arith, times_within other k, kept.nothing_else other k (omega (arith, ap (λ (l : List ℕ). run_length l other) same))) in
    let fit : (n + 1) % 2 ^ 64 ≡ n + 1 = mod-eq_of_lt (omega (arith, small_word kept id v at run)) in
    ⊎_elim
    (λ (below : n < run_length counts run). (
      drew v run n,
      keeps,
      tt,
      subst (λ (m : ℕ). Kept counts seats (set s.words run m) (set s.views id (drew v run n))) (sym fit) (place_drawn kept id v at run within some_seat below),
      (record { place = λ _. refl; spent = λ over. absurd (omega (arith, count)); new = new; nothing_else = nothing_else }, refl),
    ))
    (λ (over : run_length counts run ≤ n). (
      was_told v run,
      keeps,
      tt,
      subst (λ (m : ℕ). Kept counts seats (set s.words run m) (set s.views id (was_told v run))) (sym fit) (run_spent kept id v at run within some_seat over fair),
      (record { place = λ below. absurd (omega (arith, count)); spent = λ _. refl; new = new; nothing_else = nothing_else }, refl),
    ))
    (cases_lt n (run_length counts run))
