-- A split and a join keep the rule, and who stands for all seats knows all draws.
use Rattle.std.proofs.Common.{◌≡◌, ℕ, zero, suc, ◌+◌, ◌^◌, ◌<◌, ◌≤◌, ◌≢◌, nat_eq, List, [], ◌∷◌, ◌++◌, length, slice_index, set, refl, sym, ap, subst, ⊎_elim, ◌∙◌, arith}
use Rattle.std.proofs.lemmas.Bool.{cases_lt}
use Rattle.std.proofs.lemmas.List.{get_or_past}
use Rattle.std.proofs.lemmas.List.Sums.{sum_by-cons, sum_by-append, sum_by_push}
use Rattle.std.specs.List.{sum_by, Contains}
use Rattle.atomic_table.proofs.Lists.{at_set, at_snoc, set_else}
use Rattle.atomic_table.specs.Table.{Splits, Joins}
use mathlib.Core.Option.{some, some-injective, some-ne-none}
use lib.ListN.{get_elem?}
use Rattle.fg_steal.specs.declared.view.View.{View}
use Rattle.fg_steal.specs.Claims.{is_draw_of, times_drawn, EachOnce, AtMostOnce}
use Rattle.fg_steal.specs.Run.{run_lengths, run_length, times_in}
use Rattle.fg_steal.specs.Once.{opening_view, one_less, one_seat, joined, no_seat, times_told, drawn_of, IsSound, Kept}
use Rattle.fg_steal.proofs.Totals.{sum_set, part_of_sum, sum_alone}
use Rattle.fg_steal.proofs.Times.{one_if, told_once}
use Rattle.fg_steal.proofs.Steps.{drawn_in, seats_of, sound_after}

module _ (counts : List ℕ) (seats : ℕ) where
  -- the beginning: no place was drawn
  pub opens : (words : List ℕ) → length words ≡ length (run_lengths counts) → ((run : ℕ) → slice_index words run ≡ 0) → ((run : ℕ) → run_length counts run < 2 ^ 32) → seats < 2 ^ 32
      → Kept counts seats words (opening_view counts seats ∷ [])
  opens words one_each none few few_seats = record {
    one_word_each = one_each;
    few_places = few;
    few_seats = few_seats;
    each_seat = omega (arith, sum_by-cons seats_of (opening_view counts seats) []);
    each_sound = sound;
    once = λ run k under. absurd (omega (arith, none run));
    nothing_else = λ run k over. omega (arith, sum_by-cons (drawn_in run k) (opening_view counts seats) []);
    counted = λ run. omega (arith, none run, sum_by-cons (times_told run) (opening_view counts seats) []);
  }
    where
      sound : (id : ℕ) (v : View) → get_elem? (opening_view counts seats ∷ []) id ≡ some v → IsSound counts seats v
      sound zero v at = subst (IsSound counts seats) (some-injective (opening_view counts seats) v at) record { plan = λ _. (refl, refl); told = λ run. omega arith; idle = λ _. refl }
      sound (suc id) v at = absurd (some-ne-none v (sym at))

  -- a split
  pub splits : (id : ℕ) (v : View) → 0 < v.stands_for → v.drawn ≡ [] → v.spent ≡ [] → Splits {S = Unit {0}} (λ s. Kept counts seats s.words s.views) id v (one_less v) (one_seat v)
  splits id v some_seat nothing_drawn nothing_told s kept at = record {
    one_word_each = kept.one_word_each;
    few_places = kept.few_places;
    few_seats = kept.few_seats;
    each_seat = omega (arith, sums seats_of, kept.each_seat);
    each_sound = sound;
    once = λ run k under. omega (arith, sums (drawn_in run k), kept.once run k under);
    nothing_else = λ run k over. omega (arith, sums (drawn_in run k), kept.nothing_else run k over);
    counted = λ run. omega (arith, sums (times_told run), kept.counted run);
  }
    where
      sums : (f : View → ℕ) → sum_by f (set s.views id (one_less v) ++ one_seat v ∷ []) + f v ≡ sum_by f s.views + f (one_less v) + f (one_seat v)
      sums f = omega (arith, sum_by_push f (set s.views id (one_less v)) (one_seat v), sum_set f s.views id v (one_less v) at)

      was : IsSound counts seats v
      was = kept.each_sound id v at

      never : (run : ℕ) → times_told run v ≡ 0
      never run = ap (times_in run) nothing_told

      sound : (j : ℕ) (u : View) → get_elem? (set s.views id (one_less v) ++ one_seat v ∷ []) j ≡ some u → IsSound counts seats u
      sound j u there = ⊎_elim
          (λ old. sound_after kept id v at (one_less v) record { plan = λ _. was.plan some_seat; told = λ run. omega (arith, never run); idle = λ _. nothing_drawn } j u old)
          (λ new. subst (IsSound counts seats) new record { plan = λ _. was.plan some_seat; told = λ run. omega arith; idle = λ none. absurd (omega arith) })
          (at_snoc (set s.views id (one_less v)) (one_seat v) u j there)

  -- a join
  pub joins : (id : ℕ) (v : View) (other : ℕ) (w : View) → 0 < v.stands_for → Joins {S = Unit {0}} (λ s. Kept counts seats s.words s.views) id v other w (joined v w) no_seat
  joins id v other w some_seat s kept at apart found = record {
    one_word_each = kept.one_word_each;
    few_places = kept.few_places;
    few_seats = kept.few_seats;
    each_seat = omega (arith, sums seats_of, kept.each_seat);
    each_sound = sound;
    once = λ run k under. omega (arith, sums (drawn_in run k), drawn run k, kept.once run k under);
    nothing_else = λ run k over. omega (arith, sums (drawn_in run k), drawn run k, kept.nothing_else run k over);
    counted = λ run. omega (arith, sums (times_told run), told run, kept.counted run);
  }
    where
      sums : (f : View → ℕ) → sum_by f (set (set s.views id (joined v w)) other no_seat) + f w + f v ≡ sum_by f s.views + f (joined v w) + f no_seat
      sums f = omega (arith, sum_set f (set s.views id (joined v w)) other w no_seat found, sum_set f s.views id v (joined v w) at)

      drawn : (run k : ℕ) → drawn_in run k (joined v w) ≡ drawn_in run k w + drawn_in run k v
      drawn run k = sum_by-append (λ draw. one_if (is_draw_of run k draw)) w.drawn v.drawn

      told : (run : ℕ) → times_told run (joined v w) ≡ times_told run w + times_told run v
      told run = sum_by-append (λ other. one_if (nat_eq other run)) w.spent v.spent

      was : IsSound counts seats v
      was = kept.each_sound id v at

      other_was : IsSound counts seats w
      other_was = kept.each_sound other w (sym (set_else s.views id other (joined v w) apart) ∙ found)

      both : IsSound counts seats (joined v w)
      both = record { plan = λ _. was.plan some_seat; told = λ run. omega (arith, told run, was.told run, other_was.told run); idle = λ none. absurd (omega arith) }

      nobody : IsSound counts seats no_seat
      nobody = record { plan = λ some. absurd (omega arith); told = λ run. omega arith; idle = λ _. refl }

      sound : (j : ℕ) (u : View) → get_elem? (set (set s.views id (joined v w)) other no_seat) j ≡ some u → IsSound counts seats u
      sound j u there = ⊎_elim
          (λ (here : (j ≡ other) × (no_seat ≡ u)). subst (IsSound counts seats) here.1 nobody)
          (λ (else : (j ≢ other) × (get_elem? (set s.views id (joined v w)) j ≡ some u)). sound_after kept id v at (joined v w) both j u else.1)
          (at_set (set s.views id (joined v w)) other j no_seat u there)

  -- who stands for all seats knows all draws
  module _ (words : List ℕ) (views : List View) (id : ℕ) (v : View) (kept : Kept counts seats words views) (at : get_elem? views id ≡ some v) (some_seat : 0 < v.stands_for) (all : v.stands_for ≡ v.seats) where
    plan : (v.counts ≡ counts) × (v.seats ≡ seats)
    plan = (kept.each_sound id v at).plan some_seat

    lengths : run_lengths v.counts ≡ run_lengths counts
    lengths = ap run_lengths plan.0

    same : (run : ℕ) → run_length v.counts run ≡ run_length counts run
    same run = ap (λ (l : List ℕ). slice_index l run) lengths

    alone : (run k : ℕ) → sum_by (drawn_in run k) views ≡ drawn_in run k v
    alone run k =
        sum_alone (drawn_in run k) seats_of views id v at (omega (arith, kept.each_seat, plan.1))
        (λ j u there none. ap (times_drawn run k) ((kept.each_sound j u there).idle none))

    nothing_else : (run k : ℕ) → run_length v.counts run ≤ k → times_drawn run k v.drawn ≡ 0
    nothing_else run k over = omega (arith, alone run k, kept.nothing_else run k (omega (arith, same run)))

    at_most : (run k : ℕ) → times_drawn run k v.drawn ≤ 1
    at_most run k = ⊎_elim
        (λ (below : k < drawn_of counts words run). omega (arith, alone run k, kept.once run k below))
        (λ (over : drawn_of counts words run ≤ k). omega (arith, alone run k, kept.nothing_else run k over))
        (cases_lt k (drawn_of counts words run))

    pub gathers_some : AtMostOnce (run_lengths v.counts) v.drawn
    gathers_some = record { once = at_most; nothing_else = nothing_else }

    pub gathers : ((run : ℕ) → run < length (run_lengths v.counts) → Contains v.spent run) → EachOnce (run_lengths v.counts) v.drawn
    gathers each_told = record { once = once; nothing_else = nothing_else }
      where
        spent : (run : ℕ) → run_length counts run ≤ drawn_of counts words run
        spent run = ⊎_elim
            (λ (within : run < length (run_lengths counts)).
            let told = told_once run v.spent (each_told run (omega (arith, ap length lengths))) in
            omega (arith, told, part_of_sum (times_told run) views id v at, kept.counted run))
            (λ (over : length (run_lengths counts) ≤ run). omega (arith, get_or_past (run_lengths counts) run 0 over))
            (cases_lt run (length (run_lengths counts)))

        once : (run k : ℕ) → k < run_length v.counts run → times_drawn run k v.drawn ≡ 1
        once run k below = omega (arith, alone run k, kept.once run k (omega (arith, spent run, same run)))
