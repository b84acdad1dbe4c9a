-- For the crates above: a list that has each block once is the list of all blocks in another order, so sums over it, facts on each element and the like are those of all blocks.
use Rattle.std.proofs.Common.{◌≡◌, ℕ, zero, suc, ◌+◌, ◌<◌, ◌≤◌, ◌≢◌, ◌⊎◌, List, [], ◌∷◌, ◌++◌, map, slice_index, refl, sym, ap, inl, inr, ⊎_elim, arith}
use Rattle.std.proofs.lemmas.Bool.{cases_lt, cases_eq}
use Rattle.std.proofs.lemmas.List.Sorted.{IsPermutation-refl, IsPermutation-sym, IsPermutation-cons, IsPermutation-trans, IsPermutation-remove}
use Rattle.std.proofs.lemmas.List.Sums.{sum_by-cons, sum_by-append, sum_by-remove}
use Rattle.std.specs.List.{Contains, range_with_len, remove, sum_by}
use Rattle.std.specs.List.Sorted.{IsPermutation}
use Rattle.fg_steal.specs.Claims.{is_draw_of, times_drawn, EachOnce, AtMostOnce, blocks_from, all_blocks}
use Rattle.fg_steal.proofs.Times.{one_if, same_draw, other_part, other_block, times_more}

abbrev pub hits : ℕ → ℕ → ℕ × ℕ → ℕ
hits part k draw = one_if (is_draw_of part k draw)

pub times_cons : (part k : ℕ) (draw : ℕ × ℕ) (draws : List (ℕ × ℕ)) → times_drawn part k (draw ∷ draws) ≡ hits part k draw + times_drawn part k draws
times_cons part k draw draws = sum_by-cons (hits part k) draw draws

pub times_append : (part k : ℕ) (xs ys : List (ℕ × ℕ)) → times_drawn part k (xs ++ ys) ≡ times_drawn part k xs + times_drawn part k ys
times_append part k xs ys = sum_by-append (hits part k) xs ys

pub contained : (part k : ℕ) (draws : List (ℕ × ℕ)) → 0 < times_drawn part k draws → Contains draws (part, k)
contained part k [] some = absurd (omega arith)
contained part k (draw ∷ draws) some = ⊎_elim
    (λ (same : part ≡ draw.0). ⊎_elim
    (λ (block : draw.1 ≡ k). (0, omega arith, λ i. (sym same i, block i)))
    (λ (differ : draw.1 ≢ k). further (contained part k draws) (other_block part k draw.0 draw.1 same differ))
    (cases_eq draw.1 k))
    (λ (differ : part ≢ draw.0). further (contained part k draws) (other_part part k draw.0 draw.1 differ))
    (cases_eq part draw.0)
  where
    further : (0 < times_drawn part k draws → Contains draws (part, k)) → hits part k draw ≡ 0 → Contains (draw ∷ draws) (part, k)
    further rest none = let found = rest (omega (arith, times_cons part k draw draws)) in (suc found.0, omega (arith, found.1), found.2)

-- lists that have each draw as often as one another are one list in two orders
same_times : (xs ys : List (ℕ × ℕ)) → ((part k : ℕ) → times_drawn part k xs ≡ times_drawn part k ys) → IsPermutation xs ys
same_times [] [] same = IsPermutation-refl []
same_times [] (y ∷ ys) same = absurd (omega (arith, same y.0 y.1, times_cons y.0 y.1 y ys, same_draw y.0 y.1 y.0 y.1 refl refl))
same_times (x ∷ xs) ys same =
    let found = contained x.0 x.1 ys (omega (arith, same x.0 x.1, times_cons x.0 x.1 x xs, same_draw x.0 x.1 x.0 x.1 refl refl)) in
    let rest = remove ys found.0 in
    let moved : IsPermutation ys (x ∷ rest) = IsPermutation-remove ys found.0 x found.1 (sym found.2) in
    let fewer : IsPermutation xs rest = same_times xs rest
    (λ part k. omega (arith, same part k, times_cons part k x xs, sum_by-remove (hits part k) ys found.0 x found.1, ap (hits part k) found.2)) in
    IsPermutation-trans _ _ _ (IsPermutation-cons x xs rest fewer) (IsPermutation-sym _ _ moved)

-- a list that has no draw more often than another comes to no more, by whatever each counts
pub sum_of_fewer : (f : ℕ × ℕ → ℕ) (xs ys : List (ℕ × ℕ)) → ((part k : ℕ) → times_drawn part k xs ≤ times_drawn part k ys) → sum_by f xs ≤ sum_by f ys
sum_of_fewer f [] ys fewer = omega arith
sum_of_fewer f (x ∷ xs) ys fewer =
    let found = contained x.0 x.1 ys (omega (arith, fewer x.0 x.1, times_cons x.0 x.1 x xs, same_draw x.0 x.1 x.0 x.1 refl refl)) in
    let rest = sum_of_fewer f xs (remove ys found.0)
    (λ part k. omega (arith, fewer part k, times_cons part k x xs, sum_by-remove (hits part k) ys found.0 x found.1, ap (hits part k) found.2)) in
    omega (arith, rest, sum_by-cons f x xs, sum_by-remove f ys found.0 x found.1, ap f found.2)

-- draws that have each block at most once, as there are none, as one more comes that is new
pub at_most_none : (counts : List ℕ) → AtMostOnce counts []
at_most_none counts = record { once = λ part k. omega arith; nothing_else = λ part k over. refl }

pub at_most_more : (counts : List ℕ) (draws : List (ℕ × ℕ)) (part k : ℕ) → AtMostOnce counts draws → k < slice_index counts part → times_drawn part k draws ≡ 0
    → AtMostOnce counts (draws ++ (part, k) ∷ [])
at_most_more counts draws part k most block new = record { once = once_more; nothing_else = inside }
  where
    once_more : (q j : ℕ) → times_drawn q j (draws ++ (part, k) ∷ []) ≤ 1
    once_more q j = ⊎_elim
        (λ (same : q ≡ part). ⊎_elim
        (λ (level : k ≡ j). let none : times_drawn q j draws ≡ 0 = rw (same, sym level) new in omega (arith, times_more q j draws part k, same_draw q j part k same level, none))
        (λ (differ : k ≢ j). omega (arith, times_more q j draws part k, other_block q j part k same differ, most.once q j))
        (cases_eq k j))
        (λ (differ : q ≢ part). omega (arith, times_more q j draws part k, other_part q j part k differ, most.once q j))
        (cases_eq q part)

    inside : (q j : ℕ) → slice_index counts q ≤ j → times_drawn q j (draws ++ (part, k) ∷ []) ≡ 0
    inside q j over = ⊎_elim
        (λ (same : q ≡ part). let level : k ≢ j = λ level. omega (arith, ap (slice_index counts) same) in
        omega (arith, times_more q j draws part k, other_block q j part k same level, most.nothing_else q j over))
        (λ (differ : q ≢ part). omega (arith, times_more q j draws part k, other_part q j part k differ, most.nothing_else q j over))
        (cases_eq q part)

abbrev row : ℕ → ℕ → ℕ → List (ℕ × ℕ)
row part from count = map (λ k. (part, k)) (range_with_len from count)

row_of_other : (part k other from count : ℕ) → part ≢ other → times_drawn part k (row other from count) ≡ 0
row_of_other part k other from zero differ = refl
row_of_other part k other from (suc count) differ = omega (arith, times_cons part k (other, from) (row other (from + 1) count), other_part part k other from differ, row_of_other part k other (from + 1) count differ)

row_outside : (part k from count : ℕ) → (k < from) ⊎ (from + count ≤ k) → times_drawn part k (row part from count) ≡ 0
row_outside part k from zero outside = refl
row_outside part k from (suc count) outside =
    let differ : from ≢ k = λ same. ⊎_elim (λ (below : k < from). omega arith) (λ (past : from + suc count ≤ k). omega arith) outside in
    let further : (k < (from + 1)) ⊎ (from + 1 + count ≤ k) = ⊎_elim (λ (below : k < from). inl (omega arith)) (λ (past : from + suc count ≤ k). inr (omega arith)) outside in
    omega (arith, times_cons part k (part, from) (row part (from + 1) count), other_block part k part from refl differ, row_outside part k (from + 1) count further)

row_inside : (part k from count : ℕ) → from ≤ k → k < from + count → times_drawn part k (row part from count) ≡ 1
row_inside part k from zero above below = absurd (omega arith)
row_inside part k from (suc count) above below = ⊎_elim
    (λ (same : from ≡ k). omega (arith, times_cons part k (part, from) (row part (from + 1) count), same_draw part k part from refl same, row_outside part k (from + 1) count (inl (omega arith))))
    (λ (differ : from ≢ k). omega (arith, times_cons part k (part, from) (row part (from + 1) count), other_block part k part from refl differ, row_inside part k (from + 1) count (omega arith) (omega arith)))
    (cases_eq from k)

none_before : (counts : List ℕ) (from part k : ℕ) → part < from → times_drawn part k (blocks_from from counts) ≡ 0
none_before [] from part k before = refl
none_before (count ∷ counts) from part k before =
    omega (arith, times_append part k (row from 0 count) (blocks_from (from + 1) counts), row_of_other part k from 0 count (λ same. omega arith), none_before counts (from + 1) part k (omega arith))

once : (counts : List ℕ) (from i part k : ℕ) → part ≡ from + i → k < slice_index counts i → times_drawn part k (blocks_from from counts) ≡ 1
once [] from i part k is below = absurd (omega arith)
once (count ∷ counts) from zero part k is below =
    let same : part ≡ from = omega arith in
    let here : times_drawn part k (row from 0 count) ≡ 1 = rw same (row_inside from k 0 count (omega arith) (omega arith)) in
    omega (arith, times_append part k (row from 0 count) (blocks_from (from + 1) counts), none_before counts (from + 1) part k (omega arith))
once (count ∷ counts) from (suc i) part k is below =
    omega (arith, times_append part k (row from 0 count) (blocks_from (from + 1) counts), row_of_other part k from 0 count (λ same. omega arith), once counts (from + 1) i part k (omega arith) below)

not_there : (counts : List ℕ) (from i part k : ℕ) → part ≡ from + i → slice_index counts i ≤ k → times_drawn part k (blocks_from from counts) ≡ 0
not_there [] from i part k is over = refl
not_there (count ∷ counts) from zero part k is over =
    let same : part ≡ from = omega arith in
    let here : times_drawn part k (row from 0 count) ≡ 0 = rw same (row_outside from k 0 count (inr (omega arith))) in
    omega (arith, times_append part k (row from 0 count) (blocks_from (from + 1) counts), none_before counts (from + 1) part k (omega arith))
not_there (count ∷ counts) from (suc i) part k is over =
    omega (arith, times_append part k (row from 0 count) (blocks_from (from + 1) counts), row_of_other part k from 0 count (λ same. omega arith), not_there counts (from + 1) i part k (omega arith) over)

pub all_blocks_drawn : (counts : List ℕ) (draws : List (ℕ × ℕ)) → EachOnce counts draws → IsPermutation (all_blocks counts) draws
all_blocks_drawn counts draws each = same_times (all_blocks counts) draws (λ part k. ⊎_elim
    (λ (below : k < slice_index counts part). omega (arith, once counts 0 part part k (omega arith) below, each.once part k below))
    (λ (over : slice_index counts part ≤ k). omega (arith, not_there counts 0 part part k (omega arith) over, each.nothing_else part k over))
    (cases_lt k (slice_index counts part)))

-- draws that have each block at most once come to no more than all blocks
pub within_all : (f : ℕ × ℕ → ℕ) (counts : List ℕ) (draws : List (ℕ × ℕ)) → AtMostOnce counts draws → sum_by f draws ≤ sum_by f (all_blocks counts)
within_all f counts draws most = sum_of_fewer f draws (all_blocks counts) (λ part k. ⊎_elim
    (λ (below : k < slice_index counts part). omega (arith, once counts 0 part part k (omega arith) below, most.once part k))
    (λ (over : slice_index counts part ≤ k). omega (arith, most.nothing_else part k over))
    (cases_lt k (slice_index counts part)))
