-- Of which parts a worker was told that none is left.
use Rattle.std.proofs.Common.{◌≡◌, ℕ, zero, suc, ◌+◌, ◌-◌, ◌<◌, ◌≤◌, List, [], ◌∷◌, ◌++◌, sym, ap, ◌∙◌, subst, ⊎_elim, arith, append_assoc}
use Rattle.std.proofs.lemmas.Bool.{cases_lt}
use Rattle.std.proofs.lemmas.List.Elements.{Contains-append_cases, Contains-append_left, Contains-append_right}
use Rattle.std.proofs.lemmas.List.FromFn.{get_or-range_with_len, length-range_with_len}
use Rattle.std.specs.List.{Contains, range_with_len}

pub range-more : (from count : ℕ) → range_with_len from (suc count) ≡ range_with_len from count ++ (from + count) ∷ []
range-more from zero = let here : from + 0 ≡ from = omega arith in ap (λ (n : ℕ). n ∷ []) (sym here)
range-more from (suc count) =
    let same : from + 1 + count ≡ from + suc count = omega arith in
    ap (λ (l : List ℕ). from ∷ l) (range-more (from + 1) count ∙ ap (λ (n : ℕ). range_with_len (from + 1) count ++ n ∷ []) same)

pub in_range : (from count part : ℕ) → Contains (range_with_len from count) part → (from ≤ part) × (part < from + count)
in_range from count part found =
    let below : found.0 < count = omega (arith, found.1, length-range_with_len from count) in
    let read = get_or-range_with_len from count found.0 part below in
    (omega (arith, read, found.2), omega (arith, read, found.2, below))

pub stands_in : (from count part : ℕ) → from ≤ part → part < from + count → Contains (range_with_len from count) part
stands_in from count part above below =
    let place : from + (part - from) ≡ part = omega (arith, above) in
    (part - from, omega (arith, above, below, length-range_with_len from count), get_or-range_with_len from count (part - from) part (omega (arith, above, below)) ∙ place)

-- the parts from `first` on in order, of which no later one was told
pub not_yet : (told : List ℕ) (first count part : ℕ) → first + count ≤ part → (Contains told part → ⊥) → Contains (told ++ range_with_len first count) part → ⊥
not_yet told first count part past untold found = ⊎_elim
    (λ (was : Contains told part). untold was)
    (λ (now : Contains (range_with_len first count) part). absurd (omega (arith, past, (in_range first count part now).1)))
    (Contains-append_cases told (range_with_len first count) part found)

pub told-more : (told now after : List ℕ) (first part : ℕ) → first ≤ part → now ≡ told ++ range_with_len first (part - first) → after ≡ now ++ part ∷ []
    → after ≡ told ++ range_with_len first (part + 1 - first)
told-more told now after first part above is more =
    let count : suc (part - first) ≡ part + 1 - first = omega (arith, above) in
    let place : first + (part - first) ≡ part = omega (arith, above) in
    more ∙ ap (λ (l : List ℕ). l ++ part ∷ []) is ∙ append_assoc told (range_with_len first (part - first)) (part ∷ [])
    ∙ ap (λ (n : ℕ). told ++ (range_with_len first (part - first) ++ n ∷ [])) (sym place)
    ∙ ap (λ (l : List ℕ). told ++ l) (sym (range-more first (part - first)))
    ∙ ap (λ (n : ℕ). told ++ range_with_len first n) count

-- before the first one none was told
pub not_before : (first count part : ℕ) → part < first → Contains (range_with_len first count) part → ⊥
not_before first count part before found = absurd (omega (arith, before, (in_range first count part found).0))

-- the own part and those behind it, and then those before it, are all
pub all_told : (told : List ℕ) (own parts part count zeros : ℕ) → told ≡ range_with_len own count ++ range_with_len 0 zeros → count ≡ parts - own → zeros ≡ own
    → own ≤ parts → part < parts → Contains told part
all_told told own parts part count zeros is many before within below = subst (λ (l : List ℕ). Contains l part) (sym is) (⊎_elim
    (λ (less : part < own). Contains-append_right (range_with_len own count) (range_with_len 0 zeros) part (stands_in 0 zeros part (omega arith) (omega (arith, less, before))))
    (λ (more : own ≤ part). Contains-append_left (range_with_len own count) (range_with_len 0 zeros) part (stands_in own count part more (omega (arith, more, below, many, within))))
    (cases_lt part own))
