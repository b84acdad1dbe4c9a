-- The last page of a list, and the end of all rounds.
use Rattle.std.proofs.Common.{◌≡◌, ℕ, ◌+◌, ◌-◌, ◌<◌, None, Some, List, [], ◌∷◌, length, sym, subst, ap, arith, IsPermutation, Contains, get_or}
use Rattle.std.specs.Prelude.{slice_get}
use Rattle.std.proofs.lemmas.List.Sorted.{length_permutation}
use Rattle.std.proofs.lemmas.Option.{slice_get-get_or}

-- only an empty list has no last page
pub none-last : (shown pages : List ℕ) → shown ≡ pages → None ≡ slice_get shown (length shown - 1) → pages ≡ []
none-last [] pages same none = sym same
none-last (page ∷ rest) pages same none =
    let there = slice_get-get_or (page ∷ rest) (length (page ∷ rest) - 1) page (omega arith) in
    cc

pub contains-last : (shown pages : List ℕ) (page : ℕ) → shown ≡ pages → Some page ≡ slice_get shown (length shown - 1) → Contains pages page
contains-last [] pages page same last = cc
contains-last (first ∷ rest) pages page same last =
    let below : length (first ∷ rest) - 1 < length (first ∷ rest) = omega arith in
    let there = slice_get-get_or (first ∷ rest) (length (first ∷ rest) - 1) page below in
    let is : get_or (first ∷ rest) (length (first ∷ rest) - 1) page ≡ page = cc in
    subst (λ (some : List ℕ). Contains some page) same (length (first ∷ rest) - 1, below, is)

-- where nothing is left, each page was found
pub each-found : (pages turned left : List ℕ) (hits hits_then : ℕ) → IsPermutation pages turned → left ≡ [] → hits_then + length left ≡ hits + length turned
    → hits_then ≡ hits + length pages
each-found pages turned left hits hits_then same none found =
    let long = length_permutation pages turned same in
    let gone : length left ≡ 0 = ap (λ (some : List ℕ). length some) none in
    omega (arith, long, gone, found)
