-- Members of filtered lists, and that numbers apart from each other which all stand in a list are no more than it has.
use Rattle.std.proofs.Common.{◌≡◌, ◌∙◌, ℕ, ◌<◌, ◌≤◌, suc, Bool, true, List, [], ◌∷◌, length, get_or, All, sym, arith, inl, inr}
use Rattle.std.specs.List.{Contains, filter, remove}
use Rattle.std.proofs.lemmas.List.{get_or_default}
use Rattle.std.proofs.lemmas.List.Elements.{Contains-get_or, Contains-append_left, Contains-append_right, Contains-append_cases, Contains-push_cases, Contains-push, All-filter, All-contains, filter-append, filter_passes}
use Rattle.std.proofs.lemmas.List.Sorted.{IsPermutation-remove, Contains-permutation, length_permutation}

pub none_in_empty : {X : Type 0} (x : X) → Contains [] x → ⊥
none_in_empty x has = omega (arith, has.1)

pub contains_filter : {X : Type 0} (p : X → Bool) (xs : List X) (x : X) → Contains xs x → p x ≡ true → Contains (filter p xs) x
contains_filter p [] x has passes = absurd (none_in_empty x has)
contains_filter p (y ∷ xs) x has passes =
    rw (filter-append p (y ∷ []) xs) (elim (Contains-append_cases (y ∷ []) xs x has) [
      | inl here ↦ Contains-append_left (filter p (y ∷ [])) (filter p xs) x (elim (Contains-push_cases [] y x here) [
        | inl none ↦ absurd (none_in_empty x none)
        | inr same ↦ rw (same, passes) (Contains-push [] x)
      ])
      | inr there ↦ Contains-append_right (filter p (y ∷ [])) (filter p xs) x (contains_filter p xs x there passes)
    ])

pub filter_contains : {X : Type 0} (p : X → Bool) (xs : List X) (x : X) → Contains (filter p xs) x → Contains xs x × (p x ≡ true)
filter_contains p xs x has = (
  All-contains (Contains xs) (filter p xs) x (All-filter p (Contains xs) xs (λ k d h. Contains-get_or xs k d h)) has,
  All-contains (λ y. p y ≡ true) (filter p xs) x (filter_passes p xs) has,
)

-- no number stands in the list twice
abbrev pub Apart : List ℕ → Type 0
Apart [] = Unit {0}
Apart (x ∷ xs) = (¬ Contains xs x) × Apart xs

pub apart_from : (xs : List ℕ) → ((i j : ℕ) → i < length xs → j < length xs → get_or xs i 0 ≡ get_or xs j 0 → i ≡ j) → Apart xs
apart_from [] one = tt
apart_from (x ∷ xs) one = (
  (λ has.
      let at : get_or xs has.0 0 ≡ x = get_or_default xs has.0 0 x has.1 ∙ has.2 in
      let same : 0 ≡ suc has.0 = one 0 (suc has.0) (omega arith) (omega (arith, has.1)) (sym at) in
      omega (arith, same)),
  apart_from xs (λ i j below under same.
      let step : suc i ≡ suc j = one (suc i) (suc j) (omega (arith, below)) (omega (arith, under)) same in
      omega (arith, step)),
)

pub no_more_than : (xs ys : List ℕ) → Apart xs → All (Contains ys) xs → length xs ≤ length ys
no_more_than [] ys apart all = omega arith
no_more_than (x ∷ xs) ys apart all =
    let has : Contains ys x = all 0 x (omega arith) in
    let rest : List ℕ = remove ys has.0 in
    let shuffled = IsPermutation-remove ys has.0 x has.1 (sym has.2) in
    let fewer : length (x ∷ rest) ≡ length ys = length_permutation ys (x ∷ rest) shuffled in
    let all_rest : All (Contains rest) xs = λ k d h.
    let y : ℕ = get_or xs k d in
    let there : Contains (x ∷ rest) y = Contains-permutation ys (x ∷ rest) y shuffled (all (suc k) d (omega (arith, h))) in
    elim (Contains-append_cases (x ∷ []) rest y there) [
      | inl here ↦ elim (Contains-push_cases [] x y here) [
        | inl none ↦ absurd (none_in_empty y none)
        | inr same ↦ absurd (apart.0 (rw same (Contains-get_or xs k d h)))
      ]
      | inr more ↦ more
    ]
    in
    let less = no_more_than xs rest apart.1 all_rest in
    omega (arith, less, fewer)
