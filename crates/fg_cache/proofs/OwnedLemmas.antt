-- The entries in use of a page set are no more than its pages that may be asked for, and the sets share these pages out.
use Rattle.std.proofs.Common.{◌≡◌, ◌∙◌, ℕ, ◌+◌, ◌%◌, ◌<◌, ◌≤◌, ◌==◌, suc, Bool, true, false, Some, List, [], ◌∷◌, length, get_or, refl, sym, ap, arith, ◌⊎◌, inl, inr}
use lib.Dec.{ltb}
use Rattle.std.specs.List.{Contains, filter, remove, sum_by}
use Rattle.std.proofs.lemmas.Bool.{cases_Bool, eqb-true, ltb-true, ltb-false}
use Rattle.std.proofs.lemmas.List.Elements.{Contains-append_cases, Contains-push_cases}
use Rattle.std.proofs.lemmas.List.Sorted.{IsPermutation-remove, Contains-permutation, length_permutation}
use Rattle.std.proofs.lemmas.List.Sums.{sum_by-cons}
use Rattle.fg_set.specs.Entry.{blank, page_of, is_empty}
use Rattle.fg_set.specs.declared.entry.Entry.{Entry}
use Rattle.fg_cache.specs.Joining.{owned}
use Rattle.fg_cache.specs.Names.{LockOf}
use Rattle.fg_cache.specs.Site.{Site, asked_pages, own_pages}
use Rattle.fg_cache.specs.SetDesk.{uses}
use Rattle.fg_cache.proofs.CountLemmas.{none_in_empty}
use Rattle.fg_cache.proofs.UsedLemmas.{number_of, numbered}

pub used_few : (entries : List Entry) (own : List ℕ) →
    ((i j page : ℕ) → page_of (get_or entries i blank) ≡ Some page → page_of (get_or entries j blank) ≡ Some page → i ≡ j) →
    ((i page : ℕ) → page_of (get_or entries i blank) ≡ Some page → Contains own page) → sum_by uses entries ≤ length own
used_few [] own apart lists = omega arith
used_few (entry ∷ entries) own apart lists =
    let split = sum_by-cons uses entry entries in
    let later : (i j page : ℕ) → page_of (get_or entries i blank) ≡ Some page → page_of (get_or entries j blank) ≡ Some page → i ≡ j =
    λ i j page one other. let step : suc i ≡ suc j = apart (suc i) (suc j) page one other in omega (arith, step) in
    elim (cases_Bool (is_empty entry)) [
      | inl empty ↦
          let rest = used_few entries own later (λ i page has. lists (suc i) page has) in
          let none : uses entry ≡ 0 = rw empty refl in
          omega (arith, split, none, rest)
      | inr full ↦
          let here : page_of entry ≡ Some (number_of entry) = numbered entry.state full in
          let has : Contains own (number_of entry) = lists 0 (number_of entry) here in
          let left : List ℕ = remove own has.0 in
          let shuffled = IsPermutation-remove own has.0 (number_of entry) has.1 (sym has.2) in
          let fewer : length (number_of entry ∷ left) ≡ length own = length_permutation own (number_of entry ∷ left) shuffled in
          let lists_left : (i page : ℕ) → page_of (get_or entries i blank) ≡ Some page → Contains left page = λ i page there.
          let among : Contains (number_of entry ∷ left) page = Contains-permutation own (number_of entry ∷ left) page shuffled (lists (suc i) page there) in
          elim (Contains-append_cases (number_of entry ∷ []) left page among) [
            | inl same' ↦ elim (Contains-push_cases [] (number_of entry) page same') [
              | inl none ↦ absurd (none_in_empty page none)
              | inr same ↦ absurd (let step : 0 ≡ suc i = apart 0 (suc i) page (here ∙ ap Some same) there in omega (arith, step))
            ]
            | inr more ↦ more
          ]
          in
          let rest = used_few entries left later lists_left in
          let one : uses entry ≡ 1 = rw full refl in
          omega (arith, split, one, rest, fewer)
    ]

-- one more or none
counted : (p : ℕ → Bool) (x : ℕ) (xs : List ℕ) → ((p x ≡ true) × (length (filter p (x ∷ xs)) ≡ 1 + length (filter p xs))) ⊎ ((p x ≡ false) × (length (filter p (x ∷ xs)) ≡ length (filter p xs)))
counted p x xs = elim (cases_Bool (p x)) [
  | inl one ↦ inl (one, rw one (omega arith))
  | inr none ↦ inr (none, rw none refl)
]

-- the pages of set `first`, and those of the sets behind it, are pages of the sets from `first` on
apart : (n first : ℕ) (xs : List ℕ) → length (filter (λ p. p % n == first) xs) + length (filter (λ p. ltb (suc first) (suc (p % n))) xs) ≤ length (filter (λ p. ltb first (suc (p % n))) xs)
apart n first [] = omega arith
apart n first (x ∷ xs) =
    let rest = apart n first xs in
    elim (counted (λ p. p % n == first) x xs) [
      | inl one ↦ let at : x % n ≡ first = eqb-true (x % n) first one.0 in elim (counted (λ p. ltb (suc first) (suc (p % n))) x xs) [
        | inl two ↦ absurd (let low = ltb-true (suc first) (suc (x % n)) two.0 in omega (arith, low, at))
        | inr two ↦ elim (counted (λ p. ltb first (suc (p % n))) x xs) [
          | inl all ↦ omega (arith, rest, one.1, two.1, all.1)
          | inr all ↦ absurd (let low = ltb-false first (suc (x % n)) all.0 in omega (arith, low, at))
        ]
      ]
      | inr one ↦ elim (counted (λ p. ltb (suc first) (suc (p % n))) x xs) [
        | inl two ↦ elim (counted (λ p. ltb first (suc (p % n))) x xs) [
          | inl all ↦ omega (arith, rest, one.1, two.1, all.1)
          | inr all ↦ absurd (let low = ltb-false first (suc (x % n)) all.0 in let high = ltb-true (suc first) (suc (x % n)) two.0 in omega (arith, low, high))
        ]
        | inr two ↦ elim (counted (λ p. ltb first (suc (p % n))) x xs) [
          | inl all ↦ omega (arith, rest, one.1, two.1, all.1)
          | inr all ↦ omega (arith, rest, one.1, two.1, all.1)
        ]
      ]
    ]

fewer : (p : ℕ → Bool) (xs : List ℕ) → length (filter p xs) ≤ length xs
fewer p [] = omega arith
fewer p (x ∷ xs) =
    let rest = fewer p xs in
    elim (counted p x xs) [
      | inl one ↦ omega (arith, rest, one.1)
      | inr one ↦ omega (arith, rest, one.1)
    ]

behind : (site : Site) (first : ℕ) (locks : List LockOf) →
    ((k : ℕ) (d : LockOf) → k < length locks → get_or locks k d ≡ record { site = site; number = first + k }) →
    sum_by owned locks ≤ length (filter (λ p. ltb first (suc (p % site.shape.sets))) (asked_pages site))
unfolding own_pages
behind site first [] names = omega arith
behind site first (lock ∷ locks) names =
    let none : first + 0 ≡ first = omega arith in
    let here : lock ≡ record { site = site; number = first + 0 } = names 0 lock (omega arith) in
    let at : owned lock ≡ length (filter (λ p. p % site.shape.sets == first) (asked_pages site)) = ap owned here ∙ ap (λ (n : ℕ). length (own_pages site n)) none in
    let rest = behind site (suc first) locks (λ k d h.
    let next : suc first + k ≡ first + suc k = omega arith in
    names (suc k) d (omega (arith, h)) ∙ ap (λ (n : ℕ). record { site = site; number = n }) (sym next)) in
    omega (arith, sum_by-cons owned lock locks, at, rest, apart site.shape.sets first (asked_pages site))

-- the sets own no more pages than may be asked for
pub owned_few : (site : Site) (locks : List LockOf) → ((k : ℕ) (d : LockOf) → k < length locks → get_or locks k d ≡ record { site = site; number = k }) →
    sum_by owned locks ≤ length (asked_pages site)
owned_few site locks names =
    let most = behind site 0 locks (λ k d h. names k d h ∙ ap (λ (n : ℕ). record { site = site; number = n }) (let none : k ≡ 0 + k = omega arith in none)) in
    omega (arith, most, fewer (λ p. ltb 0 (suc (p % site.shape.sets))) (asked_pages site))
