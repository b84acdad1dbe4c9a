-- Sums over all views, where one view changes, and where all but one are 0.
use Rattle.std.proofs.Common.{◌≡◌, ℕ, zero, suc, ◌+◌, ◌≤◌, List, [], ◌∷◌, set, refl, sym, ap, arith}
use Rattle.std.proofs.lemmas.List.Sums.{sum_by-cons}
use Rattle.std.specs.List.{sum_by}
use mathlib.Core.Option.{some, some-injective, some-ne-none}
use lib.ListN.{get_elem?}

module _ {X : Type 0} (f : X → ℕ) where
  pub sum_set : (xs : List X) (i : ℕ) (v w : X) → get_elem? xs i ≡ some v → sum_by f (set xs i w) + f v ≡ sum_by f xs + f w
  sum_set [] i v w at = absurd (some-ne-none v (sym at))
  sum_set (x ∷ xs) zero v w at = omega (arith, sum_by-cons f x xs, sum_by-cons f w xs, ap f (some-injective x v at))
  sum_set (x ∷ xs) (suc i) v w at = omega (arith, sum_by-cons f x xs, sum_by-cons f x (set xs i w), sum_set xs i v w at)

  pub part_of_sum : (xs : List X) (i : ℕ) (v : X) → get_elem? xs i ≡ some v → f v ≤ sum_by f xs
  part_of_sum [] i v at = absurd (some-ne-none v (sym at))
  part_of_sum (x ∷ xs) zero v at = omega (arith, sum_by-cons f x xs, ap f (some-injective x v at))
  part_of_sum (x ∷ xs) (suc i) v at = omega (arith, sum_by-cons f x xs, part_of_sum xs i v at)

  pub sum_of_none : (xs : List X) → ((i : ℕ) (v : X) → get_elem? xs i ≡ some v → f v ≡ 0) → sum_by f xs ≡ 0
  sum_of_none [] none = refl
  sum_of_none (x ∷ xs) none = omega (arith, sum_by-cons f x xs, none 0 x refl, sum_of_none xs (λ i v at. none (suc i) v at))

  pub sum_below : (g : X → ℕ) (xs : List X) → ((i : ℕ) (v : X) → get_elem? xs i ≡ some v → f v ≤ g v) → sum_by f xs ≤ sum_by g xs
  sum_below g [] below = omega arith
  sum_below g (x ∷ xs) below = omega (arith, sum_by-cons f x xs, sum_by-cons g x xs, below 0 x refl, sum_below g xs (λ i v at. below (suc i) v at))

-- where v has all of g, and f is 0 wherever g is, v has all of f
module _ {X : Type 0} (f g : X → ℕ) where
  pub sum_alone : (xs : List X) (i : ℕ) (v : X) → get_elem? xs i ≡ some v → sum_by g xs ≡ g v → ((j : ℕ) (u : X) → get_elem? xs j ≡ some u → g u ≡ 0 → f u ≡ 0) → sum_by f xs ≡ f v
  sum_alone [] i v at all idle = absurd (some-ne-none v (sym at))
  sum_alone (x ∷ xs) zero v at all idle =
      let rest : sum_by g xs ≡ 0 = omega (arith, sum_by-cons g x xs, ap g (some-injective x v at)) in
      let none : sum_by f xs ≡ 0 = sum_of_none f xs (λ j u there. idle (suc j) u there (omega (arith, part_of_sum g xs j u there))) in
      omega (arith, sum_by-cons f x xs, ap f (some-injective x v at))
  sum_alone (x ∷ xs) (suc i) v at all idle =
      let part : g v ≤ sum_by g xs = part_of_sum g xs i v at in
      let nothing : g x ≡ 0 = omega (arith, sum_by-cons g x xs) in
      let rest : sum_by g xs ≡ g v = omega (arith, sum_by-cons g x xs) in
      omega (arith, sum_by-cons f x xs, idle 0 x refl nothing, sum_alone xs i v at rest (λ j u there. idle (suc j) u there))
