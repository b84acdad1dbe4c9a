-- Lists in pieces, sums over them, and lists in another order.
use Rattle.std.proofs.Common.{◌≡◌, ℕ, zero, suc, ◌+◌, ◌<◌, ◌≤◌, List, [], ◌∷◌, ◌++◌, map, length, get_or, set, swap, refl, ap, ◌∙◌, subst, arith, append_assoc, IsPermutation}
use Rattle.std.proofs.lemmas.List.{get_or-append-add, get_or_append_left, length-append}
use Rattle.std.proofs.lemmas.List.Elements.{All-head, All-tail}
use Rattle.std.proofs.lemmas.List.Sorted.{IsPermutation-refl, IsPermutation-keeps, IsPermutation-trans, IsPermutation-append, IsPermutation-append_left, IsPermutation-append_right, IsPermutation-append_comm}
use Rattle.std.proofs.lemmas.List.Sums.{sum_by-cons}
use Rattle.std.specs.Prelude.{All}
use Rattle.std.specs.List.{flat_map, sum_by}

-- what was put behind nothing
pub behind-none : {X : Type 0} (none xs rest : List X) → none ≡ [] → xs ≡ none ++ rest → xs ≡ rest
behind-none {X = X} none xs rest is more = more ∙ ap (λ (l : List X). l ++ rest) is

-- what holds of lists put together holds of each
pub all-first : {X : Type 0} (P : X → Type 0) (xs ys : List X) → All P (xs ++ ys) → All P xs
all-first P xs ys all = λ k d below. subst P (get_or_append_left xs ys d k below) (all k d (omega (arith, below, length-append xs ys)))

pub all-behind : {X : Type 0} (P : X → Type 0) (xs ys : List X) → All P (xs ++ ys) → All P ys
all-behind P xs ys all = λ k d below. subst P (get_or-append-add xs ys k d) (all (length xs + k) d (omega (arith, below, length-append xs ys)))

-- sums over the values of a function, and by functions that agree on each item
pub sum_by-map : {A B : Type 0} (f : B → ℕ) (g : A → B) (xs : List A) → sum_by f (map g xs) ≡ sum_by (λ x. f (g x)) xs
sum_by-map f g [] = refl
sum_by-map f g (x ∷ xs) = omega (arith, sum_by-cons f (g x) (map g xs), sum_by-cons (λ y. f (g y)) x xs, sum_by-map f g xs)

pub sum_by-same : {A : Type 0} (f g : A → ℕ) (xs : List A) → All (λ x. f x ≡ g x) xs → sum_by f xs ≡ sum_by g xs
sum_by-same f g [] all = refl
sum_by-same f g (x ∷ xs) all =
    omega (arith, sum_by-cons f x xs, sum_by-cons g x xs, All-head (λ y. f y ≡ g y) x xs all, sum_by-same f g xs (All-tail (λ y. f y ≡ g y) x xs all))

pub sum_by-fewer : {A : Type 0} (f g : A → ℕ) (xs : List A) → All (λ x. f x ≤ g x) xs → sum_by f xs ≤ sum_by g xs
sum_by-fewer f g [] all = omega arith
sum_by-fewer f g (x ∷ xs) all =
    omega (arith, sum_by-cons f x xs, sum_by-cons g x xs, All-head (λ y. f y ≤ g y) x xs all, sum_by-fewer f g xs (All-tail (λ y. f y ≤ g y) x xs all))

-- A relation holds along each permutation if it is reflexive and transitive, and goes under a head and over an exchange of two heads.
module _ {X : Type 0} (R : List X → List X → Type 0) (same : (xs : List X) → R xs xs)
    (skip : (x : X) (xs ys : List X) → R xs ys → R (x ∷ xs) (x ∷ ys))
    (turn : (x y : X) (xs : List X) → R (x ∷ y ∷ xs) (y ∷ x ∷ xs))
    (chain : (xs ys zs : List X) → R xs ys → R ys zs → R xs zs) where
  to_head : (l : List X) (j : ℕ) (x d : X) → j < length l → R (x ∷ l) (get_or l j d ∷ set l j x)
  to_head [] j x d below = absurd (omega arith)
  to_head (y ∷ l) zero x d below = turn x y l
  to_head (y ∷ l) (suc j) x d below =
      chain _ _ _ (turn x y l) (chain _ _ _ (skip y _ _ (to_head l j x d (omega arith))) (turn y (get_or l j d) (set l j x)))

  exchanged : (l : List X) (i j : ℕ) (d : X) → i < length l → j < length l → R l (set (set l i (get_or l j d)) j (get_or l i d))
  exchanged [] i j d below_i below_j = absurd (omega arith)
  exchanged (x ∷ l) zero zero d below_i below_j = same (x ∷ l)
  exchanged (x ∷ l) zero (suc j) d below_i below_j = to_head l j x d (omega arith)
  exchanged (x ∷ l) (suc i) zero d below_i below_j = to_head l i x d (omega arith)
  exchanged (x ∷ l) (suc i) (suc j) d below_i below_j = skip x _ _ (exchanged l i j d (omega arith) (omega arith))

  swapped : (l : List X) (i j : ℕ) → i < length l → j < length l → R l (swap l i j)
  swapped [] i j below_i below_j = same []
  swapped (x ∷ l) i j below_i below_j = exchanged (x ∷ l) i j x below_i below_j

  pub along_permutation : (xs ys : List X) → IsPermutation xs ys → R xs ys
  along_permutation xs = IsPermutation-keeps xs (R xs) (same xs) (λ l i j below_i below_j held. chain xs l _ held (swapped l i j below_i below_j))

pub IsPermutation-flat_map : {A B : Type 0} (f : A → List B) (xs ys : List A) → IsPermutation xs ys → IsPermutation (flat_map f xs) (flat_map f ys)
IsPermutation-flat_map f = along_permutation (λ xs ys. IsPermutation (flat_map f xs) (flat_map f ys))
    (λ xs. IsPermutation-refl _)
    (λ x xs ys held. IsPermutation-append_right (f x) _ _ held)
    (λ x y xs. rw (← append_assoc (f x), ← append_assoc (f y)) (IsPermutation-append_left (flat_map f xs) _ _ (IsPermutation-append_comm (f x) (f y))))
    (λ xs ys zs. IsPermutation-trans _ _ _)

pub IsPermutation-flat_each : {A B : Type 0} (f g : A → List B) (xs : List A) → All (λ x. IsPermutation (f x) (g x)) xs → IsPermutation (flat_map f xs) (flat_map g xs)
IsPermutation-flat_each f g [] all = IsPermutation-refl []
IsPermutation-flat_each f g (x ∷ xs) all =
    IsPermutation-append _ _ _ _ (All-head (λ y. IsPermutation (f y) (g y)) x xs all) (IsPermutation-flat_each f g xs (All-tail (λ y. IsPermutation (f y) (g y)) x xs all))

pub map-set_same : {A B : Type 0} (f : A → B) (xs : List A) (k : ℕ) (y d : A) → k < length xs → f y ≡ f (get_or xs k d) → map f (set xs k y) ≡ map f xs
map-set_same f [] k y d below same = absurd (omega arith)
map-set_same {B = B} f (x ∷ xs) zero y d below same = ap (λ (z : B). z ∷ map f xs) same
map-set_same {B = B} f (x ∷ xs) (suc k) y d below same = ap (λ (l : List B). f x ∷ l) (map-set_same f xs k y d (omega (arith, below)) same)
