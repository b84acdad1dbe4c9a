-- Lists in another order, and what a list with one more at its head contains.
use Rattle.std.proofs.Common.{◌≡◌, ℕ, zero, suc, ◌<◌, ◌⊎◌, inl, inr, List, [], ◌∷◌, ◌++◌, length, get_or, set, swap, ap, ◌∙◌, sym, subst, arith, append_assoc, IsPermutation}
use Rattle.std.specs.List.{Contains, flat_map}
use Rattle.std.proofs.lemmas.List.{append-nil}
use Rattle.std.proofs.lemmas.List.Concat.{flat_map-append}
use Rattle.std.proofs.lemmas.List.Sorted.{IsPermutation-refl, IsPermutation-keeps, IsPermutation-trans, IsPermutation-append_left, IsPermutation-append_right, IsPermutation-append_comm}

-- A relation holds along each permutation if it is reflexive and transitive, and goes under a head and over an exchange of two heads.
module _ {X : Type 0} (R : List X → List X → Type 0) (same : (xs : List X) → R xs xs)
    (skip : (x : X) (xs ys : List X) → R xs ys → R (x ∷ xs) (x ∷ ys))
    (turn : (x y : X) (xs : List X) → R (x ∷ y ∷ xs) (y ∷ x ∷ xs))
    (chain : (xs ys zs : List X) → R xs ys → R ys zs → R xs zs) where
  to_head : (l : List X) (j : ℕ) (x d : X) → j < length l → R (x ∷ l) (get_or l j d ∷ set l j x)
  to_head [] j x d below = absurd (omega arith)
  to_head (y ∷ l) zero x d below = turn x y l
  to_head (y ∷ l) (suc j) x d below =
      chain _ _ _ (turn x y l) (chain _ _ _ (skip y _ _ (to_head l j x d (omega arith))) (turn y (get_or l j d) (set l j x)))

  exchanged : (l : List X) (i j : ℕ) (d : X) → i < length l → j < length l → R l (set (set l i (get_or l j d)) j (get_or l i d))
  exchanged [] i j d below_i below_j = absurd (omega arith)
  exchanged (x ∷ l) zero zero d below_i below_j = same (x ∷ l)
  exchanged (x ∷ l) zero (suc j) d below_i below_j = to_head l j x d (omega arith)
  exchanged (x ∷ l) (suc i) zero d below_i below_j = to_head l i x d (omega arith)
  exchanged (x ∷ l) (suc i) (suc j) d below_i below_j = skip x _ _ (exchanged l i j d (omega arith) (omega arith))

  swapped : (l : List X) (i j : ℕ) → i < length l → j < length l → R l (swap l i j)
  swapped [] i j below_i below_j = same []
  swapped (x ∷ l) i j below_i below_j = exchanged (x ∷ l) i j x below_i below_j

  along_permutation : (xs ys : List X) → IsPermutation xs ys → R xs ys
  along_permutation xs = IsPermutation-keeps xs (R xs) (same xs) (λ l i j below_i below_j held. chain xs l _ held (swapped l i j below_i below_j))

pub IsPermutation-flat_map : {A B : Type 0} (f : A → List B) (xs ys : List A) → IsPermutation xs ys → IsPermutation (flat_map f xs) (flat_map f ys)
IsPermutation-flat_map f = along_permutation (λ xs ys. IsPermutation (flat_map f xs) (flat_map f ys))
    (λ xs. IsPermutation-refl _)
    (λ x xs ys held. IsPermutation-append_right (f x) _ _ held)
    (λ x y xs. rw (← append_assoc (f x), ← append_assoc (f y)) (IsPermutation-append_left (flat_map f xs) _ _ (IsPermutation-append_comm (f x) (f y))))
    (λ xs ys zs. IsPermutation-trans _ _ _)

-- the first, or one behind it
pub Contains-cases : {X : Type 0} (x : X) (xs : List X) (y : X) → Contains (x ∷ xs) y → (x ≡ y) ⊎ Contains xs y
Contains-cases x xs y (zero, below, is) = inl is
Contains-cases x xs y (suc k, below, is) = inr (k, omega (arith, below), is)

pub Contains-later : {X : Type 0} (x : X) (xs : List X) (y : X) → Contains xs y → Contains (x ∷ xs) y
Contains-later x xs y (k, below, is) = (suc k, omega (arith, below), is)

pub Contains-first : {X : Type 0} (x : X) (xs : List X) (y : X) → x ≡ y → Contains (x ∷ xs) y
Contains-first x xs y is = (0, omega arith, is)

-- a list with one more at its end
pub flat_map-push : {A B : Type 0} (f : A → List B) (xs : List A) (x : A) → flat_map f (xs ++ x ∷ []) ≡ flat_map f xs ++ f x
flat_map-push {B = B} f xs x = flat_map-append f xs (x ∷ []) ∙ ap (λ (last : List B). flat_map f xs ++ last) (append-nil (f x))

-- two pieces between which others came
pub IsPermutation-between : {X : Type 0} (a b c d : List X) → IsPermutation ((a ++ c) ++ (b ++ d)) ((a ++ b) ++ (c ++ d))
IsPermutation-between {X} a b c d =
    let turned : IsPermutation ((c ++ b) ++ d) ((b ++ c) ++ d) = IsPermutation-append_left d (c ++ b) (b ++ c) (IsPermutation-append_comm c b) in
    let under : IsPermutation (a ++ ((c ++ b) ++ d)) (a ++ ((b ++ c) ++ d)) = IsPermutation-append_right a ((c ++ b) ++ d) ((b ++ c) ++ d) turned in
    let left : a ++ ((c ++ b) ++ d) ≡ (a ++ c) ++ (b ++ d) = ap (λ (l : List X). a ++ l) (append_assoc c b d) ∙ sym (append_assoc a c (b ++ d)) in
    let right : a ++ ((b ++ c) ++ d) ≡ (a ++ b) ++ (c ++ d) = ap (λ (l : List X). a ++ l) (append_assoc b c d) ∙ sym (append_assoc a b (c ++ d)) in
    subst (λ (l : List X). IsPermutation l ((a ++ b) ++ (c ++ d))) left (subst (λ (l : List X). IsPermutation (a ++ ((c ++ b) ++ d)) l) right under)
