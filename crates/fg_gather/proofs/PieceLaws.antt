-- A list of which one piece changed.
use Rattle.std.proofs.Common.{◌≡◌, ℕ, zero, suc, ◌+◌, ◌-◌, ◌<◌, ◌≤◌, List, [], ◌∷◌, ◌++◌, length, get_or, take, drop, subst, ap, ◌∙◌, arith}
use Rattle.std.proofs.lemmas.List.{get_or-append-add, get_or-append_right, get_or-drop, get_or-take, get_or_append_left, length-append, length-drop, length-take-le}
use Rattle.std.specs.Prelude.{All}
use Rattle.std.specs.List.{flat_map}
use borrow.Rule.Slice.PartMut.{put_mid}

-- the places from a to below a + k hold ys now
module _ {X : Type 0} (a k : ℕ) (xs ys : List X) (whole : length ys ≡ k) (inside : a + k ≤ length xs) where
  first : length (take a xs) ≡ a
  first = length-take-le a xs (omega (arith, inside))

  pub length-piece : length (put_mid a k xs ys) ≡ length xs
  length-piece =
      let one = length-append (take a xs) (ys ++ drop k (drop a xs)) in
      let two = length-append ys (drop k (drop a xs)) in
      omega (arith, one, two, first, whole, inside, length-drop k (drop a xs), length-drop a xs)

  pub piece-before : (i : ℕ) (d : X) → i < a → get_or (put_mid a k xs ys) i d ≡ get_or xs i d
  piece-before i d below = get_or_append_left (take a xs) (ys ++ drop k (drop a xs)) d i (omega (arith, below, first)) ∙ get_or-take a xs i d below

  pub piece-in : (i : ℕ) (d : X) → a ≤ i → i < a + k → get_or (put_mid a k xs ys) i d ≡ get_or ys (i - a) d
  piece-in i d from below =
      get_or-append_right (take a xs) (ys ++ drop k (drop a xs)) a i d first from
      ∙ get_or_append_left ys (drop k (drop a xs)) d (i - a) (omega (arith, from, below, whole))

  pub piece-behind : (i : ℕ) (d : X) → a + k ≤ i → get_or (put_mid a k xs ys) i d ≡ get_or xs i d
  piece-behind i d past =
      let there : a + (k + (i - a - k)) ≡ i = omega (arith, past) in
      get_or-append_right (take a xs) (ys ++ drop k (drop a xs)) a i d first (omega (arith, past))
      ∙ get_or-append_right ys (drop k (drop a xs)) k (i - a) d whole (omega (arith, past))
      ∙ get_or-drop k (drop a xs) (i - a - k) d ∙ get_or-drop a xs (k + (i - a - k)) d
      ∙ ap (λ (j : ℕ). get_or xs j d) there

-- what holds of lists put together holds of each
pub all-first : {X : Type 0} (P : X → Type 0) (xs ys : List X) → All P (xs ++ ys) → All P xs
all-first P xs ys all = λ k d below. subst P (get_or_append_left xs ys d k below) (all k d (omega (arith, below, length-append xs ys)))

pub all-behind : {X : Type 0} (P : X → Type 0) (xs ys : List X) → All P (xs ++ ys) → All P ys
all-behind P xs ys all = λ k d below. subst P (get_or-append-add xs ys k d) (all (length xs + k) d (omega (arith, below, length-append xs ys)))

pub all-of_piece : {X Y : Type 0} (P : Y → Type 0) (f : X → List Y) (xs : List X) (i : ℕ) (d : X) → i < length xs → All P (flat_map f xs) → All P (f (get_or xs i d))
all-of_piece P f [] i d below all = absurd (omega (arith, below))
all-of_piece P f (x ∷ xs) zero d below all = all-first P (f x) (flat_map f xs) all
all-of_piece P f (x ∷ xs) (suc i) d below all = all-of_piece P f xs i d (omega (arith, below)) (all-behind P (f x) (flat_map f xs) all)
