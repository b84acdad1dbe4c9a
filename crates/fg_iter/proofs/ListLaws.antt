-- Numbers in a row, what passes a test, and lists put together from pieces.
use Rattle.std.proofs.Common.{◌≡◌, ℕ, zero, suc, ◌+◌, ◌<◌, ◌≤◌, Bool, true, false, cond, Option, None, Some, List, [], ◌∷◌, ◌++◌, map as each, length, refl, ap, subst, sym, ◌∙◌, arith}
use Rattle.std.proofs.lemmas.Grind.{flat_map-append}
use Rattle.std.proofs.lemmas.List.{append-nil}
use Rattle.std.proofs.lemmas.List.Concat.{length-flat_map}
use Rattle.std.proofs.lemmas.List.Elements.{All-head, All-tail, filter-append}
use Rattle.std.proofs.lemmas.List.FromFn.{get_or-range_with_len, length-range_with_len}
use Rattle.std.proofs.lemmas.List.Sums.{sum_by-cons}
use Rattle.std.specs.Prelude.{All, filter, find}
use Rattle.std.specs.List.{flat_map, range_with_len, sum_by}
use Rattle.fg_model.proofs.IterationLemmas.{find-front, find-skip}
use Rattle.fg_wave.specs.Telling.{first_some}

-- numbers in a row come in two pieces
pub range-split : (from front back : ℕ) → range_with_len from (front + back) ≡ range_with_len from front ++ range_with_len (from + front) back
range-split from zero back =
    let all : 0 + back ≡ back = omega arith in
    let here : from ≡ from + 0 = omega arith in
    ap (range_with_len from) all ∙ ap (λ (n : ℕ). range_with_len n back) here
range-split from (suc front) back =
    let all : suc front + back ≡ suc (front + back) = omega arith in
    let there : from + 1 + front ≡ from + suc front = omega arith in
    ap (range_with_len from) all
    ∙ ap (λ (l : List ℕ). from ∷ l) (range-split (from + 1) front back ∙ ap (λ (n : ℕ). range_with_len (from + 1) front ++ range_with_len n back) there)

-- and two pieces are a row, where the second begins at the end of the first or is none
pub range-joined : (from next front back whole : ℕ) → whole ≡ front + back → (0 < back → next ≡ from + front)
    → range_with_len from front ++ range_with_len next back ≡ range_with_len from whole
range-joined from next front zero whole all begins =
    let same : front ≡ whole = omega (arith, all) in append-nil (range_with_len from front) ∙ ap (range_with_len from) same
range-joined from next front (suc back) whole all begins =
    ap (λ (n : ℕ). range_with_len from front ++ range_with_len n (suc back)) (begins (omega arith)) ∙ sym (range-split from front (suc back)) ∙ ap (range_with_len from) (sym all)

-- one number more
pub range-last : (n : ℕ) → range_with_len 0 (n + 1) ≡ range_with_len 0 n ++ n ∷ []
range-last n = let here : 0 + n ≡ n = omega arith in range-split 0 n 1 ∙ ap (λ (m : ℕ). range_with_len 0 n ++ m ∷ []) here

-- what holds of each number in a row
pub all_in_range : (P : ℕ → Type 0) (from count : ℕ) → ((n : ℕ) → from ≤ n → n < from + count → P n) → All P (range_with_len from count)
all_in_range P from count holds = λ k d below.
    let within : k < count = omega (arith, below, length-range_with_len from count) in
    subst P (sym (get_or-range_with_len from count k d within)) (holds (from + k) (omega arith) (omega (arith, within)))

-- a test that nothing passes, and one that all pass
pub filter-none : {X : Type 0} (p : X → Bool) (xs : List X) → All (λ x. p x ≡ false) xs → filter p xs ≡ []
filter-none p [] all = refl
filter-none p (x ∷ xs) all = rw (All-head (λ y. p y ≡ false) x xs all) (filter-none p xs (All-tail (λ y. p y ≡ false) x xs all))

pub filter-all : {X : Type 0} (p : X → Bool) (xs : List X) → All (λ x. p x ≡ true) xs → filter p xs ≡ xs
filter-all p [] all = refl
filter-all {X} p (x ∷ xs) all =
    rw (All-head (λ y. p y ≡ true) x xs all) (ap (λ (l : List X). x ∷ l) (filter-all p xs (All-tail (λ y. p y ≡ true) x xs all)))

-- two tests in either order
pub filter-turned : {X : Type 0} (p q : X → Bool) (xs : List X) → filter p (filter q xs) ≡ filter q (filter p xs)
filter-turned p q [] = refl
filter-turned {X} p q (x ∷ xs) = by_tests (p x) (q x) refl refl (filter-turned p q xs)
  where
    by_tests : (first next : Bool) → p x ≡ first → q x ≡ next → filter p (filter q xs) ≡ filter q (filter p xs)
        → filter p (cond next (x ∷ filter q xs) (filter q xs)) ≡ filter q (cond first (x ∷ filter p xs) (filter p xs))
    by_tests true true is_p is_q held = rw (is_p, is_q) (ap (λ (l : List X). x ∷ l) held)
    by_tests true false is_p is_q held = rw is_q held
    by_tests false true is_p is_q held = rw is_p held
    by_tests false false is_p is_q held = held

-- what passes a test, piece by piece
pub filter-flat_map : {X Y : Type 0} (p : Y → Bool) (f : X → List Y) (xs : List X) → filter p (flat_map f xs) ≡ flat_map (λ x. filter p (f x)) xs
filter-flat_map p f [] = refl
filter-flat_map {Y = Y} p f (x ∷ xs) = filter-append p (f x) (flat_map f xs) ∙ ap (λ (l : List Y). filter p (f x) ++ l) (filter-flat_map p f xs)

-- pieces of pieces
pub flat_map-flat_map : {X Y Z : Type 0} (g : Y → List Z) (f : X → List Y) (xs : List X) → flat_map g (flat_map f xs) ≡ flat_map (λ x. flat_map g (f x)) xs
flat_map-flat_map g f [] = refl
flat_map-flat_map {Z = Z} g f (x ∷ xs) = flat_map-append g (f x) (flat_map f xs) ∙ ap (λ (l : List Z). flat_map g (f x) ++ l) (flat_map-flat_map g f xs)

-- pieces that are none can be left out
pub flat_map-marked : {X Y : Type 0} (f : X → List Y) (mark : X → Bool) (xs : List X) → All (λ x. mark x ≡ false → f x ≡ []) xs
    → flat_map f (filter mark xs) ≡ flat_map f xs
flat_map-marked f mark [] all = refl
flat_map-marked {X} {Y} f mark (x ∷ xs) all = by_mark (mark x) refl (flat_map-marked f mark xs (All-tail (λ y. mark y ≡ false → f y ≡ []) x xs all))
  where
    by_mark : (b : Bool) → mark x ≡ b → flat_map f (filter mark xs) ≡ flat_map f xs → flat_map f (cond b (x ∷ filter mark xs) (filter mark xs)) ≡ f x ++ flat_map f xs
    by_mark true is held = ap (λ (l : List Y). f x ++ l) held
    by_mark false is held = held ∙ ap (λ (l : List Y). l ++ flat_map f xs) (sym (All-head (λ y. mark y ≡ false → f y ≡ []) x xs all is))

-- and so can numbers that are 0
pub sum_by-marked : {X : Type 0} (f : X → ℕ) (mark : X → Bool) (xs : List X) → All (λ x. mark x ≡ false → f x ≡ 0) xs → sum_by f (filter mark xs) ≡ sum_by f xs
sum_by-marked f mark [] all = refl
sum_by-marked {X} f mark (x ∷ xs) all = by_mark (mark x) refl (sum_by-marked f mark xs (All-tail (λ y. mark y ≡ false → f y ≡ 0) x xs all))
  where
    by_mark : (b : Bool) → mark x ≡ b → sum_by f (filter mark xs) ≡ sum_by f xs → sum_by f (cond b (x ∷ filter mark xs) (filter mark xs)) ≡ sum_by f (x ∷ xs)
    by_mark true is held = omega (arith, held, sum_by-cons f x (filter mark xs), sum_by-cons f x xs)
    by_mark false is held = omega (arith, held, sum_by-cons f x xs, All-head (λ y. mark y ≡ false → f y ≡ 0) x xs all is)

-- what passes a test sums up to no more
pub sum_by-filter : {X : Type 0} (f : X → ℕ) (p : X → Bool) (xs : List X) → sum_by f (filter p xs) ≤ sum_by f xs
sum_by-filter f p [] = omega arith
sum_by-filter {X} f p (x ∷ xs) = by_test (p x) (sum_by-filter f p xs)
  where
    by_test : (b : Bool) → sum_by f (filter p xs) ≤ sum_by f xs → sum_by f (cond b (x ∷ filter p xs) (filter p xs)) ≤ sum_by f (x ∷ xs)
    by_test true held = omega (arith, held, sum_by-cons f x (filter p xs), sum_by-cons f x xs)
    by_test false held = omega (arith, held, sum_by-cons f x xs)

pub length-filter_le : {X : Type 0} (p : X → Bool) (xs : List X) → length (filter p xs) ≤ length xs
length-filter_le p [] = omega arith
length-filter_le {X} p (x ∷ xs) = by_test (p x) (length-filter_le p xs)
  where
    by_test : (b : Bool) → length (filter p xs) ≤ length xs → length (cond b (x ∷ filter p xs) (filter p xs)) ≤ suc (length xs)
    by_test true held = omega (arith, held)
    by_test false held = omega (arith, held)

pub length-pieces_filter : {X Y : Type 0} (f : X → List Y) (p : X → Bool) (xs : List X) → length (flat_map f (filter p xs)) ≤ length (flat_map f xs)
length-pieces_filter f p xs = omega (arith, length-flat_map f (filter p xs), length-flat_map f xs, sum_by-filter (λ x. length (f x)) p xs)

-- the first of all pieces that passes is the first one found
pub find_pieces : {X Y : Type 0} (p : Y → Bool) (f : X → List Y) (xs : List X) → first_some (each (λ x. find p (f x)) xs) ≡ find p (flat_map f xs)
find_pieces p f [] = refl
find_pieces {X} {Y} p f (x ∷ xs) = by_first (find p (f x)) refl (find_pieces p f xs)
  where
    by_first : (first : Option Y) → find p (f x) ≡ first → first_some (each (λ y. find p (f y)) xs) ≡ find p (flat_map f xs)
        → first_some (first ∷ each (λ y. find p (f y)) xs) ≡ find p (f x ++ flat_map f xs)
    by_first None is held = held ∙ sym (find-skip p (f x) (flat_map f xs) is)
    by_first (Some y) is held = sym (find-front p (f x) (flat_map f xs) y is)
