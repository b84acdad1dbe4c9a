-- Sums over the vertices in order.
use Rattle.std.proofs.Common.{◌≡◌, ℕ, zero, suc, ◌+◌, ◌<◌, ◌≤◌, Bool, true, false, cond, List, [], ◌∷◌, length, inl, inr, refl, ap, arith}
use Rattle.std.specs.Prelude.{filter, sum_by}
use Rattle.std.specs.List.{flat_map, range_with_len}
use Rattle.std.proofs.lemmas.Bool.{cases_eq}
use Rattle.std.proofs.lemmas.List.Sums.{sum_by-append, sum_by-cons}
use Rattle.fg_base.specs.declared.plain.VState.{VState}
use Rattle.fg_model.specs.Iteration.{state_at}

-- g of a, and of the numbers behind it, n in all
abbrev pub total : (ℕ → ℕ) → ℕ → ℕ → ℕ
total g a zero = 0
total g a (suc n) = g a + total g (a + 1) n

-- a number where a test passes, else nothing
abbrev pub only_if : Bool → ℕ → ℕ
only_if b n = cond b n 0

pub only_if-add : (b : Bool) (m n : ℕ) → only_if b (m + n) ≡ only_if b m + only_if b n
only_if-add true m n = refl
only_if-add false m n = refl

pub total-same : (g h : ℕ → ℕ) (a n : ℕ) → ((u : ℕ) → a ≤ u → u < a + n → g u ≡ h u) → total g a n ≡ total h a n
total-same g h a zero same = refl
total-same g h a (suc n) same =
    omega (arith, same a (omega arith) (omega arith), total-same g h (a + 1) n (λ u from below. same u (omega arith) (omega arith)))

pub total-le : (g h : ℕ → ℕ) (a n : ℕ) → ((u : ℕ) → a ≤ u → u < a + n → g u ≤ h u) → total g a n ≤ total h a n
total-le g h a zero low = omega arith
total-le g h a (suc n) low =
    omega (arith, low a (omega arith) (omega arith), total-le g h (a + 1) n (λ u from below. low u (omega arith) (omega arith)))

pub total-add : (g h : ℕ → ℕ) (a n : ℕ) → total (λ u. g u + h u) a n ≡ total g a n + total h a n
total-add g h a zero = refl
total-add g h a (suc n) = omega (arith, total-add g h (a + 1) n)

pub total-nought : (g : ℕ → ℕ) (a n : ℕ) → ((u : ℕ) → a ≤ u → u < a + n → g u ≡ 0) → total g a n ≡ 0
total-nought g a zero none = refl
total-nought g a (suc n) none =
    omega (arith, none a (omega arith) (omega arith), total-nought g (a + 1) n (λ u from below. none u (omega arith) (omega arith)))

-- only one of them is something
pub total-one : (g : ℕ → ℕ) (a n v : ℕ) → a ≤ v → v < a + n → ((u : ℕ) → (u ≡ v → ⊥) → g u ≡ 0) → total g a n ≡ g v
total-one g a zero v from below others = absurd (omega arith)
total-one g a (suc n) v from below others = elim (cases_eq a v) [
  | inl same ↦ omega (arith, ap g same, total-nought g (a + 1) n (λ u after last. others u (λ is. omega (arith, is, same))))
  | inr other ↦ omega (arith, others a other, total-one g (a + 1) n v (omega (arith, other)) (omega arith) others)
]

pub total-shift : (g : ℕ → ℕ) (a n : ℕ) → total (λ u. g (u + 1)) a n ≡ total g (a + 1) n
total-shift g a zero = refl
total-shift g a (suc n) = omega (arith, total-shift g (a + 1) n)

-- a sum over states, vertex by vertex
pub sum_states : (f : VState → ℕ) (states : List VState) → sum_by f states ≡ total (λ v. f (state_at states v)) 0 (length states)
sum_states f [] = refl
sum_states f (s ∷ states) =
    let all = s ∷ states in
    let behind : total (λ v. f (state_at states v)) 0 (length states) ≡ total (λ v. f (state_at all (v + 1))) 0 (length states) =
    total-same (λ v. f (state_at states v)) (λ v. f (state_at all (v + 1))) 0 (length states) (λ u from below. ap (λ (k : ℕ). f (state_at all k)) (let e : suc u ≡ u + 1 = omega arith in e)) in
    omega (arith, sum_by-cons f s states, sum_states f states, behind, total-shift (λ v. f (state_at all v)) 0 (length states))

-- lists put behind one another, of the numbers that pass a test
sum_step : {X : Type 0} (f : X → ℕ) (g : ℕ → List X) (passes : Bool) (a : ℕ) (rest : List ℕ) → sum_by f (flat_map g (cond passes (a ∷ rest) rest)) ≡ only_if passes (sum_by f (g a)) + sum_by f (flat_map g rest)
sum_step f g true a rest = sum_by-append f (g a) (flat_map g rest)
sum_step f g false a rest = omega arith

pub sum_passing : {X : Type 0} (f : X → ℕ) (g : ℕ → List X) (test : ℕ → Bool) (a n : ℕ) → sum_by f (flat_map g (filter test (range_with_len a n))) ≡ total (λ u. only_if (test u) (sum_by f (g u))) a n
sum_passing f g test a zero = refl
sum_passing f g test a (suc n) =
    omega (arith, sum_step f g (test a) a (filter test (range_with_len (a + 1) n)), sum_passing f g test (a + 1) n)

pub sum_flat : {X : Type 0} (f : X → ℕ) (g : ℕ → List X) (a n : ℕ) → sum_by f (flat_map g (range_with_len a n)) ≡ total (λ u. sum_by f (g u)) a n
sum_flat f g a zero = refl
sum_flat f g a (suc n) = omega (arith, sum_by-append f (g a) (flat_map g (range_with_len (a + 1) n)), sum_flat f g (a + 1) n)
