-- Numbers folded into a state by the least.
use Rattle.std.proofs.Common.{◌≡◌, ℕ, ◌≤◌, inl, inr, List, [], ◌∷◌, min, refl, subst, arith}
use Rattle.std.specs.Prelude.{fold}
use Rattle.std.proofs.lemmas.Bool.{cases_lt}
use Rattle.fg_base.specs.declared.plain.VState.{VState}
use Rattle.fg_model.proofs.Each.{Each}

-- a state with one number folded in
abbrev pub lowered : VState → ℕ → VState
lowered s m = record { a = min s.a m; b = s.b; c = s.c }

-- mail folded into one state
pub fold_least : (s : VState) (ms : List ℕ) → (fold lowered s ms).a ≤ s.a
fold_least s [] = omega arith
fold_least s (m ∷ ms) = omega (arith, fold_least (lowered s m) ms)

pub fold_each : (s : VState) (ms : List ℕ) → Each (λ m. (fold lowered s ms).a ≤ m) ms
fold_each s [] = tt
fold_each s (m ∷ ms) = (omega (arith, fold_least (lowered s m) ms), fold_each (lowered s m) ms)

min_one : (P : ℕ → Type 0) (x y : ℕ) → P x → P y → P (min x y)
min_one P x y first next = elim (cases_lt x y) [
  | inl low ↦ let e : x ≡ min x y = omega arith in subst P e first
  | inr high ↦ let e : y ≡ min x y = omega arith in subst P e next
]

pub fold_from : (P : ℕ → Type 0) (s : VState) (ms : List ℕ) → P s.a → Each P ms → P (fold lowered s ms).a
fold_from P s [] here each = here
fold_from P s (m ∷ ms) here each = fold_from P (lowered s m) ms (min_one P s.a m here each.0) each.1

pub fold_same : (s : VState) (ms : List ℕ) → (fold lowered s ms).b ≡ s.b
fold_same s [] = refl
fold_same s (m ∷ ms) = fold_same (lowered s m) ms
