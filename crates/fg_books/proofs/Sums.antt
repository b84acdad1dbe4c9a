-- Sums of whole numbers over lists, and what single postings add to a share.
use Rattle.std.proofs.Common.{◌≡◌, ℕ, zero, suc, ◌+◌, ◌<◌, ◌≤◌, ◌⊎◌, Bool, true, false, List, [], ◌∷◌, ◌++◌, set, refl, sym, ap, ◌∙◌, inl, inr, arith, cond}
use Rattle.std.proofs.lemmas.Int.{ints}
use Rattle.std.proofs.lemmas.Bool.Decides.{nat_tests}
use lib.IntN.{ℤ, pos, negsuc, ◌+ℤ◌, neg_ℤ}
use lib.Signed.{◌≤ℤ◌}
use lib.ListN.{get_elem?}
use mathlib.Core.Option.{some, some-injective, some-ne-none}
use Rattle.fg_books.specs.declared.account.Posting.{Posting}
use Rattle.fg_books.specs.Shares.{reaches, sum_in, magnitude}
use Rattle.fg_books.specs.Rules.{total}

module _ {V : Type 0} (f : V → ℤ) where
  pub total-set : (l : List V) (i : ℕ) (v w : V) → get_elem? l i ≡ some v → total f (set l i w) +ℤ f v ≡ total f l +ℤ f w
  total-set [] i v w e = absurd (some-ne-none v (sym e))
  total-set (x ∷ xs) zero v w e = let is : f x ≡ f v = ap f (some-injective x v e) in omega (arith, ints)
  total-set (x ∷ xs) (suc i) v w e = let r = total-set xs i v w e in omega (arith, ints)

  pub total-snoc : (l : List V) (w : V) → total f (l ++ w ∷ []) ≡ total f l +ℤ f w
  total-snoc [] w = omega (arith, ints)
  total-snoc (x ∷ xs) w = let r = total-snoc xs w in omega (arith, ints)

  pub total-neg : (l : List V) → total (λ v. neg_ℤ (f v)) l ≡ neg_ℤ (total f l)
  total-neg [] = refl
  total-neg (x ∷ xs) = let r = total-neg xs in omega (arith, ints)

-- each value has parts g of at least 0, and with none an amount f of at least 0
abbrev pub OwesNone : {V : Type 0} → (V → ℤ) → (V → ℤ) → List V → Type 0
OwesNone {V} g f l = (i : ℕ) (v : V) → get_elem? l i ≡ some v → (pos 0 ≤ℤ g v) × (g v ≡ pos 0 → pos 0 ≤ℤ f v)

module _ {V : Type 0} (g f : V → ℤ) where
  pub none_left : (l : List V) → OwesNone g f l → (pos 0 ≤ℤ total g l) × (total g l ≡ pos 0 → pos 0 ≤ℤ total f l)
  none_left [] fine = (omega (arith, ints), λ _. omega (arith, ints))
  none_left (x ∷ xs) fine =
      let h = fine 0 x refl in
      let r = none_left xs (λ i v e. fine (suc i) v e) in
      let some : pos 0 ≤ℤ g x = h.0 in
      let others : pos 0 ≤ℤ total g xs = r.0 in (
        omega (arith, ints),
        λ none. let a : pos 0 ≤ℤ f x = h.1 (omega (arith, ints)) in let b : pos 0 ≤ℤ total f xs = r.1 (omega (arith, ints)) in omega (arith, ints),
      )

  -- who has all parts has an amount of at most the total
  pub all_parts : (l : List V) (i : ℕ) (v : V) → OwesNone g f l → get_elem? l i ≡ some v → (g v ≤ℤ total g l) × (total g l ≡ g v → f v ≤ℤ total f l)
  all_parts [] i v fine e = absurd (some-ne-none v (sym e))
  all_parts (x ∷ xs) zero v fine e =
      let gx : g x ≡ g v = ap g (some-injective x v e) in
      let fx : f x ≡ f v = ap f (some-injective x v e) in
      let r = none_left xs (λ i u at. fine (suc i) u at) in
      let others : pos 0 ≤ℤ total g xs = r.0 in (
        omega (arith, ints),
        λ all. let b : pos 0 ≤ℤ total f xs = r.1 (omega (arith, ints)) in omega (arith, ints),
      )
  all_parts (x ∷ xs) (suc i) v fine e =
      let h = fine 0 x refl in
      let r = all_parts xs i v (λ j u at. fine (suc j) u at) e in
      let some : pos 0 ≤ℤ g x = h.0 in
      let others : g v ≤ℤ total g xs = r.0 in (
        omega (arith, ints),
        λ all. let a : pos 0 ≤ℤ f x = h.1 (omega (arith, ints)) in let b : f v ≤ℤ total f xs = r.1 (omega (arith, ints)) in omega (arith, ints),
      )

pub magnitude_is : (z : ℤ) → pos 0 ≤ℤ z → z ≡ pos (magnitude z)
magnitude_is (pos n) h = refl
magnitude_is (negsuc n) h = absurd (omega (arith, ints))

module _ (f : Posting → ℤ) where
  pub sum_in-append : (ps qs : List Posting) (k : ℕ) → sum_in f (ps ++ qs) k ≡ sum_in f ps k +ℤ sum_in f qs k
  sum_in-append [] qs k = omega (arith, ints)
  sum_in-append (p ∷ ps) qs k = let r = sum_in-append ps qs k in omega (arith, ints)

  single : (p : Posting) (k : ℕ) (b : Bool) → reaches p k ≡ b → sum_in f (p ∷ []) k ≡ cond b (f p) (pos 0)
  single p k true e = rw e (omega (arith, ints))
  single p k false e = rw e refl

  pub single_in : (p : Posting) (k : ℕ) → p.first ≤ k → k < p.first + p.count → sum_in f (p ∷ []) k ≡ f p
  single_in p k low high = single p k true (grind (arith, nat_tests))

  pub single_out : (p : Posting) (k : ℕ) → (k < p.first) ⊎ (p.first + p.count ≤ k) → sum_in f (p ∷ []) k ≡ pos 0
  single_out p k (inl low) = single p k false (grind (arith, nat_tests))
  single_out p k (inr high) = single p k false (grind (arith, nat_tests))

  none_by : (p : Posting) (k : ℕ) → f p ≡ pos 0 → (b : Bool) → reaches p k ≡ b → sum_in f (p ∷ []) k ≡ pos 0
  none_by p k e true at = single p k true at ∙ e
  none_by p k e false at = single p k false at

  pub single_none : (p : Posting) (k : ℕ) → f p ≡ pos 0 → sum_in f (p ∷ []) k ≡ pos 0
  single_none p k e = none_by p k e (reaches p k) refl
