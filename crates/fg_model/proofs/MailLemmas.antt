-- Mail may be folded in any order, under a program's law.
use Rattle.std.proofs.Common.{◌≡◌, ℕ, zero, suc, ◌+◌, ◌<◌, ◌^◌, Bool, true, false, List, [], ◌∷◌, length, get_or, refl, ap, sym, ◌∙◌, arith}
use Rattle.std.specs.Prelude.{◌==◌, All, IsPermutation, fold, swap, if◌then◌else◌}
use Rattle.std.proofs.Math.ListN.{set}
use Rattle.std.proofs.lemmas.List.Elements.{All-set}
use Rattle.std.proofs.lemmas.List.Sorted.{IsPermutation-keeps}
use Rattle.fg_base.specs.declared.plain.VState.{VState}
use Rattle.fg_model.specs.Iteration.{folded, sent_to}
use Rattle.fg_model.specs.Program.{IsInRange, IsLawful, Rules}
use Rattle.fg_model.specs.declared.mail.Mail.{Mail}
use Rattle.fg_model.proofs.IterationLemmas.{folded_from}

all_behind : {X : Type 0} (P : X → Type 0) (x : X) (xs : List X) → All P (x ∷ xs) → All P xs
all_behind P x xs all = λ k d below. all (suc k) d (omega arith)

all_first : {X : Type 0} (P : X → Type 0) (x : X) (xs : List X) → All P (x ∷ xs) → P x
all_first P x xs all = all 0 x (omega arith)

-- A fold whose steps may change places, on what fits.
module _ {S X : Type 0} (f : S → X → S) (Fits : S → Type 0) (Goes : X → Type 0) (fits : (s : S) (x : X) → Fits s → Goes x → Fits (f s x)) (order : (s : S) (x y : X) → Fits s → Goes x → Goes y → f (f s x) y ≡ f (f s y) x) where
  -- the first item and one behind it in each other's place
  first_exchanged : (s : S) (x : X) (xs : List X) (k : ℕ) (d : X) → Fits s → Goes x → All Goes xs → k < length xs
      → fold f (f s x) xs ≡ fold f (f s (get_or xs k d)) (set xs k x)
  first_exchanged s x [] k d s_fits goes all below = absurd (omega arith)
  first_exchanged s x (y ∷ ys) zero d s_fits goes all below = ap (λ (t : S). fold f t ys) (order s x y s_fits goes (all_first Goes y ys all))
  first_exchanged s x (y ∷ ys) (suc k) d s_fits goes all below =
      let z = get_or ys k d in
      let y_goes = all_first Goes y ys all in
      let z_goes : Goes z = all (suc k) d below in
      ap (λ (t : S). fold f t ys) (order s x y s_fits goes y_goes)
      ∙ first_exchanged (f s y) x ys k d (fits s y s_fits y_goes) goes (all_behind Goes y ys all) (omega arith)
      ∙ ap (λ (t : S). fold f t (set ys k x)) (order s y z s_fits y_goes z_goes)

  -- any two items in each other's place
  exchanged : (s : S) (xs : List X) (i j : ℕ) (d : X) → Fits s → All Goes xs → i < length xs → j < length xs
      → fold f s (set (set xs i (get_or xs j d)) j (get_or xs i d)) ≡ fold f s xs
  exchanged s [] i j d s_fits all below_i below_j = absurd (omega arith)
  exchanged s (x ∷ xs) zero zero d s_fits all below_i below_j = refl
  exchanged s (x ∷ xs) zero (suc k) d s_fits all below_i below_j =
      sym (first_exchanged s x xs k d s_fits (all_first Goes x xs all) (all_behind Goes x xs all) (omega arith))
  exchanged s (x ∷ xs) (suc k) zero d s_fits all below_i below_j =
      sym (first_exchanged s x xs k d s_fits (all_first Goes x xs all) (all_behind Goes x xs all) (omega arith))
  exchanged s (x ∷ xs) (suc i) (suc j) d s_fits all below_i below_j =
      exchanged (f s x) xs i j d (fits s x s_fits (all_first Goes x xs all)) (all_behind Goes x xs all) (omega arith) (omega arith)

  fold-swap : (s : S) (xs : List X) (i j : ℕ) → Fits s → All Goes xs → i < length xs → j < length xs → fold f s (swap xs i j) ≡ fold f s xs
  fold-swap s [] i j s_fits all below_i below_j = absurd (omega arith)
  fold-swap s (x ∷ xs) i j s_fits all below_i below_j = exchanged s (x ∷ xs) i j x s_fits all below_i below_j

  All-swap : (xs : List X) (i j : ℕ) → All Goes xs → i < length xs → j < length xs → All Goes (swap xs i j)
  All-swap [] i j all below_i below_j = absurd (omega arith)
  All-swap (x ∷ xs) i j all below_i below_j =
      let once = set (x ∷ xs) i (get_or (x ∷ xs) j x) in
      All-set Goes once j (get_or (x ∷ xs) i x) (all i x below_i) (All-set Goes (x ∷ xs) i (get_or (x ∷ xs) j x) (all j x below_j) all)

  Same : List X → List X → Type 0
  Same xs ys = All Goes ys × ((s : S) → Fits s → fold f s xs ≡ fold f s ys)

  fold-permutation : (xs ys : List X) → IsPermutation xs ys → All Goes xs → (s : S) → Fits s → fold f s xs ≡ fold f s ys
  unfolding Same
  fold-permutation xs ys is all =
      (IsPermutation-keeps xs (Same xs) (all, λ s s_fits. refl)
      (λ l i j below_i below_j same. (All-swap l i j same.0 below_i below_j, λ s s_fits. same.1 s s_fits ∙ sym (fold-swap s l i j s_fits same.0 below_i below_j)))
      ys is).1

-- what one message does to the vertex v
abbrev step_at : Rules → ℕ → VState → Mail → VState
step_at P v s message = if message.target == v then P.receive s message.message else s

-- the fold of a vertex's mail goes over all mail
fold-sent_to : (P : Rules) (v : ℕ) (s : VState) (mail : List Mail) → fold P.receive s (sent_to v mail) ≡ fold (step_at P v) s mail
fold-sent_to P v s [] = refl
fold-sent_to P v s (message ∷ mail) = by_test (message.target == v) refl (λ t. fold-sent_to P v t mail)
  where
    by_test : (test : Bool) → (message.target == v) ≡ test → ((t : VState) → fold P.receive t (sent_to v mail) ≡ fold (step_at P v) t mail)
        → fold P.receive s (sent_to v (message ∷ mail)) ≡ fold (step_at P v) s (message ∷ mail)
    by_test true is rest = rw is (rest (P.receive s message.message))
    by_test false is rest = rw is (rest s)

step_fits : (P : Rules) → IsLawful P → (v : ℕ) (s : VState) (message : Mail) → IsInRange s → message.message < 2 ^ 64 → IsInRange (step_at P v s message)
step_fits P lawful v s message s_fits fits = by_test (message.target == v)
  where
    by_test : (test : Bool) → IsInRange (if test then P.receive s message.message else s)
    by_test true = lawful.receive_fits s message.message s_fits fits
    by_test false = s_fits

step_order : (P : Rules) → IsLawful P → (v : ℕ) (s : VState) (one other : Mail) → IsInRange s → one.message < 2 ^ 64 → other.message < 2 ^ 64
    → step_at P v (step_at P v s one) other ≡ step_at P v (step_at P v s other) one
step_order P lawful v s one other s_fits one_fits other_fits = by_test (one.target == v) (other.target == v)
  where
    by_test : (first next : Bool)
        → (let t = if first then P.receive s one.message else s in if next then P.receive t other.message else t)
        ≡ (let t = if next then P.receive s other.message else s in if first then P.receive t one.message else t)
    by_test true true = lawful.order s one.message other.message s_fits one_fits other_fits
    by_test true false = refl
    by_test false true = refl
    by_test false false = refl

-- a vertex's mail in any order is folded to the same state
pub vertex_in_any_order : (P : Rules) → IsLawful P → (v : ℕ) (mail other : List Mail) → IsPermutation mail other → All (λ (message : Mail). message.message < 2 ^ 64) mail
    → (s : VState) → IsInRange s → fold P.receive s (sent_to v mail) ≡ fold P.receive s (sent_to v other)
vertex_in_any_order P lawful v mail other is fit s s_fits =
    fold-sent_to P v s mail
    ∙ fold-permutation (step_at P v) IsInRange (λ (message : Mail). message.message < 2 ^ 64) (step_fits P lawful v) (step_order P lawful v) mail other is fit s s_fits
    ∙ sym (fold-sent_to P v s other)

from_in_any_order : (k : ℕ) (P : Rules) → IsLawful P → (mail other : List Mail) → IsPermutation mail other → All (λ (message : Mail). message.message < 2 ^ 64) mail
    → (states : List VState) → All IsInRange states → folded_from k P mail states ≡ folded_from k P other states
from_in_any_order k P lawful mail other is fit [] all_fit = refl
from_in_any_order k P lawful mail other is fit (s ∷ states) all_fit =
    ap (λ (s' : VState). s' ∷ folded_from (k + 1) P mail states) (vertex_in_any_order P lawful k mail other is fit s (all_first IsInRange s states all_fit))
    ∙ ap (λ (rest : List VState). fold P.receive s (sent_to k other) ∷ rest) (from_in_any_order (k + 1) P lawful mail other is fit states (all_behind IsInRange s states all_fit))

-- the same mail in any order is folded to the same states
pub folded-permutation : (P : Rules) → IsLawful P → (mail other : List Mail) → IsPermutation mail other → All (λ (message : Mail). message.message < 2 ^ 64) mail
    → (states : List VState) → All IsInRange states → folded P mail states ≡ folded P other states
unfolding folded
folded-permutation P lawful mail other is fit states all_fit = from_in_any_order 0 P lawful mail other is fit states all_fit
