-- Sums and counts of what is left after the last one was taken out.
use Rattle.std.proofs.Common.{◌≡◌, ◌++◌, ◌∙◌, ℕ, ◌+◌, List, [], ◌∷◌, length, ap}
use Rattle.std.specs.List.{sum_by}
use Rattle.std.proofs.lemmas.List.{length_push}
use Rattle.std.proofs.lemmas.List.Sums.{sum_by_push}

pub sum-popped : {X : Type 0} (f : X → ℕ) (xs ys : List X) (x : X) → xs ≡ ys ++ x ∷ [] → sum_by f xs ≡ sum_by f ys + f x
sum-popped f xs ys x is = ap (sum_by f) is ∙ sum_by_push f ys x

pub length-popped : {X : Type 0} (xs ys : List X) (x : X) → xs ≡ ys ++ x ∷ [] → length xs ≡ length ys + 1
length-popped xs ys x is = ap length is ∙ length_push ys x
