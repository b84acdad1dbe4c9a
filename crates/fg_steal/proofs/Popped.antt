-- The lists of all seats, one after another, as seats are taken from the end.
use Rattle.std.proofs.Common.{◌≡◌, List, [], ◌∷◌, ◌++◌, refl, sym, ap, ◌∙◌, append_assoc}
use Rattle.std.proofs.lemmas.List.{append-nil}
use Rattle.std.proofs.lemmas.List.Concat.{flat_map-append}
use Rattle.std.specs.List.{flat_map}

module _ {X A : Type 0} (f : X → List A) where
  -- the last one's list stands at the end
  pub last_popped : (xs ys : List X) (x : X) (list : List A) → xs ≡ ys ++ x ∷ [] → list ≡ f x → flat_map f ys ++ list ≡ flat_map f xs
  last_popped xs ys x list items is = rw (items, flat_map-append f ys (x ∷ []), append-nil (f x), is) refl

  -- and each further one's before those that were taken
  pub next_popped : (xs ys : List X) (x : X) (list rest whole : List A) → xs ≡ ys ++ x ∷ [] → list ≡ f x → flat_map f xs ++ rest ≡ whole → flat_map f ys ++ (list ++ rest) ≡ whole
  next_popped xs ys x list rest whole items is so_far = sym (append_assoc (flat_map f ys) list rest) ∙ ap (λ (l : List A). l ++ rest) (last_popped xs ys x list items is) ∙ so_far
