-- Facts of the places of a list, as it grows at its end.
use Rattle.std.proofs.Common.{◌≡◌, ◌++◌, ℕ, ◌<◌, List, [], ◌∷◌, length, get_or, arith, inl, inr}
use Rattle.std.proofs.lemmas.Bool.{cases_lt}
use Rattle.std.proofs.lemmas.List.{length_push, get_or_append_left, get_or_push}
use Rattle.fg_cache.specs.Cache.{AreNamed, AreShelves}
use Rattle.fg_cache.specs.Names.{LockOf, DriveLock}
use Rattle.fg_cache.specs.Opening.{AreNew}
use Rattle.fg_cache.specs.Pass.{Token, new_token}
use Rattle.fg_cache.specs.Site.{Site}

each_push : {X : Type 0} (P : ℕ → X → Type 0) (xs : List X) (y : X) → ((k : ℕ) (d : X) → k < length xs → P k (get_or xs k d)) → P (length xs) y →
    (k : ℕ) (d : X) → k < length (xs ++ y ∷ []) → P k (get_or (xs ++ y ∷ []) k d)
each_push P xs y each last = λ k d h.
    elim (cases_lt k (length xs)) [
      | inl below ↦ rw (get_or_append_left xs (y ∷ []) d k below) (each k d below)
      | inr over ↦
          let here : length xs ≡ k = omega (arith, h, over, length_push xs y) in
          rw (get_or_push xs y d k here, ← here) last
    ]

pub named_push : (site : Site) (locks : List LockOf) (lock : LockOf) → AreNamed site locks → lock ≡ record { site = site; number = length locks } →
    AreNamed site (locks ++ lock ∷ [])
named_push site locks lock named last = each_push (λ k l. l ≡ record { site = site; number = k }) locks lock named last

pub new_push : (site : Site) (passes : List Token) (pass : Token) → AreNew site passes → pass ≡ new_token site.books (length passes) → AreNew site (passes ++ pass ∷ [])
new_push site passes pass new last = each_push (λ k p. p ≡ new_token site.books k) passes pass new last

pub shelves_push : {D : Type 0} (site : Site) (locks : List (DriveLock D)) (lock : DriveLock D) → AreShelves site locks →
    (lock.site ≡ site) × (lock.number ≡ length locks) → AreShelves site (locks ++ lock ∷ [])
shelves_push site locks lock are last = each_push (λ k l. (l.site ≡ site) × (l.number ≡ k)) locks lock are last
