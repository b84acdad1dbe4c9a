-- What a cache is made of when it is opened.
use Rattle.std.specs.Prelude.{◌≡◌, ℕ, ◌<◌, ◌≤◌, List, Option, length, slice_index_or, pos}
use Rattle.fg_books.specs.Shares.{Holding, parts_of, amount_of}
use Rattle.fg_outside.specs.Drives.{HasEach}
use Rattle.fg_stripe.specs.declared.layout.Layout.{Layout}
use Rattle.fg_cache.specs.Pass.{Token, new_token}
use Rattle.fg_cache.specs.Shelf.{IsStocked}
use Rattle.fg_cache.specs.Site.{Site}

-- each drive has, and told of, the pages of the image that stand on it
abbrev pub AreStocked : {D : Type 0} → (D → Option (List ℕ)) → (D → ℕ) → Option (List (List ℕ)) → Layout → List D → Type 0
AreStocked held told image layout drives = HasEach (λ number drive. IsStocked held told image layout number drive) drives

-- the passes are numbered, and were asked nothing yet
abbrev pub AreNew : Site → List Token → Type 0
AreNew site passes = (k : ℕ) (d : Token) → k < length passes → slice_index_or passes k d ≡ new_token site.books k

-- the fault ledgers from this drive on have all parts, and no amount
abbrev pub HasFaults : Site → ℕ → Holding → Type 0
HasFaults site first lot =
    (lot.books ≡ site.books)
    × ((k : ℕ) → first ≤ k → k < site.books.plan.loose → parts_of lot k ≡ site.books.plan.parts)
    × ((k : ℕ) → amount_of lot k ≡ pos 0)
