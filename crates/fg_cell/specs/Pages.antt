-- A buffer's page, the pages of an image, and what a frame shows.
use Rattle.std.specs.Prelude.{◌≡◌, ℕ, ◌⊎◌, Bool, true, false, List, [], Option, Some, None, slice_get}
use Rattle.fg_base.specs.declared.limits.TheConstants.{NO_PAGE}

pub record Page : Type 0 where
  pub number : ℕ
  pub bytes : List ℕ

-- these are the bytes of the image's page with this number; of an image that isn't told nothing is asked
abbrev pub IsPageOf : Option (List (List ℕ)) → ℕ → List ℕ → Type 0
IsPageOf None number bytes = Unit {0}
IsPageOf (Some pages) number bytes = slice_get pages number ≡ Some bytes

-- The buffer has no page, or one of the image's pages. `image` has the bytes of each page, in order, where they are told.
abbrev pub FitsImage : Option (List (List ℕ)) → Page → Type 0
FitsImage image page = (page.number ≡ NO_PAGE) ⊎ IsPageOf image page.number page.bytes

-- a page that is shown, beside the pages of its frame's image, where they are told
pub record View : Type 0 where
  pub image : Option (List (List ℕ))
  pub page : Page

-- the page of a slot that holds one
abbrev pub page_in : Option (Option Page) → Page
page_in (Some (Some p)) = p
page_in (Some None) = record { number = NO_PAGE; bytes = [] }
page_in None = record { number = NO_PAGE; bytes = [] }

abbrev pub is_there : Option (Option Page) → Bool
is_there (Some (Some p)) = true
is_there (Some None) = false
is_there None = false
