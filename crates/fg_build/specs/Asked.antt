-- The pages of an image that a run asks for, and the reads of them.
use Rattle.std.specs.Prelude.{◌≡◌, ℕ, List, Contains}
use Rattle.fg_base.specs.declared.plain.Need.{Need}
use Rattle.fg_build.specs.declared.opened.Opened.{Opened}
use Rattle.fg_build.specs.OnlyRead.{OnlyRead, ReadsPages, Telling}
use Rattle.fg_image.specs.Needed.{HoldsSome, IsNeededBySome, IsNeededPage}
use Rattle.fg_index.specs.ImageIndex.{ImageIndex}
use Rattle.fg_model.specs.Iteration.{Begun}
use Rattle.fg_model.specs.Program.{Rules}
use Rattle.fg_outside.specs.Drives.{DriveRead}
use Rattle.fg_stripe.specs.declared.layout.Layout.{Layout}

-- the page holds some byte of a needed list of a vertex that is active in some iteration that began
pub record IsAskedPage (layout : Layout) (index : ImageIndex) (P : Rules) (begun : List Begun) (page : ℕ) : Type 0 where
  pub iteration : Begun
  pub has_begun : Contains begun iteration
  pub is_for_active : IsNeededBySome layout index P.need iteration.active page

-- the read is of pages, at most so many, that hold some byte from this one on and before that one
abbrev pub IsReadIn : ℕ → Layout → ℕ → ℕ → DriveRead → Type 0
IsReadIn most layout begin end one = ReadsPages most layout (HoldsSome begin end) one

-- the read is of pages of a needed list of this vertex
abbrev pub IsReadFor : ℕ → Layout → ImageIndex → Need → ℕ → DriveRead → Type 0
IsReadFor most layout index need v one = ReadsPages most layout (IsNeededPage layout index need v) one

-- the read is of pages of needed lists of these vertices
abbrev pub IsReadForSome : ℕ → Layout → ImageIndex → Need → List ℕ → DriveRead → Type 0
IsReadForSome most layout index need vertices one = ReadsPages most layout (IsNeededBySome layout index need vertices) one

-- the read is of pages that are asked for by the iterations that began
abbrev pub IsAsked : ℕ → Layout → ImageIndex → Rules → List Begun → DriveRead → Type 0
IsAsked most layout index P begun one = ReadsPages most layout (IsAskedPage layout index P begun) one

-- between the two nothing of what was opened changed, and the drives were only read, as these iterations ask for
pub record HasAsked {D : Type 0} (most : ℕ) (T : Telling D) (P : Rules) (begun : List Begun) (opened now : Opened) (olds news : List D) : Type 0 where
  pub same_opened : now ≡ opened
  pub reads : OnlyRead T (IsAsked most opened.layout opened.index P begun) olds news
