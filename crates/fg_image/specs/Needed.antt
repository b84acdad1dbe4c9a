-- The pages of an image on which lists stand.
use Rattle.std.specs.Prelude.{◌≡◌, ℕ, ◌<◌, ◌≤◌, ◌/◌, List, [], ◌∷◌, Contains}
use Rattle.fg_base.specs.declared.limits.TheConstants.{PAGE_BYTES}
use Rattle.fg_base.specs.declared.plain.Dir.{Dir}
use Rattle.fg_base.specs.declared.plain.Dir.TheVariants.{Out, In}
use Rattle.fg_base.specs.declared.plain.Need.{Need}
use Rattle.fg_image.specs.Lists.{begin_of, end_of}
use Rattle.fg_index.specs.ImageIndex.{ImageIndex}
use Rattle.fg_stripe.specs.declared.layout.Layout.{Layout}

-- the needed lists of a vertex, by their directions
abbrev pub dirs_of : Need → List Dir
dirs_of Need.Out = Out ∷ []
dirs_of Need.In = In ∷ []
dirs_of Need.Both = Out ∷ In ∷ []

-- the page of the image holds some byte from this one on and before that one
pub record HoldsSome (begin end page : ℕ) : Type 0 where
  pub byte : ℕ
  pub from_begin : begin ≤ byte
  pub to_end : byte < end
  pub is_page : page ≡ byte / PAGE_BYTES

-- it holds some byte of the list of v in this direction
abbrev pub HoldsListOf : Layout → ImageIndex → Dir → ℕ → ℕ → Type 0
HoldsListOf layout index dir v page = HoldsSome (begin_of layout index dir v) (end_of layout index dir v) page

-- the same of a needed list of this vertex
pub record IsNeededPage (layout : Layout) (index : ImageIndex) (need : Need) (v page : ℕ) : Type 0 where
  pub dir : Dir
  pub is_needed : Contains (dirs_of need) dir
  pub holds : HoldsListOf layout index dir v page

-- the same of one of these vertices
pub record IsNeededBySome (layout : Layout) (index : ImageIndex) (need : Need) (vertices : List ℕ) (page : ℕ) : Type 0 where
  pub vertex : ℕ
  pub is_one : Contains vertices vertex
  pub is_for : IsNeededPage layout index need vertex page
