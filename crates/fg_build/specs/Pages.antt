-- Pages of an image on drives.
use Rattle.std.specs.Prelude.{ℕ, ◌<◌, ◌≤◌, List}
use Rattle.std.specs.List.{flat_map, range_with_len}
use Rattle.fg_base.specs.declared.limits.TheConstants.{MAX_IMAGE_PAGES}
use Rattle.fg_stripe.specs.Held.{page_on}
use Rattle.fg_stripe.specs.declared.layout.Layout.{Layout}

-- the bytes of so many pages of the image from this one on, on drives that hold these bytes
abbrev pub pages_at : ℕ → List (List ℕ) → ℕ → ℕ → List ℕ
pages_at unit helds first count = flat_map (page_on unit helds) (range_with_len first count)

-- an image is striped over some drives in units of some pages, and has at most `MAX_IMAGE_PAGES`
pub record IsStriped (layout : Layout) : Type 0 where
  pub some_drives : 0 < layout.drives
  pub some_unit : 0 < layout.unit
  pub few_pages : layout.pages ≤ MAX_IMAGE_PAGES
