-- The image that drives hold: each drive is a list of bytes, its label first and behind it its pages of the image.
use Rattle.std.specs.Prelude.{ℕ, ◌*◌, List, [], length, take, drop, slice_index_or}
use Rattle.std.specs.List.{flat_map, range_with_len}
use Rattle.fg_base.specs.declared.limits.TheConstants.{PAGE_BYTES}
use Rattle.fg_stripe.specs.Striping.{drive_of, local_of}

-- a page of a list of pages
abbrev pub page_of : List ℕ → ℕ → List ℕ
page_of bytes page = take PAGE_BYTES (drop (page * PAGE_BYTES) bytes)

-- a page of the image at its place, on drives that hold these bytes in units of so many pages
abbrev pub page_on : ℕ → List (List ℕ) → ℕ → List ℕ
page_on unit helds page = page_of (slice_index_or helds (drive_of page (length helds) unit) []) (local_of page (length helds) unit)

-- the image of so many pages on these drives
unfoldable pub image_on : ℕ → ℕ → List (List ℕ) → List ℕ
image_on unit pages helds = flat_map (page_on unit helds) (range_with_len 0 pages)
