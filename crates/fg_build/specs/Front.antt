-- What is found of the header page of an image on drives.
use Rattle.std.specs.Prelude.{◌≡◌, ℕ, Result, Ok, Err, List, take}
use Rattle.fg_base.specs.declared.refusal.Refusal.{Refusal}
use Rattle.fg_build.specs.Calls.{SaysOf}
use Rattle.fg_image.specs.declared.header.Header.{Header}
use Rattle.fg_build.specs.OpeningReads.{page_reads}
use Rattle.fg_build.specs.Pages.{pages_at}
use Rattle.fg_image.specs.Front.{Front}
use Rattle.fg_image.specs.Header.{pages_for}
use Rattle.fg_image.specs.Image.{index_of}
use Rattle.fg_index.specs.ImageIndex.{ImageIndex}
use Rattle.fg_outside.specs.Drives.{DriveRead}
use Rattle.fg_stripe.specs.declared.layout.Layout.{Layout}

-- the header page says this, or is refused so
abbrev pub IsFront : Result Front Refusal → Result (Header × Layout) Refusal → Type 0
IsFront found (Ok (header, layout)) = found ≡ Ok (record { header = header; layout = layout })
IsFront found (Err refusal) = SaysOf refusal (found ≡ Err refusal)

-- the index behind this header, on drives that hold these bytes, and the reads of its pages
abbrev pub index_on : Layout → Header → List (List ℕ) → Result ImageIndex Refusal
index_on layout header helds =
    index_of header (take header.index_bytes (pages_at layout.unit helds header.index_first (pages_for header.index_bytes)))

abbrev pub reads_of_index : Layout → Header → List DriveRead
reads_of_index layout header = page_reads layout.drives layout.unit header.index_first (pages_for header.index_bytes)
