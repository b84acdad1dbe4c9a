-- The reads by which drives are opened: each drive's label, then the header page, then each page of the index, ascending,
-- each page alone; and the reads of a whole image.
use Rattle.std.specs.Prelude.{ℕ, IfSome, Option, None, Some, Result, Ok, Err, List, [], ◌∷◌, ◌++◌, length, map}
use Rattle.std.specs.List.{range_with_len}
use Rattle.fg_base.specs.declared.refusal.Refusal.{Refusal}
use Rattle.fg_build.specs.Labels.{drives_refusal, first_label}
use Rattle.fg_image.specs.Front.{Front, front_at}
use Rattle.fg_image.specs.Header.{pages_for}
use Rattle.fg_outside.specs.Drives.{DriveRead, LogsGrew, LogsGrewByFirst, all_told}
use Rattle.fg_outside.specs.declared.drive.Read.{Read}
use Rattle.fg_outside.specs.Log.{read_of}
use Rattle.fg_stripe.specs.declared.label.Label.{Label}
use Rattle.fg_stripe.specs.declared.layout.Layout.{Layout}
use Rattle.fg_stripe.specs.Held.{page_on}
use Rattle.fg_stripe.specs.Striping.{drive_of, local_of}

-- the read of a drive's page, alone
abbrev pub alone : ℕ → ℕ → DriveRead
alone drive page = record { drive = drive; read = read_of page 1 }

-- the read of a page of the image at its place, over so many drives in units of so many pages
abbrev pub page_read : ℕ → ℕ → ℕ → DriveRead
page_read drives unit page = alone (drive_of page drives unit) (local_of page drives unit)

-- so many pages of the image from this one on, ascending
abbrev pub page_reads : ℕ → ℕ → ℕ → ℕ → List DriveRead
page_reads drives unit first count = map (page_read drives unit) (range_with_len first count)

-- the label of each of so many drives
abbrev pub label_reads : ℕ → List DriveRead
label_reads drives = map (λ drive. alone drive 0) (range_with_len 0 drives)

-- the index that a header page tells of; no page where that is refused
abbrev pub index_reads : Label → Result Front Refusal → List DriveRead
index_reads label (Err refusal) = []
index_reads label (Ok front) = page_reads label.drives label.unit front.header.index_first (pages_for front.header.index_bytes)

-- the header page and the index of an image with this label on drives that hold these bytes
abbrev pub image_reads : Label → List (List ℕ) → List DriveRead
image_reads label helds =
    page_read label.drives label.unit 0 ∷ index_reads label (front_at label.pages (page_on label.unit helds 0))

-- what is read behind the labels, where this refuses them or nothing does
abbrev pub reads_behind : List (List ℕ) → Option Label → Option Refusal → List DriveRead
reads_behind helds first (Some refusal) = []
reads_behind helds None None = []
reads_behind helds (Some label) None = image_reads label helds

-- the reads of a whole opening of drives that hold these bytes
unfoldable pub opening_reads : List (List ℕ) → List DriveRead
opening_reads helds = label_reads (length helds) ++ reads_behind helds (first_label helds) (drives_refusal helds (first_label helds))

-- the logs grew by these reads, or by some first of them, where the drives tell what they hold
abbrev pub OpeningRead : {D : Type 0} → (D → Option (List ℕ)) → (D → Option (List Read)) → List D → List D → Type 0
OpeningRead held log olds news = IfSome (all_told held olds) (λ helds. LogsGrew log (opening_reads helds) olds news)

abbrev pub OpeningReadFirst : {D : Type 0} → (D → Option (List ℕ)) → (D → Option (List Read)) → List D → List D → Type 0
OpeningReadFirst held log olds news = IfSome (all_told held olds) (λ helds. LogsGrewByFirst log (opening_reads helds) olds news)

-- the reads of a whole image
abbrev pub whole_reads : Layout → List DriveRead
whole_reads layout = page_reads layout.drives layout.unit 0 layout.pages
