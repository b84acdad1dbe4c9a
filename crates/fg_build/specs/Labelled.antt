-- What is found of the labels of drives, one by one and of all.
use Rattle.std.specs.Prelude.{◌≡◌, ◌≢◌, ◌<◌, ◌≤◌, ◌/◌, ℕ, Option, None, Some, Result, Ok, Err, List, [], length, slice_index_or}
use Rattle.fg_base.specs.declared.limits.TheConstants.{MAX_IMAGE_PAGES, PAGE_BYTES}
use Rattle.fg_base.specs.declared.refusal.Refusal.{Refusal}
use Rattle.fg_base.specs.declared.refusal.Refusal.TheVariants.{NoLabel}
use Rattle.fg_build.specs.Calls.{SaysOf}
use Rattle.fg_build.specs.Labels.{drives_refusal, first_label, label_on, label_refusal}
use Rattle.fg_build.specs.Opening.{opening_of}
use Rattle.fg_build.specs.declared.labels.Labelled.{Labelled}
use Rattle.fg_outside.specs.Drives.{EachDriveFrom}
use Rattle.fg_stripe.specs.declared.label.Label.{Label}
use Rattle.fg_stripe.specs.declared.layout.Layout.{Layout}

-- the fields of a label are within their ranges
pub record LabelFits (label : Label) : Type 0 where
  pub own : label.drive < label.drives
  pub few_drives : label.drives ≤ 16
  pub some_unit : 1 ≤ label.unit
  pub small_unit : label.unit ≤ 256
  pub some_pages : 2 ≤ label.pages
  pub few_pages : label.pages ≤ MAX_IMAGE_PAGES

-- how the image of this label is striped, its sections not placed
abbrev pub striping_of : Label → Layout
striping_of label = record { drives = label.drives; unit = label.unit; pages = label.pages; out_first = 0; in_first = 0 }

-- a drive that holds these bytes has this label and so many pages, or no label
abbrev pub IsLabelled : ℕ → List ℕ → Result Labelled Refusal → Type 0
IsLabelled drive held (Ok found) = (label_on held ≡ Some found.label) × (found.pages ≡ length held / PAGE_BYTES)
IsLabelled drive held (Err refusal) = SaysOf refusal ((label_on held ≡ None) × (refusal ≡ NoLabel drive))

-- nothing refuses a drive of so many that holds these bytes, where drive 0 has the first label, or this does
abbrev pub IsPassed : ℕ → Label → ℕ → List ℕ → Result Unit Refusal → Type 0
IsPassed drives first drive held (Ok passed) = label_refusal drives first drive held (label_on held) ≡ None
IsPassed drives first drive held (Err refusal) = SaysOf refusal (label_refusal drives first drive held (label_on held) ≡ Some refusal)

-- what refuses drive 0, where it has this label
abbrev pub first_refusal : List (List ℕ) → Label → Option Refusal
first_refusal helds label = label_refusal (length helds) label 0 (slice_index_or helds 0 []) (label_on (slice_index_or helds 0 []))

-- drive 0 has this label and nothing refuses it, or this refuses it and so the drives
abbrev pub IsFirst : List (List ℕ) → Result Label Refusal → Type 0
IsFirst helds (Ok label) = (first_label helds ≡ Some label) × (first_refusal helds label ≡ None)
IsFirst helds (Err refusal) = SaysOf refusal (opening_of helds ≡ Err refusal)

-- drive 0 has this label and nothing refuses any drive's, or this refuses the drives
abbrev pub IsAllLabelled : List (List ℕ) → Result Label Refusal → Type 0
IsAllLabelled helds (Ok label) = (first_label helds ≡ Some label) × (drives_refusal helds (Some label) ≡ None)
IsAllLabelled helds (Err refusal) = SaysOf refusal (opening_of helds ≡ Err refusal)

-- the drive of this number told at least so many pages, and what the others told is as it was
abbrev pub ToldEnough : {D : Type 0} → (D → ℕ) → ℕ → ℕ → List D → List D → Type 0
ToldEnough told drive need olds news =
    EachDriveFrom 0 (λ number old new. (number ≡ drive → need ≤ told new) × (number ≢ drive → told new ≡ told old)) olds news
