-- What drives hold when an image was built over them.
use Rattle.std.specs.Prelude.{ℕ, ◌+◌, ◌/◌, List, ◌++◌, length, map}
use Rattle.std.specs.List.{flat_map, range_with_len}
use Rattle.fg_base.specs.declared.limits.TheConstants.{PAGE_BYTES}
use Rattle.fg_image.specs.Made.{image_bytes}
use Rattle.fg_model.specs.Edges.{EdgeList}
use Rattle.fg_stripe.specs.declared.label.Label.{Label}
use Rattle.fg_stripe.specs.Held.{page_of}
use Rattle.fg_stripe.specs.Label.{label_bytes}
use Rattle.fg_stripe.specs.Striping.{pages_on}

-- how an image is laid out: over so many drives, in units of so many pages, with this number
pub record Plan : Type 0 where
  pub drives : ℕ
  pub unit : ℕ
  pub number : ℕ

abbrev pub plan_of : ℕ → ℕ → ℕ → Plan
plan_of drives unit number = record { drives = drives; unit = unit; number = number }

-- the same by an image's label
abbrev pub plan_by : Label → Plan
plan_by label = plan_of label.drives label.unit label.number

-- the label of a drive of an image of so many pages
abbrev pub label_for : Plan → ℕ → ℕ → Label
label_for plan pages drive = record { drive = drive; drives = plan.drives; unit = plan.unit; pages = pages; number = plan.number }

-- what a drive holds of an image: its label, and its pages in order
abbrev pub layout_of : Plan → List ℕ → ℕ → List ℕ
layout_of plan image drive =
    label_bytes (label_for plan (length image / PAGE_BYTES) drive)
    ++ flat_map (page_of image) (pages_on drive plan.drives plan.unit (length image / PAGE_BYTES))

-- how many pages they are
abbrev pub layout_pages : Plan → List ℕ → ℕ → ℕ
layout_pages plan image drive = 1 + length (pages_on drive plan.drives plan.unit (length image / PAGE_BYTES))

-- both by an image's label
abbrev pub layout_by : Label → List ℕ → ℕ → List ℕ
layout_by label = layout_of (plan_by label)

abbrev pub layout_pages_by : Label → List ℕ → ℕ → ℕ
layout_pages_by label = layout_pages (plan_by label)

-- what a drive holds of the image of these edges
unfoldable pub drive_bytes : Plan → EdgeList → ℕ → List ℕ
drive_bytes plan edges drive = layout_of plan (image_bytes edges) drive

-- what all drives hold of it, in order
abbrev pub all_drive_bytes : Plan → EdgeList → List (List ℕ)
all_drive_bytes plan edges = map (drive_bytes plan edges) (range_with_len 0 plan.drives)
