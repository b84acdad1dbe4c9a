-- The labels of drives that are to hold one image, and the first that refuses them.
use Rattle.std.specs.Prelude.{ℕ, Bool, Option, None, Some, List, [], ◌∷◌, ◌+◌, ◌/◌, ◌==◌, ◌&&◌, nat_le, length, if◌then◌else◌}
use Rattle.fg_base.specs.declared.limits.TheConstants.{PAGE_BYTES}
use Rattle.fg_base.specs.declared.refusal.Refusal.{Refusal}
use Rattle.fg_base.specs.declared.refusal.Refusal.TheVariants.{LabelDiffers, NoLabel, ShortDrive, WrongDrive}
use Rattle.fg_stripe.specs.declared.label.Label.{Label}
use Rattle.fg_stripe.specs.Held.{page_of}
use Rattle.fg_stripe.specs.Label.{label_of}
use Rattle.fg_stripe.specs.Striping.{pages_on}

-- the label of a drive that holds these bytes: its page 0, where it has one and that is a label
abbrev pub label_on : List ℕ → Option Label
label_on held = if nat_le PAGE_BYTES (length held) then label_of (page_of held 0) else None

-- the label is of an image on so many drives, the image of this first label
abbrev pub agrees_with : ℕ → Label → Label → Bool
agrees_with drives first label =
    label.drives == drives && label.unit == first.unit && label.pages == first.pages && label.number == first.number

-- how many pages this drive needs for its part of the image of this label: its label and its pages
abbrev pub need_of : ℕ → Label → ℕ
need_of drive label = 1 + length (pages_on drive label.drives label.unit label.pages)

-- the drive has the pages that it needs, or is short of them
abbrev pub short_of : ℕ → ℕ → ℕ → Option Refusal
short_of drive have need = if nat_le need have then None else Some (ShortDrive drive have need)

-- what refuses this drive of so many, which has so many pages and this label, where drive 0 has the first label
abbrev pub refusal_by : ℕ → Label → ℕ → ℕ → Label → Option Refusal
refusal_by drives first drive have label =
    if label.drive == drive
    then (if agrees_with drives first label then short_of drive have (need_of drive label) else Some (LabelDiffers drive))
    else Some (WrongDrive drive label.drive)

-- the same of a drive that holds these bytes, where it has a label or none
abbrev pub label_refusal : ℕ → Label → ℕ → List ℕ → Option Label → Option Refusal
label_refusal drives first drive held None = Some (NoLabel drive)
label_refusal drives first drive held (Some label) = refusal_by drives first drive (length held / PAGE_BYTES) label

-- the first of two refusals
abbrev pub or_else : Option Refusal → Option Refusal → Option Refusal
or_else None other = other
or_else (Some refusal) other = Some refusal

-- the first refusal of these drives, from this number on, of so many in all
abbrev pub labels_refusal : ℕ → Label → ℕ → List (List ℕ) → Option Refusal
labels_refusal drives first drive [] = None
labels_refusal drives first drive (held ∷ helds) =
    or_else (label_refusal drives first drive held (label_on held)) (labels_refusal drives first (drive + 1) helds)

-- the label of drive 0
abbrev pub first_label : List (List ℕ) → Option Label
first_label [] = None
first_label (held ∷ helds) = label_on held

-- the first refusal of all these drives, where drive 0 has this label or none
abbrev pub drives_refusal : List (List ℕ) → Option Label → Option Refusal
drives_refusal helds None = Some (NoLabel 0)
drives_refusal helds (Some first) = labels_refusal (length helds) first 0 helds
