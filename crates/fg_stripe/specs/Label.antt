-- A drive's label: how it is spelled on the drive's page 0, and which pages are labels. All numbers stand with the lowest
-- byte first.
use Rattle.std.specs.Prelude.{ℕ, Bool, Option, Some, None, List, [], ◌∷◌, ◌++◌, ◌==◌, ◌&&◌, nat_le, nat_lt, nat_eq, replicate, drop, if◌then◌else◌}
use Rattle.std.specs.List.{list_all, starts_with}
use Rattle.byteorder.specs.Endian.{little_number, little_bytes}
use Rattle.fg_base.specs.declared.limits.TheConstants.{MAX_IMAGE_PAGES}
use Rattle.fg_stripe.specs.declared.label.Label.{Label}

-- the number in 4 bytes from a place on, and in 8
abbrev pub number_at : List ℕ → ℕ → ℕ
number_at bytes place = little_number 4 (drop place bytes)

abbrev pub wide_number_at : List ℕ → ℕ → ℕ
wide_number_at bytes place = little_number 8 (drop place bytes)

-- nothing but zeros
abbrev pub is_blank : List ℕ → Bool
is_blank bytes = list_all (λ b. b == 0) bytes

-- so many zeros
unfoldable pub zeros : ℕ → List ℕ
zeros n = replicate n 0

-- `FGDRIVE` and a zero byte
abbrev pub drive_magic : List ℕ
drive_magic = 70 ∷ 71 ∷ 68 ∷ 82 ∷ 73 ∷ 86 ∷ 69 ∷ 0 ∷ []

-- the fields are within their ranges: a drive of 1 to 16, a unit of 1 to 256 pages, 2 to `MAX_IMAGE_PAGES` image pages
abbrev pub is_accepted : Label → Bool
is_accepted label =
    nat_lt label.drive label.drives
    && nat_le label.drives 16
    && nat_le 1 label.unit
    && nat_le label.unit 256
    && nat_le 2 label.pages
    && nat_le label.pages MAX_IMAGE_PAGES

-- the fields, from byte 8 to byte 32 of the page
abbrev pub fields_of : List ℕ → Label
fields_of page = record {
  drive = number_at page 8;
  drives = number_at page 12;
  unit = number_at page 16;
  pages = number_at page 20;
  number = wide_number_at page 24;
}

-- the page is a label: the magic, fields within their ranges, and zeros to the end of the page
abbrev pub is_label : List ℕ → Bool
is_label page = starts_with nat_eq page drive_magic && is_accepted (fields_of page) && is_blank (drop 32 page)

-- the label that a page is
abbrev pub label_of : List ℕ → Option Label
label_of page = if is_label page then Some (fields_of page) else None

-- a label's page
unfoldable pub label_bytes : Label → List ℕ
label_bytes label =
    drive_magic
    ++ little_bytes 4 label.drive
    ++ little_bytes 4 label.drives
    ++ little_bytes 4 label.unit
    ++ little_bytes 4 label.pages
    ++ little_bytes 8 label.number
    ++ zeros 4064
