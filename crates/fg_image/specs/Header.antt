-- The header page of an image: its numbers, which pages are headers, and where the sections stand by it.
use Rattle.std.specs.Prelude.{ℕ, Bool, Result, Ok, Err, List, [], ◌∷◌, ◌+◌, ◌*◌, ◌/◌, ◌-◌, ◌^◌, ◌==◌, ◌&&◌, nat_le, nat_eq, drop, if◌then◌else◌}
use Rattle.std.specs.List.{starts_with}
use Rattle.fg_base.specs.declared.limits.TheConstants.{PAGE_BYTES}
use Rattle.fg_base.specs.declared.refusal.Refusal.{Refusal}
use Rattle.fg_base.specs.declared.refusal.Refusal.TheVariants.{BadHeader, BadVersion, BadSections}
use Rattle.fg_image.specs.declared.header.Header.{Header}
use Rattle.fg_index.specs.ImageIndex.{entry_bytes}
use Rattle.fg_stripe.specs.declared.layout.Layout.{Layout}
use Rattle.fg_stripe.specs.Label.{is_blank, number_at, wide_number_at}

-- `FGIMAGE` and a zero byte
abbrev pub image_magic : List ℕ
image_magic = 70 ∷ 71 ∷ 73 ∷ 77 ∷ 65 ∷ 71 ∷ 69 ∷ 0 ∷ []

-- the numbers of a header page, from byte 8 to byte 76
abbrev pub header_of : List ℕ → Header
header_of page = record {
  version = number_at page 8;
  flags = number_at page 12;
  n = number_at page 16;
  pages = number_at page 20;
  out_entries = wide_number_at page 24;
  in_entries = wide_number_at page 32;
  out_bytes = wide_number_at page 40;
  in_bytes = wide_number_at page 48;
  index_bytes = wide_number_at page 56;
  out_first = number_at page 64;
  in_first = number_at page 68;
  index_first = number_at page 72;
}

-- flags 0 or 1, and counts within the limits
abbrev pub is_counted : Header → Bool
is_counted header =
    nat_le header.flags 1
    && nat_le header.n (2 ^ 24)
    && nat_le header.out_entries (2 ^ 26)
    && nat_le header.in_entries (2 ^ 26)

-- the header that a page with the magic and version 1 is
abbrev pub counted_header : List ℕ → Result Header Refusal
counted_header page = if is_counted (header_of page) && is_blank (drop 76 page) then Ok (header_of page) else Err BadHeader

-- the header that a page is, or the first thing that refuses it: the magic, the version, the rest
abbrev pub header_at : List ℕ → Result Header Refusal
header_at page =
    if starts_with nat_eq page image_magic
    then (if (header_of page).version == 1 then counted_header page else Err (BadVersion (header_of page).version))
    else Err BadHeader

-- whether entries have weights
abbrev pub is_weighted : Header → Bool
is_weighted header = header.flags == 1

-- the bytes of an entry
abbrev pub size_of : Header → ℕ
size_of header = entry_bytes (is_weighted header)

-- the pages that so many bytes fill
abbrev pub pages_for : ℕ → ℕ
pages_for bytes = (bytes + (PAGE_BYTES - 1)) / PAGE_BYTES

-- the bytes are those of the entries, and the sections lie one behind the other from page 1 up to the last of so many pages
abbrev pub has_sections : ℕ → Header → Bool
has_sections pages header =
    header.out_bytes == header.out_entries * size_of header
    && header.in_bytes == header.in_entries * size_of header
    && nat_le header.index_bytes (2 ^ 27)
    && header.out_first == 1
    && header.in_first == 1 + pages_for header.out_bytes
    && header.index_first == header.in_first + pages_for header.in_bytes
    && header.pages == header.index_first + pages_for header.index_bytes
    && header.pages == pages

-- where the sections of an image of so many pages stand, on one drive
abbrev pub sections_of : Header → ℕ → Result Layout Refusal
sections_of header pages =
    if has_sections pages header
    then Ok (record { drives = 1; unit = 1; pages = pages; out_first = header.out_first; in_first = header.in_first })
    else Err BadSections
