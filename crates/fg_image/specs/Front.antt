-- What the header page of an image says: the header and where the sections stand.
use Rattle.std.specs.Prelude.{◌≡◌, ◌≤◌, ℕ, Result, Ok, Err, List, ◌+◌, ◌*◌, ◌^◌}
use Rattle.fg_base.specs.declared.limits.TheConstants.{MAX_IMAGE_PAGES}
use Rattle.fg_base.specs.declared.refusal.Refusal.{Refusal}
use Rattle.fg_image.specs.declared.header.Header.{Header}
use Rattle.fg_image.specs.Header.{header_at, pages_for, sections_of, size_of}
use Rattle.fg_stripe.specs.declared.layout.Layout.{Layout}

-- a header and where its sections stand
pub record Front : Type 0 where
  pub header : Header
  pub layout : Layout

abbrev pub with_layout : Header → Result Layout Refusal → Result Front Refusal
with_layout header (Err refusal) = Err refusal
with_layout header (Ok layout) = Ok (record { header = header; layout = layout })

abbrev pub with_header : ℕ → Result Header Refusal → Result Front Refusal
with_header pages (Err refusal) = Err refusal
with_header pages (Ok header) = with_layout header (sections_of header pages)

-- what the header page of an image of so many pages says, or its first refusal
abbrev pub front_at : ℕ → List ℕ → Result Front Refusal
front_at pages page = with_header pages (header_at page)

-- an accepted header of an image of at most `MAX_IMAGE_PAGES`: its numbers are within the limits and agree with each other
pub record HeaderFits (header : Header) (layout : Layout) : Type 0 where
  pub few_vertices : header.n ≤ 2 ^ 24
  pub few_pages : layout.pages ≤ MAX_IMAGE_PAGES
  pub few_outs : header.out_entries ≤ 2 ^ 26
  pub few_ins : header.in_entries ≤ 2 ^ 26
  pub few_bytes : header.index_bytes ≤ 2 ^ 27
  pub outs_first : layout.out_first ≡ 1
  pub ins_behind : layout.in_first ≡ 1 + pages_for (header.out_entries * size_of header)
  pub index_behind : header.index_first ≡ layout.in_first + pages_for (header.in_entries * size_of header)
  pub index_last : layout.pages ≡ header.index_first + pages_for header.index_bytes
