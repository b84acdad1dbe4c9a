-- A list that is gone through page by page.
use Rattle.std.specs.Prelude.{◌≡◌, ℕ, ◌+◌, ◌-◌, ◌*◌, ◌%◌, ◌^◌, ◌<◌, ◌≤◌, ◌⊎◌, Bool, Option, Some, None, slice_index}
use Rattle.fg_base.specs.declared.limits.TheConstants.{PAGE_BYTES}
use Rattle.fg_base.specs.declared.plain.Dir.{Dir}
use Rattle.fg_edges.specs.declared.segment.Segment.{Segment}
use Rattle.fg_edges.specs.Segment.{IsSegment, count_of}
use Rattle.fg_image.specs.Lists.{begin_of}
use Rattle.fg_index.specs.ImageIndex.{ImageIndex, degrees_in, entry_bytes}
use Rattle.fg_stripe.specs.declared.layout.Layout.{Layout}

-- what is left of a list: the byte of the image at which its next entry stands, the number of that entry, and how many are left
pub record ListRest : Type 0 where
  pub weighted : Bool
  pub at : ℕ
  pub place : ℕ
  pub count : ℕ

-- a list of so many entries from this byte on
abbrev pub whole_list : Bool → ℕ → ℕ → ListRest
whole_list weighted at count = record { weighted = weighted; at = at; place = 0; count = count }

-- the list of a vertex
abbrev pub list_at : Layout → ImageIndex → Dir → ℕ → ListRest
list_at layout index dir v = whole_list index.weighted (begin_of layout index dir v) (slice_index (degrees_in index dir) v)

-- the byte behind it
abbrev pub rest_end : ListRest → ℕ
rest_end rest = rest.at + rest.count * entry_bytes rest.weighted

-- no entry straddles two pages, and page numbers and entry numbers are below 2^32
pub record IsOnPages (rest : ListRest) : Type 0 where
  pub whole : rest.at % entry_bytes rest.weighted ≡ 0
  pub few_pages : rest_end rest ≤ 2 ^ 31
  pub numbered : rest.place + rest.count < 2 ^ 32

-- what is left behind so many entries
abbrev pub behind : ListRest → ℕ → ListRest
behind rest taken = record {
  weighted = rest.weighted;
  at = rest.at + taken * entry_bytes rest.weighted;
  place = rest.place + taken;
  count = rest.count - taken;
}

-- the segment is the first of what is left: it begins at the next entry, and ends with its page or with the list
pub record IsNext (rest : ListRest) (s : Segment) : Type 0 where
  pub is_segment : IsSegment rest.weighted s
  pub some : 0 < count_of rest.weighted s
  pub there : count_of rest.weighted s ≤ rest.count
  pub at_its_place : s.place ≡ rest.place
  pub on_its_page : s.page * PAGE_BYTES + s.from ≡ rest.at
  pub all_of_the_page : (s.to ≡ PAGE_BYTES) ⊎ (count_of rest.weighted s ≡ rest.count)

-- the next segment is given, and then those behind it; none where nothing is left
abbrev pub Gives : ListRest → Option Segment → ListRest → Type 0
Gives rest (Some s) next = IsNext rest s × (next ≡ behind rest (count_of rest.weighted s))
Gives rest None next = (rest.count ≡ 0) × (next ≡ rest)
