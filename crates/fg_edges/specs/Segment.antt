-- The part of a list on one page.
use Rattle.std.specs.Prelude.{◌≡◌, ℕ, ◌+◌, ◌-◌, ◌*◌, ◌/◌, ◌^◌, ◌<◌, ◌≤◌, Bool, List}
use Rattle.fg_base.specs.declared.limits.TheConstants.{PAGE_BYTES}
use Rattle.fg_base.specs.declared.plain.Entry.{Entry}
use Rattle.fg_edges.specs.declared.segment.Segment.{Segment}
use Rattle.fg_image.specs.Lists.{entries_at}
use Rattle.fg_index.specs.ImageIndex.{entry_bytes}

-- how many entries it has
abbrev pub count_of : Bool → Segment → ℕ
count_of weighted s = (s.to - s.from) / entry_bytes weighted

-- its bytes are whole entries within a page
pub record IsInside (weighted : Bool) (s : Segment) : Type 0 where
  pub whole : s.from + count_of weighted s * entry_bytes weighted ≡ s.to
  pub inside : s.to ≤ PAGE_BYTES

-- besides, its entries have numbers below 2^32
pub record IsSegment (weighted : Bool) (s : Segment) : Type 0 where
  pub inside : IsInside weighted s
  pub numbered : s.place + count_of weighted s < 2 ^ 32

-- its entries, by the bytes of its page
abbrev pub segment_entries : Bool → List ℕ → Segment → List Entry
segment_entries weighted bytes s = entries_at weighted bytes s.from (count_of weighted s)
