-- The clock, which finds the entry that a new page takes.
use Rattle.std.specs.Prelude.{ℕ, ◌+◌, ◌&&◌, Bool, not, List, Option, Some, None, if◌then◌else◌, length, nat_lt, slice_index_or, slice_set}
use Rattle.std.proofs.Common.{zero, suc}
use Rattle.fg_set.specs.Entry.{blank, is_free, loading, passed}
use Rattle.fg_set.specs.declared.entry.Entry.{Entry}

-- what a turn of the clock ends with: the entry that it took, if any, and what the entries and the hand are then
pub record Turn : Type 0 where
  pub taken : Option ℕ
  pub entries : List Entry
  pub hand : ℕ

-- after each look the hand goes to the next entry, and after the last one to the first
abbrev pub hand_after : ℕ → ℕ → ℕ
hand_after ways hand = if nat_lt (hand + 1) ways then hand + 1 else 0

-- the clock takes a free entry without a mark
abbrev pub is_taken : Entry → Bool
is_taken entry = is_free entry && not entry.marked

-- A turn with so many looks: an entry that isn't free is passed, a marked one loses its mark and is passed, and a free one
-- without a mark becomes the page's.
unfoldable pub turn : ℕ → ℕ → List Entry → ℕ → Turn
turn zero page entries hand = record { taken = None; entries = entries; hand = hand }
turn (suc looks) page entries hand =
    let entry = slice_index_or entries hand blank in
    let next = hand_after (length entries) hand in
    if is_taken entry
    then record { taken = Some hand; entries = slice_set entries hand (loading page entry); hand = next }
    else turn looks page (slice_set entries hand (passed entry)) next
