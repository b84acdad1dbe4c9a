-- The directory of one page set as contracts see it, and the facts that hold of it at every moment.
use Rattle.std.specs.Prelude.{◌≡◌, ℕ, ◌<◌, ◌≤◌, true, List, Some, length, replicate, slice_index_or, slice_set, All}
use Rattle.fg_set.specs.Entry.{blank, page_of, is_pinned, is_state_filled}
use Rattle.fg_set.specs.declared.entry.Entry.{Entry}

-- One entry for each frame of the set; the clock's hand, which names the entry that it looks at next; and how many workers
-- there are, each with one bit in every entry.
pub record PageSet : Type 0 where
  pub entries : List Entry
  pub hand : ℕ
  pub workers : ℕ

-- the set's number of frames
abbrev pub ways_of : PageSet → ℕ
ways_of set = length set.entries

-- the entry of a frame; beyond the last one a blank entry
abbrev pub entry_at : PageSet → ℕ → Entry
entry_at set frame = slice_index_or set.entries frame blank

-- all entries empty, no mark, no bit, the hand at the first entry
abbrev pub new_set : ℕ → ℕ → PageSet
new_set ways workers = record { entries = replicate ways blank; hand = 0; workers = workers }

-- the set with another entry for this frame
abbrev pub with_entry : PageSet → ℕ → Entry → PageSet
with_entry set frame entry = record set { entries = slice_set set.entries frame entry }

-- no page is in two entries
abbrev pub AreApart : List Entry → Type 0
AreApart entries =
    (one other page : ℕ) →
    page_of (slice_index_or entries one blank) ≡ Some page → page_of (slice_index_or entries other blank) ≡ Some page → one ≡ other

-- an entry that is empty or loading has no pin bit
abbrev pub ArePinnedReady : List Entry → Type 0
ArePinnedReady entries =
    (frame : ℕ) → is_pinned (slice_index_or entries frame blank) ≡ true →
    is_state_filled (slice_index_or entries frame blank).state ≡ true

-- what holds of every directory at every moment
pub record IsSound (set : PageSet) : Type 0 where
  pub some_way : 0 < ways_of set
  pub at_most_16_ways : ways_of set ≤ 16
  pub at_most_64_workers : set.workers ≤ 64
  pub hand_within : set.hand < ways_of set
  pub bits : All (λ entry. length entry.pins ≡ 64) set.entries
  pub apart : AreApart set.entries
  pub pinned_ready : ArePinnedReady set.entries
