-- One entry of a page set's directory, and what its calls make of it.
use Rattle.std.specs.Prelude.{ℕ, ◌==◌, ◌&&◌, Bool, true, false, not, Option, Some, None, if◌then◌else◌, slice_set, replicate}
use Rattle.fg_set.specs.PinBits.{is_any_set}
use Rattle.fg_set.specs.declared.entry.EntryState.{EntryState}
use Rattle.fg_set.specs.declared.entry.EntryState.TheVariants.{Empty, Loading, Ready}
use Rattle.fg_set.specs.declared.entry.Entry.{Entry}

-- an entry of a new directory: no page, no mark, no pin
abbrev pub blank : Entry
blank = record { state = Empty; marked = false; pins = replicate 64 false }

-- ---- what a state says

-- the page that the frame holds or waits for
abbrev pub page_in : EntryState → Option ℕ
page_in Empty = None
page_in (Loading page) = Some page
page_in (Ready page) = Some page

abbrev pub is_state_empty : EntryState → Bool
is_state_empty Empty = true
is_state_empty (Loading _) = false
is_state_empty (Ready _) = false

abbrev pub is_state_loading : ℕ → EntryState → Bool
is_state_loading page Empty = false
is_state_loading page (Loading coming) = coming == page
is_state_loading page (Ready _) = false

abbrev pub is_state_ready : ℕ → EntryState → Bool
is_state_ready page Empty = false
is_state_ready page (Loading _) = false
is_state_ready page (Ready held) = held == page

-- ready of some page
abbrev pub is_state_filled : EntryState → Bool
is_state_filled Empty = false
is_state_filled (Loading _) = false
is_state_filled (Ready _) = true

-- ---- what is asked of an entry

abbrev pub page_of : Entry → Option ℕ
page_of entry = page_in entry.state

abbrev pub is_empty : Entry → Bool
is_empty entry = is_state_empty entry.state

abbrev pub is_loading : ℕ → Entry → Bool
is_loading page entry = is_state_loading page entry.state

abbrev pub is_ready : ℕ → Entry → Bool
is_ready page entry = is_state_ready page entry.state

-- an entry is pinned where one of its bits is set
abbrev pub is_pinned : Entry → Bool
is_pinned entry = is_any_set entry.pins

-- a free entry is one that is ready and not pinned
abbrev pub is_free : Entry → Bool
is_free entry = is_state_filled entry.state && not (is_pinned entry)

-- ---- what an entry becomes

-- a worker found its page: marked, and pinned by it
abbrev pub used_by : ℕ → Entry → Entry
used_by worker entry = record entry { marked = true; pins = slice_set entry.pins worker true }

-- a load of the page began
abbrev pub loading : ℕ → Entry → Entry
loading page entry = record entry { state = Loading page; marked = false }

-- the load ended well
abbrev pub ready : ℕ → Entry → Entry
ready page entry = record entry { state = Ready page; marked = true }

-- the page is given up
abbrev pub emptied : Entry → Entry
emptied entry = record entry { state = Empty }

-- the clock looked and went on: a free entry loses its mark
abbrev pub passed : Entry → Entry
passed entry = record entry { marked = not (is_free entry) && entry.marked }

-- the worker's bit is cleared
abbrev pub unpinned_by : ℕ → Entry → Entry
unpinned_by worker entry = record entry { pins = slice_set entry.pins worker false }

-- the worker's bit is cleared, and the page given up where it was the last bit of a ready entry
abbrev pub repaired_by : ℕ → Entry → Entry
repaired_by worker entry =
    let unpinned = unpinned_by worker entry in
    record unpinned { state = (if is_free unpinned then Empty else unpinned.state) }
