-- What each call of a directory answers, and what it makes of the directory.
use Rattle.std.specs.Prelude.{ℕ, ◌*◌, Bool, true, false, Option, Some, None, position, if◌then◌else◌}
use Rattle.std.specs.List.{list_any}
use Rattle.fg_set.specs.Clock.{turn}
use Rattle.fg_set.specs.Entry.{is_empty, is_loading, is_ready, is_free, used_by, loading, ready, emptied, unpinned_by, repaired_by}
use Rattle.fg_set.specs.PageSet.{PageSet, ways_of, entry_at, with_entry}
use Rattle.fg_set.specs.declared.answers.WantSeen.{WantSeen}
use Rattle.fg_set.specs.declared.answers.WantSeen.TheVariants.{Hit, Start, Loading, Again}
use Rattle.fg_set.specs.declared.answers.Placed.{Placed}
use Rattle.fg_set.specs.declared.answers.Placed.TheVariants.{Done, Other}

-- ---- `want`: a worker asks for a page

-- the answer, and the directory after it
pub record Wanted : Type 0 where
  pub answer : WantSeen
  pub after : PageSet

abbrev pub turn_answer : Option ℕ → WantSeen
turn_answer (Some frame) = Start frame
turn_answer None = Again

-- 5. Otherwise the clock looks, at most twice at each entry, which always is enough for it to find a free one.
abbrev pub turned : ℕ → PageSet → Wanted
turned page set =
    let end = turn (2 * ways_of set) page set.entries set.hand in
    record { answer = turn_answer end.taken; after = record set { entries = end.entries; hand = end.hand } }

-- 4. no entry is free: the caller comes again
abbrev pub held_or_turned : ℕ → PageSet → Bool → Wanted
held_or_turned page set false = record { answer = Again; after = set }
held_or_turned page set true = turned page set

-- 3. some entry is empty: the lowest one gets the page, and the hand stays
abbrev pub started_or_more : ℕ → PageSet → Option ℕ → Wanted
started_or_more page set (Some frame) =
    record { answer = Start frame; after = with_entry set frame (loading page (entry_at set frame)) }
started_or_more page set None = held_or_turned page set (list_any is_free set.entries)

-- 2. the page is on its way
abbrev pub under_way_or_more : ℕ → PageSet → Option ℕ → Wanted
under_way_or_more page set (Some _) = record { answer = Loading; after = set }
under_way_or_more page set None = started_or_more page set (position is_empty set.entries)

-- 1. the page is there: its entry is marked, and pinned by the worker
abbrev pub hit_or_more : ℕ → ℕ → PageSet → Option ℕ → Wanted
hit_or_more worker page set (Some frame) =
    record { answer = Hit frame; after = with_entry set frame (used_by worker (entry_at set frame)) }
hit_or_more worker page set None = under_way_or_more page set (position (is_loading page) set.entries)

abbrev pub wanted : ℕ → ℕ → PageSet → Wanted
wanted worker page set = hit_or_more worker page set (position (is_ready page) set.entries)

-- ---- `ready` and `fail`: who started a load ends it

-- the answer, and the directory after it
pub record Ended : Type 0 where
  pub answer : Placed
  pub after : PageSet

-- only an entry that is loading the page changes; of another one its state is answered
abbrev pub ended : ℕ → ℕ → PageSet → PageSet → Ended
ended frame page set changed =
    if is_loading page (entry_at set frame)
    then record { answer = Done; after = changed }
    else record { answer = Other (entry_at set frame).state; after = set }

-- the page's bytes came: the entry is ready, and marked
abbrev pub made_ready : ℕ → ℕ → PageSet → Ended
made_ready frame page set = ended frame page set (with_entry set frame (ready page (entry_at set frame)))

-- they didn't: the entry is empty
abbrev pub failed : ℕ → ℕ → PageSet → Ended
failed frame page set = ended frame page set (with_entry set frame (emptied (entry_at set frame)))

-- ---- `unpin` and `repair`: a worker gives its pin back

abbrev pub unpinned : ℕ → ℕ → PageSet → PageSet
unpinned worker frame set = with_entry set frame (unpinned_by worker (entry_at set frame))

-- it found another page in the frame: where nobody else has it pinned, the entry is given up
abbrev pub repaired : ℕ → ℕ → PageSet → PageSet
repaired worker frame set = with_entry set frame (repaired_by worker (entry_at set frame))
