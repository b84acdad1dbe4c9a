-- What an answer of `want` tells of the directory before and after it.
use Rattle.std.specs.Prelude.{◌≡◌, ◌≢◌, ◌⊎◌, ℕ, ◌<◌, true, false, Some, Any}
use Rattle.fg_set.specs.Entry.{page_of, is_empty, is_pinned, used_by, loading}
use Rattle.fg_set.specs.PageSet.{PageSet, ways_of, entry_at, with_entry}
use Rattle.fg_set.specs.Slips.{is_open, IsListed, IsUnderWay, IsAllHeld}
use Rattle.fg_set.specs.declared.answers.Placed.{Placed}
use Rattle.fg_set.specs.declared.answers.Placed.TheVariants as placed
use Rattle.fg_set.specs.declared.answers.WantSeen.{WantSeen}
use Rattle.fg_set.specs.declared.answers.WantSeen.TheVariants as seen
use Rattle.fg_set.specs.declared.entry.Entry.{Entry}
use Rattle.fg_set.specs.declared.entry.EntryState.TheVariants as state

-- the frame holds what it held, and the same workers have it pinned; only the mark may differ
pub record SameHold (old new : Entry) : Type 0 where
  pub state : new.state ≡ old.state
  pub pins : new.pins ≡ old.pins

-- every frame but this one is as before, but for marks
pub record ChangesOne (old new : PageSet) (frame : ℕ) : Type 0 where
  pub ways : ways_of new ≡ ways_of old
  pub workers : new.workers ≡ old.workers
  pub hand : new.hand < ways_of new
  pub others : (other : ℕ) → other ≢ frame → SameHold (entry_at old other) (entry_at new other)

-- an entry that is pinned before and after has the state that it had
abbrev pub KeepsPinned : PageSet → PageSet → Type 0
KeepsPinned old new =
    (frame : ℕ) → is_pinned (entry_at old frame) ≡ true → is_pinned (entry_at new frame) ≡ true →
    (entry_at new frame).state ≡ (entry_at old frame).state

-- no entry has a page that it didn't have
abbrev pub ListsNoMore : PageSet → PageSet → Type 0
ListsNoMore old new =
    (frame page : ℕ) → page_of (entry_at new frame) ≡ Some page → page_of (entry_at old frame) ≡ Some page

-- no entry has a page that it didn't have, but for the one that was asked for
abbrev pub ListsOneMore : PageSet → PageSet → ℕ → Type 0
ListsOneMore old new asked =
    (frame page : ℕ) → page_of (entry_at new frame) ≡ Some page → (page_of (entry_at old frame) ≡ Some page) ⊎ (page ≡ asked)

-- one entry alone changes, and this is what it becomes
abbrev pub OneBecomes : PageSet → PageSet → ℕ → (Entry → Entry) → Type 0
OneBecomes old new frame becomes = new ≡ with_entry old frame (becomes (entry_at old frame))

-- some entry is ready with the page
abbrev pub IsReady : PageSet → ℕ → Type 0
IsReady set page = Any (λ entry. entry.state ≡ state.Ready page) set.entries

-- the worker got the page: its frame is marked, and pinned by the worker
pub record HitsPage (old new : PageSet) (worker frame page : ℕ) : Type 0 where
  pub within : frame < ways_of old
  pub was_ready : (entry_at old frame).state ≡ state.Ready page
  pub used : new ≡ with_entry old frame (used_by worker (entry_at old frame))

-- a load began: of a page that was in no entry, into a frame that was empty or free, so that nobody has it pinned; where some
-- entry was empty, the frame's was, and it alone changed
pub record StartsLoad (old new : PageSet) (frame page : ℕ) : Type 0 where
  pub within : frame < ways_of old
  pub unlisted : ¬ IsListed old page
  pub was_open : is_open (entry_at old frame) ≡ true
  pub loads : (entry_at new frame).state ≡ state.Loading page
  pub pins : (entry_at new frame).pins ≡ (entry_at old frame).pins
  pub unpinned : is_pinned (entry_at new frame) ≡ false
  pub change : ChangesOne old new frame
  pub empty_first :
      (k : ℕ) → k < ways_of old → is_empty (entry_at old k) ≡ true →
      (is_empty (entry_at old frame) ≡ true) × OneBecomes old new frame (loading page)

-- what each answer tells
abbrev pub AnswerTells : ℕ → ℕ → PageSet → PageSet → WantSeen → Type 0
AnswerTells worker page old new (seen.Hit frame) = HitsPage old new worker frame page
AnswerTells worker page old new (seen.Start frame) = StartsLoad old new frame page
AnswerTells worker page old new seen.Loading = IsUnderWay old page × (new ≡ old)
AnswerTells worker page old new seen.Again = IsAllHeld old page × (new ≡ old)

-- what the answer of `ready` or `fail` tells: the entry was loading the page, and it alone changed; or it wasn't, and then this was
-- its state and nothing changed
abbrev pub PlacedTells : ℕ → ℕ → (Entry → Entry) → PageSet → PageSet → Placed → Type 0
PlacedTells frame page becomes old new placed.Done =
    ((entry_at old frame).state ≡ state.Loading page) × OneBecomes old new frame becomes
PlacedTells frame page becomes old new (placed.Other found) =
    (found ≡ (entry_at old frame).state) × (found ≢ state.Loading page) × (new ≡ old)
