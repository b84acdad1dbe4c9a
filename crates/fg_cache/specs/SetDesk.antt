-- What stands behind the lock of a page set.
use Rattle.std.specs.Prelude.{◌≡◌, ℕ, ◌<◌, ◌≤◌, if◌then◌else◌, Some, length, pos, ◌+ℤ◌, ◌-ℤ◌, ◌≤ℤ◌}
use Rattle.std.specs.List.{Contains, sum_by}
use Rattle.fg_set.specs.Entry.{is_empty, page_of}
use Rattle.fg_set.specs.PageSet.{PageSet, IsSound, ways_of, entry_at}
use Rattle.fg_set.specs.Slips.{IsUnderWay, IsAllHeld}
use Rattle.fg_set.specs.declared.answers.WantSeen.{WantSeen}
use Rattle.fg_set.specs.declared.answers.WantSeen.TheVariants as seen
use Rattle.fg_set.specs.declared.entry.Entry.{Entry}
use Rattle.fg_cache.specs.Names.{LockOf}
use Rattle.fg_cache.specs.Share.{Four}
use Rattle.fg_cache.specs.Site.{Site, own_pages}
use Rattle.fg_cache.specs.declared.set_desk.SetDesk.{SetDesk}

-- how many entries have a page, ready or on its way
abbrev pub uses : Entry → ℕ
uses entry = if is_empty entry then 0 else 1

abbrev pub used_of : PageSet → ℕ
used_of set = sum_by uses set.entries

-- a page set of this cache
pub record IsSetOf (site : Site) (set : PageSet) : Type 0 where
  pub sound : IsSound set
  pub ways : ways_of set ≡ site.shape.ways
  pub workers : set.workers ≡ site.shape.passes

-- Only pages that may be asked for and stand in the set are listed. Where there is a way for each of them, the loads begun and not
-- given up, less the repairs, are no more than the entries in use.
pub record IsSetDesk (name : LockOf) (desk : SetDesk) : Type 0 where
  pub set : IsSetOf name.site desk.directory
  pub books : desk.share.books ≡ name.site.books
  pub parts : desk.share.parts ≡ 1
  pub pushes : desk.share.pushes ≡ pos 0
  pub takes : desk.share.takes ≡ pos 0
  pub listed : (frame page : ℕ) → page_of (entry_at desk.directory frame) ≡ Some page → Contains (own_pages name.site name.number) page
  pub used : length (own_pages name.site name.number) ≤ name.site.shape.ways
      → ((pos 0 -ℤ desk.share.entries) -ℤ desk.share.repairs) ≤ℤ pos (used_of desk.directory)

-- what an answer tells of the set that was asked, and of what was paid to who asks: an entry where a load begins
abbrev pub AskTells : ℕ → PageSet → Four → Four → WantSeen → Type 0
AskTells page set old new (seen.Hit way) = (way < ways_of set) × (new ≡ old)
AskTells page set old new (seen.Start way) = (way < ways_of set) × (new ≡ record old { entries = old.entries +ℤ pos 1 })
AskTells page set old new seen.Loading = IsUnderWay set page × (new ≡ old)
AskTells page set old new seen.Again = IsAllHeld set page × (new ≡ old)
