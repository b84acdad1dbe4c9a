-- What each step of a page set keeps behind its lock.
use Rattle.std.proofs.Common.{◌≡◌, ◌∙◌, ℕ, ◌+◌, ◌<◌, ◌≤◌, true, false, Some, refl, length, inl, inr, arith, ℤ, pos, ◌+ℤ◌, ◌-ℤ◌, ◌≤ℤ◌}
use Rattle.std.specs.List.{Contains}
use Rattle.std.proofs.lemmas.Bool.{cases_Bool, both_ways, false≢true}
use Rattle.std.proofs.lemmas.Int.{ints}
use Rattle.fg_set.specs.Change.{AnswerTells, PlacedTells, ListsNoMore, ListsOneMore, OneBecomes}
use Rattle.fg_set.specs.Entry.{page_of, is_empty, used_by, ready, emptied, unpinned_by, repaired_by}
use Rattle.fg_set.specs.PageSet.{PageSet, IsSound, ways_of, entry_at}
use Rattle.fg_set.specs.Want.{is_start}
use Rattle.fg_set.specs.declared.answers.Placed.{Placed}
use Rattle.fg_set.specs.declared.answers.Placed.TheVariants as placed
use Rattle.fg_set.specs.declared.answers.WantSeen.{WantSeen}
use Rattle.fg_set.specs.declared.answers.WantSeen.TheVariants as seen
use Rattle.fg_set.specs.declared.entry.Entry.{Entry}
use Rattle.fg_cache.specs.Names.{LockOf}
use Rattle.fg_cache.specs.SetDesk.{IsSetDesk, IsSetOf, AskTells, uses, used_of}
use Rattle.fg_cache.specs.Share.{Four}
use Rattle.fg_cache.specs.Site.{own_pages}
use Rattle.fg_cache.specs.declared.set_desk.SetDesk.{SetDesk}
use Rattle.fg_cache.proofs.UsedLemmas.{used-with_entry, used-started}

uses-one : (entry : Entry) → uses entry ≤ 1
uses-one entry = elim (cases_Bool (is_empty entry)) [ inl e ↦ rw e (omega arith) | inr e ↦ rw e (omega arith) ]

-- one entry alone changed: no more than one less is in use, and as many where it is as full as before
used-becomes : (old new : PageSet) (frame : ℕ) (becomes : Entry → Entry) → frame < ways_of old → OneBecomes old new frame becomes →
    (used_of old ≤ used_of new + 1) × (uses (becomes (entry_at old frame)) ≡ uses (entry_at old frame) → used_of new ≡ used_of old)
used-becomes old new frame becomes within is =
    let change : used_of new + uses (entry_at old frame) ≡ used_of old + uses (becomes (entry_at old frame)) =
    rw is (used-with_entry old frame (becomes (entry_at old frame)) within) in
    (omega (arith, change, uses-one (entry_at old frame)), λ same. omega (arith, change, same))

module _ (name : LockOf) (old : SetDesk) (set : PageSet) (fits : IsSetDesk name old)
    (sound : IsSound set) (ways : ways_of set ≡ ways_of old.directory) (workers : set.workers ≡ old.directory.workers) where
  still : IsSetOf name.site set
  still = record { sound = sound; ways = ways ∙ fits.set.ways; workers = workers ∙ fits.set.workers }

  -- no page more is listed
  with_share : (entries repairs : ℤ) → ListsNoMore old.directory set →
      (length (own_pages name.site name.number) ≤ name.site.shape.ways → ((pos 0 -ℤ entries) -ℤ repairs) ≤ℤ pos (used_of set)) →
      IsSetDesk name (record { directory = set; share = record old.share { entries = entries; repairs = repairs } })
  with_share entries repairs lists used = record {
    set = still;
    books = fits.books;
    parts = fits.parts;
    pushes = fits.pushes;
    takes = fits.takes;
    listed = λ frame page has. fits.listed frame page (lists frame page has);
    used = used;
  }

  pub keeps_ready : (way page : ℕ) (answer : Placed) → way < ways_of old.directory → ListsNoMore old.directory set →
      PlacedTells way page (ready page) old.directory set answer → IsSetDesk name (record { directory = set; share = old.share })
  keeps_ready way page placed.Done within lists tells =
      let same : used_of set ≡ used_of old.directory = (used-becomes old.directory set way (ready page) within tells.1).1 (rw tells.0 refl) in
      with_share old.share.entries old.share.repairs lists (λ few. rw same (fits.used few))
  keeps_ready way page (placed.Other found) within lists tells =
      with_share old.share.entries old.share.repairs lists (λ few. rw tells.2 (fits.used few))

  pub keeps_fail : (way page : ℕ) (answer : Placed) → way < ways_of old.directory → ListsNoMore old.directory set →
      PlacedTells way page emptied old.directory set answer →
      IsSetDesk name (record { directory = set; share = record old.share { entries = old.share.entries +ℤ pos 1 } })
  keeps_fail way page placed.Done within lists tells =
      let less = (used-becomes old.directory set way emptied within tells.1).0 in
      with_share (old.share.entries +ℤ pos 1) old.share.repairs lists (λ few. let had = fits.used few in omega (arith, ints, had, less))
  keeps_fail way page (placed.Other found) within lists tells =
      let same : used_of set ≡ used_of old.directory = rw tells.2 refl in
      with_share (old.share.entries +ℤ pos 1) old.share.repairs lists (λ few. let had = fits.used few in omega (arith, ints, had, same))

  pub keeps_unpin : (worker way : ℕ) → way < ways_of old.directory → ListsNoMore old.directory set →
      OneBecomes old.directory set way (unpinned_by worker) → IsSetDesk name (record { directory = set; share = old.share })
  keeps_unpin worker way within lists becomes =
      let same : used_of set ≡ used_of old.directory = (used-becomes old.directory set way (unpinned_by worker) within becomes).1 refl in
      with_share old.share.entries old.share.repairs lists (λ few. rw same (fits.used few))

  pub keeps_repair : (worker way : ℕ) → way < ways_of old.directory → ListsNoMore old.directory set →
      OneBecomes old.directory set way (repaired_by worker) →
      IsSetDesk name (record { directory = set; share = record old.share { repairs = old.share.repairs +ℤ pos 1 } })
  keeps_repair worker way within lists becomes =
      let less = (used-becomes old.directory set way (repaired_by worker) within becomes).0 in
      with_share old.share.entries (old.share.repairs +ℤ pos 1) lists (λ few. let had = fits.used few in omega (arith, ints, had, less))

  -- ---- `want`

  listed_more : (page : ℕ) → ListsOneMore old.directory set page → Contains (own_pages name.site name.number) page →
      (frame listed : ℕ) → page_of (entry_at set frame) ≡ Some listed → Contains (own_pages name.site name.number) listed
  listed_more page lists has frame listed is = elim (lists frame listed is) [
    | inl before ↦ fits.listed frame listed before
    | inr same ↦ rw same has
  ]

  with_listed : (page : ℕ) (entries : ℤ) → ListsOneMore old.directory set page → Contains (own_pages name.site name.number) page →
      (length (own_pages name.site name.number) ≤ name.site.shape.ways → ((pos 0 -ℤ entries) -ℤ old.share.repairs) ≤ℤ pos (used_of set)) →
      IsSetDesk name (record { directory = set; share = record old.share { entries = entries } })
  with_listed page entries lists has used = record {
    set = still;
    books = fits.books;
    parts = fits.parts;
    pushes = fits.pushes;
    takes = fits.takes;
    listed = listed_more page lists has;
    used = used;
  }

  -- an answer without a load
  pub keeps_asked : (worker page : ℕ) (answer : WantSeen) → is_start answer ≡ false → AnswerTells worker page old.directory set answer →
      ListsOneMore old.directory set page → Contains (own_pages name.site name.number) page →
      IsSetDesk name (record { directory = set; share = old.share })
  keeps_asked worker page (seen.Hit way) other tells lists has =
      let same : used_of set ≡ used_of old.directory = (used-becomes old.directory set way (used_by worker) tells.within tells.used).1 refl in
      with_listed page old.share.entries lists has (λ few. rw same (fits.used few))
  keeps_asked worker page (seen.Start way) other tells lists has = absurd (both_ways true other refl)
  keeps_asked worker page seen.Loading other tells lists has = with_listed page old.share.entries lists has (λ few. rw tells.1 (fits.used few))
  keeps_asked worker page seen.Again other tells lists has = with_listed page old.share.entries lists has (λ few. rw tells.1 (fits.used few))

  -- an answer with one
  pub keeps_started : (worker page : ℕ) (answer : WantSeen) → is_start answer ≡ true → AnswerTells worker page old.directory set answer →
      ListsOneMore old.directory set page → Contains (own_pages name.site name.number) page →
      IsSetDesk name (record { directory = set; share = record old.share { entries = old.share.entries -ℤ pos 1 } })
  keeps_started worker page (seen.Start way) is tells lists has =
      with_listed page (old.share.entries -ℤ pos 1) lists has (λ few.
      let had = fits.used few in
      let one : used_of set ≡ used_of old.directory + 1 =
      used-started (own_pages name.site name.number) page way old.directory set fits.set.sound fits.listed tells has (rw fits.set.ways few) in
      omega (arith, ints, had, one))
  keeps_started worker page (seen.Hit way) is tells lists has = absurd (false≢true is)
  keeps_started worker page seen.Loading is tells lists has = absurd (false≢true is)
  keeps_started worker page seen.Again is tells lists has = absurd (false≢true is)

-- what is paid to who asks
pub tells_asked : (worker page : ℕ) (old new : PageSet) (paid : Four) (answer : WantSeen) → is_start answer ≡ false →
    AnswerTells worker page old new answer → AskTells page old paid paid answer
tells_asked worker page old new paid (seen.Hit way) other tells = (tells.within, refl)
tells_asked worker page old new paid (seen.Start way) other tells = absurd (both_ways true other refl)
tells_asked worker page old new paid seen.Loading other tells = (tells.0, refl)
tells_asked worker page old new paid seen.Again other tells = (tells.0, refl)

pub tells_started : (worker page : ℕ) (old new : PageSet) (paid : Four) (answer : WantSeen) → is_start answer ≡ true →
    AnswerTells worker page old new answer → AskTells page old paid (record paid { entries = paid.entries +ℤ pos 1 }) answer
tells_started worker page old new paid (seen.Start way) is tells = (tells.within, refl)
tells_started worker page old new paid (seen.Hit way) is tells = absurd (false≢true is)
tells_started worker page old new paid seen.Loading is tells = absurd (false≢true is)
tells_started worker page old new paid seen.Again is tells = absurd (false≢true is)
