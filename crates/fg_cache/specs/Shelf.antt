-- What stands behind the lock of a drive.
use Rattle.std.specs.Prelude.{◌≡◌, ℕ, ◌-◌, ◌^◌, ◌<◌, ◌+◌, true, false, Bool, List, Option, Some, None, IsSome, All, length, slice_get, slice_index_or, min, pos}
use Rattle.std.specs.List.{sum_by}
use Rattle.fg_base.specs.Faults.{Rose}
use Rattle.fg_base.specs.Told.{grown}
use Rattle.fg_books.specs.Shares.{parts_of, amount_of}
use Rattle.fg_cell.specs.Pages.{Page, FitsImage, IsPageOf}
use Rattle.fg_outside.specs.declared.drive.Read.{Read}
use Rattle.fg_outside.specs.Log.{read_of}
use Rattle.fg_queue.specs.LoadRun.{first_of}
use Rattle.fg_queue.specs.declared.load.Load.{Load}
use Rattle.fg_stripe.specs.Held.{page_of}
use Rattle.fg_stripe.specs.Striping.{drive_of, local_of}
use Rattle.fg_stripe.specs.declared.layout.Layout.{Layout}
use Rattle.fg_cache.specs.Load.{IsLoad, IsAskedRead}
use Rattle.fg_cache.specs.Names.{DriveLock}
use Rattle.fg_cache.specs.Site.{Site}
use Rattle.fg_cache.specs.declared.shelf.Shelf.{Shelf}

-- a count that stands still at the end of its type
abbrev pub stopped : ℕ → ℕ
stopped count = min count (2 ^ 64 - 1)

-- Where the image is told, the drive of this number tells its bytes, and the image's pages on it stand there at their places.
abbrev pub HoldsPages : Option (List (List ℕ)) → Layout → ℕ → Option (List ℕ) → Type 0
HoldsPages None layout number held = Unit {0}
HoldsPages (Some pages) layout number None = ⊥
HoldsPages (Some pages) layout number (Some bytes) =
    (page : ℕ) → page < layout.pages → drive_of page layout.drives layout.unit ≡ number →
    slice_get pages page ≡ Some (page_of bytes (local_of page layout.drives layout.unit))

-- the drive told that it has all pages of the image that stand on it
abbrev pub TellsPages : Layout → ℕ → ℕ → Type 0
TellsPages layout number told =
    (page : ℕ) → page < layout.pages → drive_of page layout.drives layout.unit ≡ number → local_of page layout.drives layout.unit < told

-- a drive that a cache can be opened over
pub record IsStocked {D : Type 0} (held : D → Option (List ℕ)) (told : D → ℕ) (image : Option (List (List ℕ))) (layout : Layout)
    (number : ℕ) (drive : D) : Type 0 where
  pub pages : HoldsPages image layout number (held drive)
  pub all_told : TellsPages layout number (told drive)

-- what a drive tells of itself stays, but for its log and its count of faults
pub record StaysAs {D : Type 0} (held : D → Option (List ℕ)) (told : D → ℕ) (room : D → Option ℕ) (opened drive : D) : Type 0 where
  pub same_held : held drive ≡ held opened
  pub same_told : told drive ≡ told opened
  pub same_room : room drive ≡ room opened

-- whether the drive's count of faults rose; that of a drive that tells its room didn't
pub record SaysRisen {D : Type 0} (room : D → Option ℕ) (faults : D → ℕ) (opened drive : D) (rose : Bool) : Type 0 where
  pub stands : rose ≡ false → faults drive ≡ faults opened
  pub risen : rose ≡ true → Rose (faults opened) (faults drive)
  pub sure : IsSome (room opened) → rose ≡ false

-- The log grew by reads of pages that may be asked for; where the drive didn't fail, these are the reads and pages counted.
pub record Grew {D : Type 0} (log : D → Option (List Read)) (site : Site) (number : ℕ) (opened drive : D)
    (rose : Bool) (reads pages : ℕ) : Type 0 where
  pub more : List Read
  pub asked : All (IsAskedRead site number) more
  pub longer : log drive ≡ grown (log opened) more
  pub reads_counted : rose ≡ false → reads ≡ stopped (length more)
  pub pages_counted : rose ≡ false → pages ≡ stopped (sum_by (λ (read : Read). read.count) more)

-- the spare buffer is there, and fits the frames
abbrev pub IsSpare : Option (List (List ℕ)) → Option Page → Type 0
IsSpare image None = ⊥
IsSpare image (Some page) = FitsImage image page

-- What stands behind the lock of a drive, where `behind` pages were taken from its queue that aren't read yet. Its fault ledger has
-- all parts, and no amount as long as the drive didn't fail; its takes are the pages read, and these `behind`.
pub record IsShelf {D : Type 0} (held : D → Option (List ℕ)) (log : D → Option (List Read)) (told : D → ℕ) (room : D → Option ℕ) (faults : D → ℕ)
    (name : DriveLock D) (behind : ℕ) (shelf : Shelf D) : Type 0 where
  pub stocked : IsStocked held told name.site.image name.site.layout name.number name.opened
  pub number : shelf.number ≡ name.number
  pub within : name.number < name.site.books.plan.loose
  pub stays : StaysAs held told room name.opened shelf.drive
  pub says : SaysRisen room faults name.opened shelf.drive shelf.rose
  pub grew : Grew log name.site name.number name.opened shelf.drive shelf.rose shelf.reads shelf.pages
  pub books : shelf.share.books ≡ name.site.books
  pub parts : shelf.share.parts ≡ 1
  pub fault_books : shelf.faults.books ≡ name.site.books
  pub fault_parts : parts_of shelf.faults name.number ≡ name.site.books.plan.parts
  pub fault_amount : shelf.rose ≡ false → amount_of shelf.faults name.number ≡ pos 0
  pub pushes : shelf.share.pushes ≡ pos 0
  pub repairs : shelf.share.repairs ≡ pos 0
  pub taken : ℕ
  pub takes : shelf.share.takes ≡ pos (taken + behind)
  pub counted : shelf.pages ≡ stopped taken
  pub entries : shelf.rose ≡ false → shelf.share.entries ≡ pos 0
  pub spare : IsSpare name.site.image shelf.spare

-- the same where these loads of the drive were taken from its queue, and aren't read yet
pub record IsToRead {D : Type 0} (held : D → Option (List ℕ)) (log : D → Option (List Read)) (told : D → ℕ) (room : D → Option ℕ) (faults : D → ℕ)
    (name : DriveLock D) (loads : List Load) (shelf : Shelf D) : Type 0 where
  pub fits : IsShelf held log told room faults name (length loads) shelf
  pub own : All (IsLoad name.site name.number) loads

-- the one read that a run of loads takes
abbrev pub run_read : List Load → Read
run_read loads = read_of (first_of loads) (length loads)

-- the pages of a run of loads stand in a read buffer, in order
abbrev pub HasPages : Option (List (List ℕ)) → List ℕ → List Load → Type 0
HasPages image buffer loads =
    (k : ℕ) (d : Load) → k < length loads → IsPageOf image (slice_index_or loads k d).page (page_of buffer k)
