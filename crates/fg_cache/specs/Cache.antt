-- A cache as contracts see it, and what its calls tell.
use Rattle.std.specs.Prelude.{◌≡◌, ◌≢◌, ℕ, ◌<◌, List, length, slice_index_or}
use Rattle.fg_set.specs.Slips.{IsUnderWay, IsAllHeld}
use Rattle.fg_stripe.specs.Striping.{drive_of}
use Rattle.fg_cache.specs.Load.{IsLoad}
use Rattle.fg_cache.specs.Names.{LockOf, DriveLock}
use Rattle.fg_cache.specs.Pass.{Token, IsPinOf, one_queued, one_stale, one_hit}
use Rattle.fg_cache.specs.SetDesk.{IsSetOf}
use Rattle.fg_cache.specs.Site.{Site}
use Rattle.fg_cache.specs.declared.served.Served.{Served}
use Rattle.fg_cache.specs.declared.served.Served.TheVariants as served
use Rattle.fg_cache.specs.declared.wanted.Wanted.{Wanted}
use Rattle.fg_cache.specs.declared.wanted.Wanted.TheVariants as wanted
use Rattle.std.specs.List.{All}

-- what all its locks have in common, and the drives as they were when it was opened
pub record CacheOver (D : Type 0) : Type 0 where
  pub site : Site
  pub drives : List D

-- the locks of a kind are named by their places
abbrev pub AreNamed : Site → List LockOf → Type 0
AreNamed site locks = (k : ℕ) (d : LockOf) → k < length locks → slice_index_or locks k d ≡ record { site = site; number = k }

-- the drives' locks too
abbrev pub AreShelves : {D : Type 0} → Site → List (DriveLock D) → Type 0
AreShelves {D} site locks =
    (k : ℕ) (d : DriveLock D) → k < length locks → ((slice_index_or locks k d).site ≡ site) × ((slice_index_or locks k d).number ≡ k)

-- What `want` tells, of the page and the pass that were handed in: a pin of the page, or the same pass, with its counts, and the
-- slip of the step on the page's set or on the queue of its drive.
abbrev pub WantedTells : Site → ℕ → Token → Wanted → Type 0
WantedTells site page token (wanted.Hit pin) = IsPinOf site pin × (pin.page ≡ page) × (pin.pass ≡ one_hit token)
WantedTells site page token (wanted.Queued pass) = pass ≡ one_queued token
WantedTells site page token (wanted.Loading pass slip) =
    (pass ≡ token) × (slip.page ≡ page) × IsUnderWay slip.set page × IsSetOf site slip.set
WantedTells site page token (wanted.Again pass slip) =
    (pass ≡ token) × (slip.page ≡ page) × IsAllHeld slip.set page × IsSetOf site slip.set
WantedTells site page token (wanted.Full pass slip) =
    (pass ≡ token) × (slip.load.page ≡ page) × IsLoad site (drive_of page site.layout.drives site.layout.unit) slip.load
    × (length slip.queue.loads ≡ slip.queue.depth) × (slip.queue.depth ≡ site.shape.depth)
WantedTells site page token (wanted.Stale pass found) = (pass ≡ one_stale token) × (found ≢ page)

-- What `serve` tells: the loads that one read of this drive served, that none waited in a queue of this cache, or that the drive failed.
abbrev pub ServedTells : Site → ℕ → Served → Type 0
ServedTells site drive (served.Pages read) = All (IsLoad site drive) read.loads
ServedTells site drive (served.Idle slip) = (length slip.loads ≡ 0) × (slip.depth ≡ site.shape.depth)
ServedTells site drive (served.Fault share) = share ≡ record { books = site.books; drive = drive }

-- the answer isn't a fault
abbrev pub IsServed : Served → Type 0
IsServed (served.Pages read) = Unit {0}
IsServed (served.Idle slip) = Unit {0}
IsServed (served.Fault share) = ⊥
