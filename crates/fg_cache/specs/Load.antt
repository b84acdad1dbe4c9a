-- The loads that wait for a drive, and where the pages stand that may be asked for.
use Rattle.std.specs.Prelude.{◌≡◌, ℕ, ◌<◌, ◌≤◌, ◌+◌}
use Rattle.std.specs.List.{Contains}
use Rattle.fg_base.specs.declared.limits.TheConstants.{MAX_RUN_PAGES}
use Rattle.fg_outside.specs.declared.drive.Read.{Read}
use Rattle.fg_queue.specs.declared.load.Load.{Load}
use Rattle.fg_stripe.specs.Striping.{drive_of, local_of}
use Rattle.fg_cache.specs.Site.{Site, asked_pages, frames_of}

-- the page may be asked for, and stands at this place of the drive
pub record StandsAt (site : Site) (drive page local : ℕ) : Type 0 where
  pub asked : Contains (asked_pages site) page
  pub own_drive : drive_of page site.layout.drives site.layout.unit ≡ drive
  pub place : local_of page site.layout.drives site.layout.unit ≡ local

-- a load of a page that stands on the drive and may be asked for, into a frame of the cache
pub record IsLoad (site : Site) (drive : ℕ) (load : Load) : Type 0 where
  pub stands : StandsAt site drive load.page load.local
  pub frame_within : load.frame < frames_of site

-- a read of one to 32 pages, which all stand on the drive and may be asked for
pub record IsAskedRead (site : Site) (drive : ℕ) (read : Read) : Type 0 where
  pub some : 1 ≤ read.count
  pub few : read.count ≤ MAX_RUN_PAGES
  pub at_place : (local : ℕ) → read.first ≤ local → local < read.first + read.count → (page : ℕ) × StandsAt site drive page local
