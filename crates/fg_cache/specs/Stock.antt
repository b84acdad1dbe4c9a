-- A cache without its drives, as it is made first.
use Rattle.std.specs.Prelude.{◌≡◌, ◌≤◌, [], All, length, vec_capacity}
use Rattle.fg_base.specs.declared.limits.TheConstants.{NO_PAGE}
use Rattle.fg_cache.specs.Cache.{AreNamed}
use Rattle.fg_cache.specs.Opening.{AreNew, HasFaults}
use Rattle.fg_cache.specs.Share.{idle}
use Rattle.fg_cache.specs.Site.{IsSite, frames_of}
use Rattle.fg_cache.specs.declared.stock.Parked.{Parked}
use Rattle.fg_cache.specs.declared.stock.Stock.{Stock}

-- All locks but those of the drives are there, and all that these need: a part each, a fault ledger each, a buffer and a spare page.
pub record IsStock {D : Type 0} (stock : Stock D) : Type 0 where
  pub site : IsSite stock.home
  pub books : stock.home.books ≡ stock.ledgers
  pub share : stock.share ≡ idle stock.ledgers stock.home.layout.drives
  pub faults : HasFaults stock.home 0 stock.faults
  pub set_count : length stock.sets.items ≡ stock.home.shape.sets
  pub set_names : AreNamed stock.home stock.sets.items
  pub queue_count : length stock.queues.items ≡ stock.home.layout.drives
  pub queue_names : AreNamed stock.home stock.queues.items
  pub frame_count : length stock.frames.items ≡ frames_of stock.home
  pub frame_names : All (λ frame. frame ≡ stock.home.image) stock.frames.items
  pub pass_count : length stock.passes.items ≡ stock.home.shape.passes
  pub new_passes : AreNew stock.home stock.passes.items
  pub parked_count : length stock.parked.items ≡ stock.home.layout.drives
  pub blank : All (λ (one : Parked). one.spare.number ≡ NO_PAGE) stock.parked.items
  pub no_shelf : stock.shelves.items ≡ []
  pub shelf_room : stock.home.layout.drives ≤ vec_capacity stock.shelves
  pub no_drive : stock.room.items ≡ []
  pub drive_room : stock.home.layout.drives ≤ vec_capacity stock.room
