use Rattle.std.proofs.Common.{◌≡◌, ◌++◌, ◌+◌, ◌≤◌, All, length, map, vec_len, vec_capacity}
use Rattle.std.specs.Prelude.{reverse}
use Rattle.fg_base.specs.declared.limits.TheConstants.{NO_PAGE}
use Rattle.fg_outside.specs.Drives.{HasEachFrom}
use Rattle.fg_cache.specs.Cache.{AreShelves}
use Rattle.fg_cache.specs.Opening.{HasFaults}
use Rattle.fg_cache.specs.Share.{idle}
use Rattle.fg_cache.specs.Shelf.{IsStocked}
use Rattle.fg_cache.proofs.opening.make_shelves.Given as goal

abbrev pub invariant-loop-drive : goal.invariant-loop-drive
invariant-loop-drive g l = record {
  opened : map (λ lock. lock.opened) l.shelves.items ++ reverse l.left.items ≡ l.fn.drives.items;
  count : length l.shelves.items ≡ l.number;
  whole : l.number + length l.left.items ≡ length l.fn.drives.items;
  long : vec_len l.shelves ≡ l.number;
  room : length l.fn.drives.items ≤ vec_capacity l.shelves;
  names : AreShelves l.fn.home l.shelves.items;
  share : l.share ≡ idle l.fn.ledgers (length l.left.items);
  faults : HasFaults l.fn.home l.number l.faults;
  parked : length l.parked.items ≡ length l.left.items;
  blank : All (λ one. one.spare.number ≡ NO_PAGE) l.parked.items;
  stocked : HasEachFrom l.number (λ number drive. IsStocked g.D.Drive.held g.D.Drive.told l.fn.home.image l.fn.home.layout number drive) (reverse l.left.items);
}

abbrev pub decreases-loop-drive : goal.decreases-loop-drive
decreases-loop-drive g l = length l.left.items
