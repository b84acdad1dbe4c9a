use Rattle.std.proofs.Common.{◌≡◌, ◌+◌, ◌≤◌, All, vec_len, length, vec_capacity}
use Rattle.fg_cache.specs.Shelf.{IsShelf}
use Rattle.fg_cache.proofs.GatherLemmas.{Sofar}
use Rattle.fg_cache.proofs.gathering.gather.Given as goal

abbrev pub invariant-loop-lock : goal.invariant-loop-lock
invariant-loop-lock g l = record {
  so_far : Sofar (λ lock shelf. IsShelf g.D.Drive.held g.D.Drive.log g.D.Drive.told g.D.Drive.room g.D.Drive.faults lock 0 shelf) l.fn.ledgers l.fn.share l.initial.shares l.fn.shelves.items
      l.shelves.items l.all.drives.items l.all.share l.all.failed l.all.reads l.all.pages;
  own : All (λ lock. lock.site.books ≡ l.fn.ledgers) l.shelves.items;
  shares : l.shares ≡ l.initial.shares;
  room : length l.shelves.items + vec_len l.all.drives ≤ vec_capacity l.all.drives;
}

abbrev pub decreases-loop-lock : goal.decreases-loop-lock
decreases-loop-lock g l = goal.left-loop-lock g l
