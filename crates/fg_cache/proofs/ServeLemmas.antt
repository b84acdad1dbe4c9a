-- What serving a drive makes of its shelf.
use Rattle.std.proofs.Common.{◌≡◌, ℕ, true, Option, List, All, sym, subst, arith, pos, ◌+ℤ◌, ◌-ℤ◌}
use Rattle.std.proofs.lemmas.Bool.{both_ways}
use Rattle.std.proofs.lemmas.Int.{ints}
use Rattle.fg_cell.specs.Pages.{Page}
use Rattle.fg_outside.specs.declared.drive.Read.{Read}
use Rattle.fg_queue.specs.declared.load.Load.{Load}
use Rattle.fg_cache.specs.Load.{IsLoad}
use Rattle.fg_cache.specs.Names.{DriveLock}
use Rattle.fg_cache.specs.Site.{Site}
use Rattle.fg_cache.specs.Shelf.{IsShelf, IsSpare}
use Rattle.fg_cache.specs.declared.shelf.Shelf.{Shelf}

-- the loads are of the drive that the lock is of
pub own_loads : (here there : Site) (drive number : ℕ) (loads : List Load) → there ≡ here → number ≡ drive → All (IsLoad here drive) loads → All (IsLoad there number) loads
own_loads here there drive number loads site at are =
    subst (λ (s : Site). All (IsLoad s number) loads) (sym site) (subst (λ (n : ℕ). All (IsLoad here n) loads) (sym at) are)

module _ {D : Type 0} (held : D → Option (List ℕ)) (log : D → Option (List Read)) (told : D → ℕ) (room : D → Option ℕ) (faults : D → ℕ) (name : DriveLock D) where
  -- a run was taken from the queue
  pub taken_behind : (old : Shelf D) (count : ℕ) → IsShelf held log told room faults name 0 old →
      IsShelf held log told room faults name count (record old { share = record old.share { takes = old.share.takes +ℤ pos count } })
  taken_behind old count fits =
      let had = fits.takes in
      record {
        stocked = fits.stocked;
        number = fits.number;
        within = fits.within;
        stays = fits.stays;
        says = fits.says;
        grew = fits.grew;
        books = fits.books;
        parts = fits.parts;
        fault_books = fits.fault_books;
        fault_parts = fits.fault_parts;
        fault_amount = fits.fault_amount;
        pushes = fits.pushes;
        repairs = fits.repairs;
        taken = fits.taken;
        takes = omega (arith, ints, had);
        counted = fits.counted;
        entries = fits.entries;
        spare = fits.spare;
      }

  -- the pages went into their frames
  pub filled : (old : Shelf D) (spare : Option Page) → IsShelf held log told room faults name 0 old → IsSpare name.site.image spare →
      IsShelf held log told room faults name 0 (record old { spare = spare })
  filled old spare fits is = record {
    stocked = fits.stocked;
    number = fits.number;
    within = fits.within;
    stays = fits.stays;
    says = fits.says;
    grew = fits.grew;
    books = fits.books;
    parts = fits.parts;
    fault_books = fits.fault_books;
    fault_parts = fits.fault_parts;
    fault_amount = fits.fault_amount;
    pushes = fits.pushes;
    repairs = fits.repairs;
    taken = fits.taken;
    takes = fits.takes;
    counted = fits.counted;
    entries = fits.entries;
    spare = is;
  }

  -- the loads of a failed run were given up
  pub given_up : (old : Shelf D) (count : ℕ) → old.rose ≡ true → IsShelf held log told room faults name 0 old →
      IsShelf held log told room faults name 0 (record old { share = record old.share { entries = old.share.entries -ℤ pos count } })
  given_up old count rose fits = record {
    stocked = fits.stocked;
    number = fits.number;
    within = fits.within;
    stays = fits.stays;
    says = fits.says;
    grew = fits.grew;
    books = fits.books;
    parts = fits.parts;
    fault_books = fits.fault_books;
    fault_parts = fits.fault_parts;
    fault_amount = fits.fault_amount;
    pushes = fits.pushes;
    repairs = fits.repairs;
    taken = fits.taken;
    takes = fits.takes;
    counted = fits.counted;
    entries = λ stood. absurd (both_ways old.rose stood rose);
    spare = fits.spare;
  }
