-- What the locks of a cache say of their ledgers once they are taken apart.
use Rattle.std.specs.Prelude.{◌≡◌, ℕ, ◌≤◌, List, length, All, pos, ◌+ℤ◌, ◌≤ℤ◌}
use Rattle.std.specs.List.{sum_by}
use Rattle.fg_books.specs.Shares.{BooksId}
use Rattle.fg_cache.specs.Names.{LockOf}
use Rattle.fg_cache.specs.Share.{Four}
use Rattle.fg_cache.specs.Site.{own_pages}

-- the locks are of these books
abbrev pub AreOf : BooksId → List LockOf → Type 0
AreOf books locks = All (λ (lock : LockOf). lock.site.books ≡ books) locks

-- how many pages may be asked for that stand in this lock's set
abbrev pub owned : LockOf → ℕ
owned lock = length (own_pages lock.site lock.number)

-- each set has a way for each of its pages that may be asked for
abbrev pub AllRoomy : List LockOf → Type 0
AllRoomy locks = All (λ (lock : LockOf). owned lock ≤ lock.site.shape.ways) locks

-- the loads begun in these sets and not given up, less the repairs, are no more than the pages that may be asked for and stand in them
abbrev pub BeginsFew : Four → Four → List LockOf → Type 0
BeginsFew old new locks = AllRoomy locks → (old.entries +ℤ old.repairs) ≤ℤ ((new.entries +ℤ new.repairs) +ℤ pos (sum_by owned locks))
