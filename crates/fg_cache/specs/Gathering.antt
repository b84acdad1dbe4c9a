-- What the locks of the drives leave when they are taken apart.
use Rattle.std.specs.Prelude.{◌≡◌, ℕ, ◌+◌, true, List, [], ◌∷◌, Option, Some, None, if◌then◌else◌, length, map, All, pos, ◌+ℤ◌, ◌≤ℤ◌}
use Rattle.std.specs.Prelude.{reverse}
use Rattle.std.specs.List.{sum_by}
use Rattle.fg_books.specs.Shares.{BooksId}
use Rattle.fg_cache.specs.Names.{DriveLock}
use Rattle.fg_cache.specs.Share.{Four}
use Rattle.fg_cache.specs.Shelf.{stopped}
use Rattle.fg_cache.specs.Slips.{FaultOf}
use Rattle.fg_cache.specs.declared.gathering.Gathered.{Gathered}
use Rattle.fg_cache.specs.declared.shelf.Shelf.{Shelf}

-- each lock has its shelf
abbrev pub FitEach : {D : Type 0} → (DriveLock D → Shelf D → Type 0) → List (DriveLock D) → List (Shelf D) → Type 0
FitEach P [] [] = Unit {0}
FitEach P (lock ∷ locks) (shelf ∷ shelves) = P lock shelf × FitEach P locks shelves
FitEach P locks shelves = ⊥

-- the number of the first shelf whose drive's count of faults rose
abbrev pub first_risen : {D : Type 0} → List (Shelf D) → Option ℕ
first_risen [] = None
first_risen (shelf ∷ shelves) = if shelf.rose then Some shelf.number else first_risen shelves

-- the reads of these shelves, and their pages
abbrev pub reads_of : {D : Type 0} → List (Shelf D) → ℕ
reads_of {D} shelves = sum_by (λ (shelf : Shelf D). shelf.reads) shelves

abbrev pub pages_of : {D : Type 0} → List (Shelf D) → ℕ
pages_of {D} shelves = sum_by (λ (shelf : Shelf D). shelf.pages) shelves

-- a share of a fault of one of these drives names one whose count rose
abbrev pub NamesRisen : {D : Type 0} → List FaultOf → Shelf D → Type 0
NamesRisen shares shelf = All (λ (share : FaultOf). share.drive ≡ shelf.number → shelf.rose ≡ true) shares

-- what was gathered from these shelves, the share that was there before included
pub record GathersFrom {D : Type 0} (books : BooksId) (before : Four) (shares : List FaultOf) (ends : List (Shelf D)) (drives : List D) (after : Four)
    (failed : Option ℕ) (reads pages : ℕ) : Type 0 where
  pub drives_back : drives ≡ reverse (map (λ (shelf : Shelf D). shelf.drive) ends)
  pub least : failed ≡ first_risen ends
  pub all_reads : reads ≡ stopped (reads_of ends)
  pub all_pages : pages ≡ stopped (pages_of ends)
  pub own : after.books ≡ books
  pub parts : after.parts ≡ before.parts + length ends
  pub pushes : after.pushes ≡ before.pushes
  pub repairs : after.repairs ≡ before.repairs
  pub takes : (before.takes +ℤ pos (pages_of ends)) ≤ℤ after.takes
  pub entries : failed ≡ None → after.entries ≡ before.entries
  pub named : All (NamesRisen shares) ends

-- the shelves behind the locks, and what was gathered from them
pub record Gathers {D : Type 0} (fits : DriveLock D → Shelf D → Type 0) (books : BooksId) (before : Four) (shares : List FaultOf)
    (locks : List (DriveLock D)) (all : Gathered D) : Type 0 where
  pub ends : List (Shelf D)
  pub fit : FitEach fits locks ends
  pub from_them : GathersFrom books before shares ends all.drives.items all.share all.failed all.reads all.pages
