-- Facts of several drives, before and after a call. A drive's number is its place among them, from 0.
use Rattle.std.specs.Prelude.{◌≡◌, ℕ, zero, suc, ◌≤◌, ◌==◌, if◌then◌else◌, Option, None, Some, IsSome, List, [], ◌∷◌, map, take}
use Rattle.std.specs.List.{All, filter}
use Rattle.fg_base.specs.Faults.{Rose}
use Rattle.fg_base.specs.Told.{grown}
use Rattle.fg_outside.specs.declared.drive.Read.{Read}

-- there are as many drives as before, and the relation holds of each, before and after
abbrev pub EachDrive : {D : Type 0} → (D → D → Type 0) → List D → List D → Type 0
EachDrive R [] [] = Unit {0}
EachDrive R (old ∷ olds) (new ∷ news) = R old new × EachDrive R olds news
EachDrive R olds news = ⊥

-- what is read of each drive is as it was
abbrev pub EachSame : {D A : Type 0} → (D → A) → List D → List D → Type 0
EachSame of olds news = EachDrive (λ old new. of new ≡ of old) olds news

-- the same of a relation that is told the drive's number too, where the first drive has the number `first`
abbrev pub EachDriveFrom : {D : Type 0} → ℕ → (ℕ → D → D → Type 0) → List D → List D → Type 0
EachDriveFrom first R [] [] = Unit {0}
EachDriveFrom first R (old ∷ olds) (new ∷ news) = R first old new × EachDriveFrom (suc first) R olds news
EachDriveFrom first R olds news = ⊥

-- the fact holds of each drive and its number, where the first drive has the number `first`
abbrev pub HasEachFrom : {D : Type 0} → ℕ → (ℕ → D → Type 0) → List D → Type 0
HasEachFrom first P [] = Unit {0}
HasEachFrom first P (drive ∷ drives) = P first drive × HasEachFrom (suc first) P drives

-- the fact holds of each drive and its number
abbrev pub HasEach : {D : Type 0} → (ℕ → D → Type 0) → List D → Type 0
HasEach P drives = HasEachFrom 0 P drives

-- each drive told as many pages as are needed of the drive of its number
abbrev pub EachTold : {D : Type 0} → (D → ℕ) → (ℕ → ℕ) → List D → Type 0
EachTold told needed drives = HasEach (λ number drive. needed number ≤ told drive) drives

-- what the drive of this number told is `answer`, and what the others told is as it was
abbrev pub ToldBy : {D : Type 0} → (D → ℕ) → ℕ → ℕ → List D → List D → Type 0
ToldBy told drive answer olds news =
    EachDriveFrom 0 (λ number old new. told new ≡ (if number == drive then answer else told old)) olds news

-- no drive's count of faults rose
abbrev pub NoneRose : {D : Type 0} → (D → ℕ) → List D → List D → Type 0
NoneRose faults olds news = EachDrive (λ old new. faults new ≡ faults old) olds news

-- no drive that tells its room failed
abbrev pub RoomyKept : {D : Type 0} → (D → Option ℕ) → (D → ℕ) → List D → List D → Type 0
RoomyKept room faults olds news = EachDrive (λ old new. IsSome (room old) → faults new ≡ faults old) olds news

-- the drive of this number is the first whose count of faults rose
abbrev pub RoseFirst : {D : Type 0} → (D → ℕ) → ℕ → List D → List D → Type 0
RoseFirst faults zero (old ∷ olds) (new ∷ news) = Rose (faults old) (faults new)
RoseFirst faults (suc drive) (old ∷ olds) (new ∷ news) = (faults new ≡ faults old) × RoseFirst faults drive olds news
RoseFirst faults drive olds news = ⊥

-- an item before the items that are told; nothing where one of them isn't told
abbrev pub told_before : {A : Type 0} → Option A → Option (List A) → Option (List A)
told_before None told = None
told_before (Some item) None = None
told_before (Some item) (Some items) = Some (item ∷ items)

-- what all drives tell, in order; nothing where one doesn't tell
abbrev pub all_told : {D A : Type 0} → (D → Option A) → List D → Option (List A)
all_told tells [] = Some []
all_told tells (drive ∷ drives) = told_before (tells drive) (all_told tells drives)

-- a read of the drive of this number
pub record DriveRead : Type 0 where
  pub drive : ℕ
  pub read : Read

-- the reads of one drive, in order
abbrev pub own : ℕ → List DriveRead → List Read
own drive reads = map (λ (from : DriveRead). from.read) (filter (λ (from : DriveRead). from.drive == drive) reads)

-- each drive's log grew by its own of these reads
abbrev pub LogsGrew : {D : Type 0} → (D → Option (List Read)) → List DriveRead → List D → List D → Type 0
LogsGrew log reads olds news = EachDriveFrom 0 (λ drive old new. log new ≡ grown (log old) (own drive reads)) olds news

-- the logs grew by some first of these reads
abbrev pub LogsGrewByFirst : {D : Type 0} → (D → Option (List Read)) → List DriveRead → List D → List D → Type 0
LogsGrewByFirst log reads olds news = (k : ℕ) × LogsGrew log (take k reads) olds news

-- the logs grew by reads that all have the property
abbrev pub LogsGrewBy : {D : Type 0} → (DriveRead → Type 0) → (D → Option (List Read)) → List D → List D → Type 0
LogsGrewBy P log olds news = (reads : List DriveRead) × All P reads × LogsGrew log reads olds news
