-- The answers of looking whether drives are empty, and of building on them, by cases.
use Rattle.std.specs.Prelude.{◌≡◌, ◌≤◌, ◌<◌, ℕ, zero, suc, ◌/◌, Option, Result, Ok, Err, List, [], ◌∷◌, length, take}
use Rattle.fg_base.specs.declared.refusal.Refusal.{Refusal}
use Rattle.fg_base.specs.Told.{grown, GrewByFirst}
use Rattle.fg_base.specs.declared.limits.TheConstants.{PAGE_BYTES}
use Rattle.fg_build.specs.Appending.{RoomyKeptFor}
use Rattle.fg_build.specs.Layouts.{Plan, drive_bytes}
use Rattle.fg_model.specs.Edges.{EdgeList}
use Rattle.fg_outside.specs.Drives.{EachDriveFrom, EachSame, NoneRose, RoseFirst}

-- the drive of this number is the first that holds a whole page
abbrev pub IsFirstFull : ℕ → List (List ℕ) → Type 0
IsFirstFull drive [] = ⊥
IsFirstFull zero (held ∷ helds) = PAGE_BYTES ≤ length held
IsFirstFull (suc drive) (held ∷ helds) = (length held < PAGE_BYTES) × IsFirstFull drive helds

-- no drive holds a whole page
abbrev pub AreEmpty : List (List ℕ) → Type 0
AreEmpty [] = Unit {0}
AreEmpty (held ∷ helds) = (length held < PAGE_BYTES) × AreEmpty helds

-- what an answer says of what the drives hold; a drive that failed was looked at once those before it were found empty
abbrev pub SaysEmpty : Result Unit Refusal → List (List ℕ) → Type 0
SaysEmpty (Ok unit) helds = AreEmpty helds
SaysEmpty (Err (Refusal.NotEmpty drive)) helds = IsFirstFull drive helds
SaysEmpty (Err (Refusal.DriveFault drive)) helds = AreEmpty (take drive helds)
SaysEmpty (Err refusal) helds = ⊥

-- whose count of faults rose by an answer of looking: the named drive's first, or none; a drive that isn't empty is one of them,
-- also where they don't tell what they hold
abbrev pub EmptyCounts : {D : Type 0} → (D → ℕ) → List D → List D → Result Unit Refusal → Type 0
EmptyCounts faults olds news (Ok unit) = NoneRose faults olds news
EmptyCounts faults olds news (Err (Refusal.NotEmpty drive)) = (drive < length olds) × NoneRose faults olds news
EmptyCounts faults olds news (Err (Refusal.DriveFault drive)) = RoseFirst faults drive olds news
EmptyCounts faults olds news (Err refusal) = ⊥

-- no drive failed that tells room for its part of the image of these edges, whatever the others did
abbrev pub RoomyKeptForImage : {D : Type 0} → (D → Option ℕ) → (D → ℕ) → Plan → EdgeList → List D → List D → Type 0
RoomyKeptForImage room faults plan edges olds news = RoomyKeptFor room faults (λ drive. length (drive_bytes plan edges drive) / PAGE_BYTES) olds news

-- each drive holds its part of the image of these edges behind what it held, or a first of it
abbrev pub HoldImage : {D : Type 0} → (D → Option (List ℕ)) → Plan → EdgeList → List D → List D → Type 0
HoldImage held plan edges olds news = EachDriveFrom 0 (λ drive old new. held new ≡ grown (held old) (drive_bytes plan edges drive)) olds news

abbrev pub HoldFirst : {D : Type 0} → (D → Option (List ℕ)) → Plan → EdgeList → List D → List D → Type 0
HoldFirst held plan edges olds news = EachDriveFrom 0 (λ drive old new. GrewByFirst (drive_bytes plan edges drive) (held old) (held new)) olds news

-- what an answer of building says of what the drives hold: the whole image; or nothing new for want of memory; or a first part
-- of each drive's, where a drive failed
abbrev pub Builds : {D : Type 0} → (D → Option (List ℕ)) → Plan → EdgeList → List D → List D → Result ℕ Refusal → Type 0
Builds held plan edges olds news (Ok pages) = HoldImage held plan edges olds news
Builds held plan edges olds news (Err Refusal.Memory) = EachSame held olds news
Builds held plan edges olds news (Err (Refusal.DriveFault drive)) = HoldFirst held plan edges olds news
Builds held plan edges olds news (Err refusal) = ⊥
