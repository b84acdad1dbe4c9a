-- What calls of drives did to all of them, by what the calls were to read and by their answer.
use Rattle.std.specs.Prelude.{◌≡◌, ℕ, Option, Result, Ok, Err, List}
use Rattle.fg_base.specs.declared.refusal.Refusal.{Refusal}
use Rattle.fg_build.specs.Answers.{MatchOpening}
use Rattle.fg_outside.specs.declared.drive.Read.{Read}
use Rattle.fg_outside.specs.Drives.{DriveRead, EachSame, LogsGrew, LogsGrewByFirst, NoneRose, RoomyKept, RoseFirst}

-- what the drives hold and their room are as they were, and no drive that tells its room failed
pub record Keeps {D : Type 0} (held : D → Option (List ℕ)) (room : D → Option ℕ) (faults : D → ℕ) (olds news : List D) : Type 0 where
  pub same_held : EachSame held olds news
  pub same_room : EachSame room olds news
  pub sure : RoomyKept room faults olds news

-- all the reads were made, and no drive failed
pub record AllRead {D : Type 0} (faults : D → ℕ) (log : D → Option (List Read)) (reads : List DriveRead) (olds news : List D) : Type 0 where
  pub counts : NoneRose faults olds news
  pub logs : LogsGrew log reads olds news

-- some first of the reads were made, and the drive that the refusal names failed, or none
pub record ReadUntil {D : Type 0} (faults : D → ℕ) (log : D → Option (List Read)) (reads : List DriveRead) (refusal : Refusal) (olds news : List D) : Type 0 where
  pub counts : MatchOpening refusal (NoneRose faults olds news) (λ drive. RoseFirst faults drive olds news) (NoneRose faults olds news)
  pub logs : LogsGrewByFirst log reads olds news

-- the reads by which an answer came
abbrev pub ReadFor : {D A : Type 0} → (D → ℕ) → (D → Option (List Read)) → List DriveRead → List D → List D → Result A Refusal → Type 0
ReadFor faults log reads olds news (Ok answer) = AllRead faults log reads olds news
ReadFor faults log reads olds news (Err refusal) = ReadUntil faults log reads refusal olds news

-- a refusal for want of memory or by a drive that failed says nothing of what drives hold; each other one says this
abbrev pub SaysOf : Refusal → Type 0 → Type 0
SaysOf refusal content = MatchOpening refusal (Unit {0}) (λ drive. Unit {0}) content

-- an answer is the expected one, where no call failed and memory sufficed
abbrev pub IsAnswer : {A : Type 0} → Result A Refusal → Result A Refusal → Type 0
IsAnswer expected (Ok answer) = expected ≡ Ok answer
IsAnswer expected (Err refusal) = SaysOf refusal (expected ≡ Err refusal)

-- the refusal is for want of memory or by a drive that failed
abbrev pub IsOutside : Refusal → Type 0
IsOutside refusal = MatchOpening refusal (Unit {0}) (λ drive. Unit {0}) ⊥

-- the refusal says something of what drives hold
abbrev pub IsContent : Refusal → Type 0
IsContent refusal = MatchOpening refusal ⊥ (λ drive. ⊥) (Unit {0})
