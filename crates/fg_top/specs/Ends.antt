-- How a job ends: its status, what was written, whose count of faults rose, and what it leaves. This is the form in which
-- every job's end is stated.
use Rattle.std.specs.Prelude.{◌≡◌, ℕ, false, Option, None, Some, List, [], ◌++◌, ◌⊎◌, take}
use Rattle.std.specs.List.{concat}
use Rattle.fg_base.specs.Faults.{Rose}
use Rattle.fg_base.specs.Refusal.{status_of}
use Rattle.fg_base.specs.Told.{grown, GrewByFirst}
use Rattle.fg_base.specs.declared.refusal.Refusal.{Refusal}
use Rattle.fg_base.specs.declared.refusal.Refusal.TheVariants.{Memory, OutputFault, DriveFault}
use Rattle.fg_report.specs.Refusals.{refusal_line}
use Rattle.fg_outside.specs.Drives.{EachSame, NoneRose, RoseFirst}
use Rattle.fg_top.specs.Calls.{Output}
use Rattle.fg_top.specs.Outcome.{Close, Outcome, Done, Refuses}

-- the status where nothing or this refusal ended the work and its text was written
abbrev pub status_at : Option Refusal → ℕ
status_at None = 0
status_at (Some refusal) = status_of refusal

-- the text is that of an outcome which the job comes to and which closes so: all its lines, and then the last text
pub record IsOutcome (comes : Outcome → Type 0) (close : Close) (last text : List ℕ) : Type 0 where
  pub outcome : Outcome
  pub is_one : comes outcome
  pub closes : outcome.close ≡ close
  pub text_is : text ≡ concat outcome.lines ++ last

-- the text is some first lines of an outcome which the job comes to, and then the last text
pub record IsCutShort (comes : Outcome → Type 0) (last text : List ℕ) : Type 0 where
  pub outcome : Outcome
  pub is_one : comes outcome
  pub count : ℕ
  pub text_is : text ≡ concat (take count outcome.lines) ++ last

-- the job is done, and this is its text
pub record IsDone (comes : Outcome → Type 0) (text : List ℕ) : Type 0 where
  pub last : List ℕ
  pub is_outcome : IsOutcome comes (Done last) last text

-- why nothing or this refusal ended the work before the last text was written, and the text of that end. A drive's fault
-- is that of the first drive whose count rose. Every other end comes where no drive's count rose: want of memory at any
-- place of an outcome that the job comes to, and each further one as that outcome's close. The output's fault ends no
-- work: it shows when the text is written.
abbrev pub IsCause : {D : Type 0} → (D → ℕ) → List D → List D → (Outcome → Type 0) → Option Refusal → List ℕ → Type 0
IsCause faults olds news comes None text = NoneRose faults olds news × IsDone comes text
IsCause faults olds news comes (Some Memory) text = NoneRose faults olds news × IsCutShort comes (refusal_line Memory) text
IsCause faults olds news comes (Some OutputFault) text = ⊥
IsCause faults olds news comes (Some (DriveFault drive)) text =
    RoseFirst faults drive olds news × IsCutShort comes (refusal_line (DriveFault drive)) text
IsCause faults olds news comes (Some refusal) text =
    NoneRose faults olds news × IsOutcome comes (Refuses refusal) (refusal_line refusal) text

-- the text was written whole, nothing of it is kept back, and the status is that of the end; or a put or the flush
-- failed, a first part of the text was written, and the status is 4
abbrev pub IsWritten : Output → Option Refusal → List ℕ → ℕ → Type 0
IsWritten output end text status =
    ((output.new_faults ≡ output.old_faults) × (output.new_text ≡ grown output.old_text text) × (output.keeps_back ≡ false) × (status ≡ status_at end))
    ⊎ (Rose output.old_faults output.new_faults × GrewByFirst text output.old_text output.new_text × (status ≡ 4))

-- a job's end: what ended the work has its cause, the job leaves what it leaves by that end and its text, and this text was
-- written, or a put or the flush failed
pub record EndsLeaving {D : Type 0} (faults : D → ℕ) (olds news : List D) (comes : Outcome → Type 0) (leaves : Option Refusal → List ℕ → Type 0) (output : Output) (status : ℕ) : Type 0 where
  pub end : Option Refusal
  pub text : List ℕ
  pub cause : IsCause faults olds news comes end text
  pub left : leaves end text
  pub written : IsWritten output end text status

-- the same where what is left doesn't go with the text
abbrev pub Ends : {D : Type 0} → (D → ℕ) → List D → List D → (Outcome → Type 0) → (Option Refusal → Type 0) → Output → ℕ → Type 0
Ends faults olds news comes leaves output status = EndsLeaving faults olds news comes (λ end text. leaves end) output status

-- the same of work that has no drives
abbrev pub EndsAlone : (Outcome → Type 0) → Output → ℕ → Type 0
EndsAlone comes output status = Ends {D = ℕ} (λ drive. drive) [] [] comes (λ end. Unit {0}) output status

-- by any end the drives hold what they held
abbrev pub LeavesHeld : {D : Type 0} → (D → Option (List ℕ)) → List D → List D → Option Refusal → Type 0
LeavesHeld held olds news end = EachSame held olds news
