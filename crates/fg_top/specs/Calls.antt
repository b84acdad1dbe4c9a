-- What stands around a call: its drives, its source and its sink, each before and after it.
use Rattle.std.specs.Prelude.{ℕ, Bool, Option, IfSome, List}
use Rattle.fg_outside.specs.declared.drive.Drive.{Ghosts as DriveGhosts}
use Rattle.fg_outside.specs.declared.sink.Sink.{Ghosts as SinkGhosts}
use Rattle.fg_outside.specs.declared.source.Source.{Ghosts as SourceGhosts}
use Rattle.fg_outside.specs.Drives.{all_told}

-- a source: what is left in it, and its count of faults
pub record Input : Type 0 where
  pub old_left : Option (List ℕ)
  pub new_left : Option (List ℕ)
  pub old_faults : ℕ
  pub new_faults : ℕ

abbrev pub input_over : Option (List ℕ) → Option (List ℕ) → ℕ → ℕ → Input
input_over old_left new_left old_faults new_faults =
    record { old_left = old_left; new_left = new_left; old_faults = old_faults; new_faults = new_faults }

abbrev pub input_between : {S : Type 0} → SourceGhosts S → S → S → Input
input_between tells old new = input_over (tells.left old) (tells.left new) (tells.faults old) (tells.faults new)

-- a sink: its count of faults, its text, and whether it keeps bytes back afterwards
pub record Output : Type 0 where
  pub old_faults : ℕ
  pub new_faults : ℕ
  pub old_text : Option (List ℕ)
  pub new_text : Option (List ℕ)
  pub keeps_back : Bool

abbrev pub output_over : ℕ → ℕ → Option (List ℕ) → Option (List ℕ) → Bool → Output
output_over old_faults new_faults old_text new_text keeps_back =
    record { old_faults = old_faults; new_faults = new_faults; old_text = old_text; new_text = new_text; keeps_back = keeps_back }

abbrev pub output_between : {K : Type 0} → SinkGhosts K → K → K → Output
output_between tells old new =
    output_over (tells.faults old) (tells.faults new) (tells.written old) (tells.written new) (tells.keeps_back new)

-- a call: the drives, by what their kind tells, the source, the sink, and the status that is answered
pub record Call (D : Type 0) : Type 1 where
  pub tells : DriveGhosts D
  pub olds : List D
  pub news : List D
  pub input : Input
  pub output : Output
  pub status : ℕ

abbrev pub call_of : {D S K : Type 0} → DriveGhosts D → SourceGhosts S → SinkGhosts K → List D → List D → S → S → K → K → ℕ → Call D
call_of drives source sink olds news old_input new_input old_out new_out status = record {
  tells = drives;
  olds = olds;
  news = news;
  input = input_between source old_input new_input;
  output = output_between sink old_out new_out;
  status = status;
}

-- the bytes that the drives held before it, where all of them tell
abbrev pub told_by : {D : Type 0} → Call D → Option (List (List ℕ))
told_by call = all_told call.tells.held call.olds

-- the fact holds of the bytes where the drives tell them
abbrev pub WhereTold : {D : Type 0} → Call D → (List (List ℕ) → Type 0) → Type 0
WhereTold call P = IfSome (told_by call) P
