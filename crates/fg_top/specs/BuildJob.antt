-- What building an image promises.
use Rattle.std.specs.Prelude.{◌≡◌, ℕ, Bool, Option, Err, List, ◌⊎◌, length}
use Rattle.fg_base.specs.Faults.{Rose}
use Rattle.fg_base.specs.Refusal.{status_of}
use Rattle.fg_base.specs.declared.refusal.Refusal.{Refusal}
use Rattle.fg_build.specs.Layouts.{Plan, plan_of}
use Rattle.fg_build.specs.PagesTold.{EmptyTold}
use Rattle.fg_text.specs.Pieces.{IsAtEnd, TookFront}
use Rattle.fg_text.specs.Read.{ReadRefused}
use Rattle.fg_top.specs.BuildOutcome.{BuildComesTo}
use Rattle.fg_top.specs.Built.{AreBuilt, AreLeft, BuildLeaves, IsKeptByBuild}
use Rattle.fg_top.specs.Calls.{Call, told_by}
use Rattle.fg_top.specs.Promise.{OfDrives, OfInput, Promise, alone}
use Rattle.fg_top.specs.Statuses.{FailedOutside, RefusedDrives, RefusedText}

-- drives that a build refuses for what they hold, by the numbers of pages that they told: whether or not they tell their bytes
pub record BuildingRefused {D : Type 0} (told : D → ℕ) (olds news : List D) : Type 0 where
  pub refusal : Refusal
  pub of_drives : RefusedDrives (status_of refusal)
  pub by_told : EmptyTold told olds news (Err refusal)

-- where a text is refused for what it says, reading stopped: with the piece in which the refused line ends, or soon behind the
-- longest text
pub record StoppedReading (undirected : Bool) (old new : Option (List ℕ)) (before after : ℕ) : Type 0 where
  pub refusal : Refusal
  pub of_text : RefusedText (status_of refusal)
  pub stopped : ReadRefused undirected old new before after refusal

-- the plan of an image over the drives of a call
abbrev pub plan_over : {D : Type 0} → Call D → ℕ → ℕ → Plan
plan_over call unit number = plan_of (length call.olds) unit number

-- it may append to its drives; one that has room for its part of the image doesn't fail
abbrev pub builds : {D : Type 0} → ℕ → ℕ → Bool → OfDrives D
builds unit number undirected = record {
  leaves = λ call. AreLeft call.tells.held call.tells.faults (plan_over call unit number) undirected call.input call.olds call.news;
  leaves_at = λ call. BuildLeaves call.tells.held call.tells.faults (plan_over call unit number) undirected call.input call.olds call.news;
  done = λ call. AreBuilt call.tells.held call.tells.faults (plan_over call unit number) undirected call.input call.olds call.news;
  refuses = λ call. BuildingRefused call.tells.told call.olds call.news;
  keeps = λ call.
      IsKeptByBuild call.tells.room call.tells.faults (plan_over call unit number) undirected call.input.old_left call.olds call.news;
}

-- it takes a first part of its source, and all of it where it is done; where the source's count rose the status says so, or that of
-- the output
abbrev pub takes_text : Bool → OfInput
takes_text undirected = record {
  takes = λ input. TookFront input.old_left input.new_left;
  stops = λ input. StoppedReading undirected input.old_left input.new_left input.old_faults input.new_faults;
  takes_all = λ input. IsAtEnd input.new_left;
  counts = λ input status. (input.new_faults ≡ input.old_faults) ⊎ (Rose input.old_faults input.new_faults × FailedOutside status);
}

-- the promise, in units of so many pages and with this number
abbrev pub build_promise : {D : Type 0} → ℕ → ℕ → Bool → Promise D
build_promise {D} unit number undirected =
    let other : Promise D = alone (λ call. BuildComesTo (length call.olds) undirected (told_by call) call.input) in
    record other { of_drives = builds unit number undirected; of_input = takes_text undirected }
