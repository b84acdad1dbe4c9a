-- What a job promises of each call. A job's own file states its promise, most of it by what is promised where nothing happens.
use Rattle.std.specs.Prelude.{◌≡◌, ℕ, Option, List, []}
use Rattle.fg_base.specs.declared.refusal.Refusal.{Refusal}
use Rattle.fg_engine.specs.Tallies.{Tallied}
use Rattle.fg_model.specs.Iteration.{Begun}
use Rattle.fg_outside.specs.Drives.{EachSame, LogsGrew, RoomyKept}
use Rattle.fg_top.specs.Calls.{Call, Input, Output}
use Rattle.fg_top.specs.Outcome.{Outcome}
use Rattle.fg_top.specs.Tallies.{Stood}

-- what the drives hold: by any end, by what ended the work and its text, and where the job is done; what they told where they
-- are refused for what they hold; and which of them surely don't fail
pub record OfDrives (D : Type 0) : Type 1 where
  pub leaves : Call D → Type 0
  pub leaves_at : Call D → Option Refusal → List ℕ → Type 0
  pub done : Call D → Type 0
  pub refuses : Call D → Type 0
  pub keeps : Call D → Type 0

-- what is read of drives that hold these bytes, by any end and where the job is done; and what of their logs is known where they
-- tell nothing
pub record OfReads (D : Type 0) : Type 1 where
  pub reads : List (List ℕ) → Call D → Type 0
  pub all_reads : List (List ℕ) → Call D → Type 0
  pub keeps_logs : Call D → Type 0

-- what is taken of the source by any end; where reading stops in a text that is refused; what is left where the job is done; and
-- when its count of faults rises, by the status
pub record OfInput : Type 1 where
  pub takes : Input → Type 0
  pub stops : Input → Type 0
  pub takes_all : Input → Type 0
  pub counts : Input → ℕ → Type 0

-- how the tally rises with drives that hold these bytes where the job is done; with which iterations by any end; and where it
-- stands, by the status, whatever the drives tell
pub record OfTally : Type 1 where
  pub rises : List (List ℕ) → Tallied → Type 0
  pub begins : List (List ℕ) → List Begun
  pub stands : ℕ → Tallied → Type 0

-- what the job comes to where memory suffices and the outside doesn't fail, what is surely written, what its stats count, and what the
-- values mean that it printed on drives that hold these bytes
pub record Promise (D : Type 0) : Type 1 where
  pub comes_to : Call D → Outcome → Type 0
  pub writes : Output → ℕ → Type 0
  pub of_drives : OfDrives D
  pub of_reads : OfReads D
  pub of_input : OfInput
  pub of_tally : OfTally
  pub of_stats : Call D → Tallied → Type 0
  pub means : List (List ℕ) → Type 0

-- the drives hold what they held, and none that tells its room fails
abbrev pub left_alone : {D : Type 0} → OfDrives D
left_alone = record {
  leaves = λ call. EachSame call.tells.held call.olds call.news;
  leaves_at = λ call end text. EachSame call.tells.held call.olds call.news;
  done = λ call. EachSame call.tells.held call.olds call.news;
  refuses = λ call. Unit {0};
  keeps = λ call. RoomyKept call.tells.room call.tells.faults call.olds call.news;
}

-- nothing is read of them
abbrev pub unread : {D : Type 0} → OfReads D
unread = record {
  reads = λ helds call. LogsGrew call.tells.log [] call.olds call.news;
  all_reads = λ helds call. LogsGrew call.tells.log [] call.olds call.news;
  keeps_logs = λ call. EachSame call.tells.log call.olds call.news;
}

-- nothing is taken of the source
abbrev pub untaken : OfInput
untaken = record {
  takes = λ input. input.new_left ≡ input.old_left;
  stops = λ input. Unit {0};
  takes_all = λ input. Unit {0};
  counts = λ input status. input.new_faults ≡ input.old_faults;
}

-- no run raises the tally
abbrev pub standing : OfTally
standing = record {
  rises = λ helds tally. Stood tally;
  begins = λ helds. [];
  stands = λ status tally. Stood tally;
}

-- a job that comes to this and touches neither drives nor source, nor runs anything
abbrev pub alone : {D : Type 0} → (Call D → Outcome → Type 0) → Promise D
alone comes_to = record {
  comes_to = comes_to;
  writes = λ output status. Unit {0};
  of_drives = left_alone;
  of_reads = unread;
  of_input = untaken;
  of_tally = standing;
  of_stats = λ call tally. Unit {0};
  means = λ helds. Unit {0};
}
