-- The stats of a run: what it read of its drives once they were opened, and what its tally counted.
use Rattle.std.specs.Prelude.{◌≡◌, ℕ, ◌+◌, Bool, true, false, Option, None, Some, IfNone, IfSome, Result, Ok, Err, List, ◌⊎◌}
use Rattle.fg_base.specs.declared.refusal.Refusal.{Refusal}
use Rattle.fg_build.specs.OpeningReads.{opening_reads}
use Rattle.fg_engine.specs.Tallies.{Tallied}
use Rattle.fg_engine.specs.Told.{HasCountedReads}
use Rattle.fg_model.specs.declared.run.End.{End}
use Rattle.fg_model.specs.declared.run.RunFault.{RunFault}
use Rattle.fg_outside.specs.declared.drive.Drive.{Ghosts as DriveGhosts}
use Rattle.fg_outside.specs.declared.drive.Read.{Read}
use Rattle.fg_outside.specs.Drives.{DriveRead, LogsGrew, all_told}
use Rattle.fg_top.specs.declared.stats.Stats.{Stats}
use Rattle.fg_top.specs.declared.wish.Wish.{Wish}
use Rattle.fg_top.specs.Calls.{Call, Output, told_by}
use Rattle.fg_top.specs.Ends.{Ends, LeavesHeld}
use Rattle.fg_top.specs.Outcome.{Outcome, WishComesTo}
use Rattle.fg_top.specs.Tallies.{Stood}

-- these stats where they are asked for, and else none
abbrev pub asked : Bool → Stats → Option Stats
asked true stats = Some stats
asked false stats = None

-- the numbers of the tally grew by the runs and the entries of the stats
pub record CountsTally (stats : Stats) (tally : Tallied) : Type 0 where
  pub runs : tally.new_runs ≡ tally.old_runs + stats.runs
  pub entries : tally.new_entries ≡ tally.old_entries + stats.entries

-- the logs grew by the reads of opening, and then by as many reads of as many pages as the stats say; counts stop at 2^64 - 1
pub record CountsReads {D : Type 0} (log : D → Option (List Read)) (opening : List DriveRead) (stats : Stats) (olds news : List D) : Type 0 where
  pub opened : List D
  pub by_opening : LogsGrew log opening olds opened
  pub behind : HasCountedReads log stats.reads stats.pages opened news

-- the stats count what a call read of drives that tell their bytes, and how its tally grew
pub record CountsCall {D : Type 0} (stats : Stats) (tells : DriveGhosts D) (olds news : List D) (tally : Tallied) : Type 0 where
  pub reads : IfSome (all_told tells.held olds) (λ helds. CountsReads tells.log (opening_reads helds) stats olds news)
  pub counts : CountsTally stats tally

-- the same of a run over drives that were opened
pub record CountsRun {D : Type 0} (stats : Stats) (log : D → Option (List Read)) (olds news : List D) (tally : Tallied) : Type 0 where
  pub reads : HasCountedReads log stats.reads stats.pages olds news
  pub counts : CountsTally stats tally

-- how a run ends whose counts found no room in its tally: for want of memory, unless a drive or the watch failed
abbrev pub without_count : Result End RunFault → Result End RunFault
without_count (Err (RunFault.Drive drive)) = Err (RunFault.Drive drive)
without_count (Err RunFault.Watch) = Err RunFault.Watch
without_count answer = Err RunFault.Memory

-- the tally rose by what a run counted that ended so; or it had no room for that, stands, and the run ends otherwise
abbrev pub IsSettled : Stats → Result End RunFault → Result End RunFault → Tallied → Type 0
IsSettled stats answer settled tally =
    ((settled ≡ answer) × CountsTally stats tally) ⊎ ((settled ≡ without_count answer) × Stood tally)

-- what an end leaves of a run with stats: the drives hold what they held, and where stats are asked for and nothing refused the
-- run, the fact holds of them
abbrev pub LeavesStats : {D : Type 0} → (D → Option (List ℕ)) → List D → List D → Bool → Type 0 → Option Refusal → Type 0
LeavesStats held olds news false counts end = LeavesHeld held olds news end
LeavesStats held olds news true counts end = LeavesHeld held olds news end × IfNone end counts

-- how a run over drives ends: with some stats it comes to the outcome whose text was written; where they are asked for and
-- nothing refused the run, they count the call
pub record EndsWithStats {D : Type 0} (is_asked : Bool) (wish : Wish) (tells : DriveGhosts D) (olds news : List D) (output : Output) (tally : Tallied) (status : ℕ) : Type 0 where
  pub stats : Stats
  pub ends : Ends tells.faults olds news (WishComesTo wish (asked is_asked stats) (all_told tells.held olds))
      (LeavesStats tells.held olds news is_asked (CountsCall stats tells olds news tally)) output status

-- the same of a call
abbrev pub CallEndsWithStats : {D : Type 0} → Bool → Wish → Call D → Tallied → Type 0
CallEndsWithStats is_asked wish call tally = EndsWithStats is_asked wish call.tells call.olds call.news call.output tally call.status

-- the run that is wished for comes to this outcome with some stats where they are asked for, by what the drives tell of their bytes
abbrev pub WishComesWithStats : Bool → Wish → Option (List (List ℕ)) → Outcome → Type 0
WishComesWithStats is_asked wish told outcome = (stats : Stats) × WishComesTo wish (asked is_asked stats) told outcome
