-- What a run over drives promises.
use Rattle.std.specs.Prelude.{ℕ, Bool, IfSome, Ok, List}
use Rattle.fg_base.specs.Refusal.{status_of}
use Rattle.fg_base.specs.declared.refusal.Refusal.{Refusal}
use Rattle.fg_build.specs.declared.opened.Opened.{Opened}
use Rattle.fg_build.specs.PagesTold.{RefusedTold}
use Rattle.fg_engine.specs.Tallies.{RoseByRun, RoseWithin, Tallied}
use Rattle.fg_model.specs.Run.{begun_of}
use Rattle.fg_outside.specs.declared.drive.Drive.{Ghosts as DriveGhosts}
use Rattle.fg_outside.specs.Drives.{EachSame, LogsGrewBy, RoomyKept, all_told}
use Rattle.fg_top.specs.declared.stats.Stats.{Stats}
use Rattle.fg_top.specs.declared.wish.Wish.{Wish}
use Rattle.fg_top.specs.Calls.{Output, told_by}
use Rattle.fg_top.specs.Ends.{Ends}
use Rattle.fg_top.specs.Meaning.{MeansWish}
use Rattle.fg_top.specs.Outcome.{held_graph, rules_of, run_on}
use Rattle.fg_top.specs.Promise.{OfDrives, OfReads, OfTally, Promise, alone, left_alone}
use Rattle.fg_top.specs.Reads.{IsAskedBy, RunReads, RunReadsAll}
use Rattle.fg_top.specs.Running.{RunComesTo}
use Rattle.fg_top.specs.Stats.{CallEndsWithStats, CountsRun, LeavesStats, WishComesWithStats, asked}
use Rattle.fg_top.specs.Statuses.{CameToEnd, RefusedDrives, Succeeded}
use Rattle.fg_top.specs.Tallies.{RoseByWish, Stood, begins_of}

-- drives that are refused for what they hold, by the numbers of pages that they told: whether or not they tell their bytes
pub record OpeningRefused {D : Type 0} (told : D → ℕ) (olds news : List D) : Type 0 where
  pub refusal : Refusal
  pub of_drives : RefusedDrives (status_of refusal)
  pub by_told : RefusedTold told olds news refusal

-- a run over drives that were opened so, behind its head: they are only read, it ends by what it comes to, with stats where they are
-- asked for, and the tally rises with what ran
pub record RunsOpened {D : Type 0} (is_asked : Bool) (wish : Wish) (opened : Opened) (tells : DriveGhosts D) (olds news : List D) (output : Output) (counted : Tallied) (status : ℕ) : Type 0 where
  pub held : EachSame tells.held olds news
  pub sure : RoomyKept tells.room tells.faults olds news
  pub reads : IfSome (all_told tells.held olds) (λ helds. LogsGrewBy (IsAskedBy wish helds (Ok opened)) tells.log olds news)
  pub stats : Stats
  pub ends : Ends tells.faults olds news (RunComesTo (rules_of wish.pick) wish (asked is_asked stats) (all_told tells.held olds) (run_on wish opened))
      (LeavesStats tells.held olds news is_asked (CountsRun stats tells.log olds news counted)) output status
  pub tally : Succeeded status → IfSome (all_told tells.held olds) (λ helds. RoseByRun (run_on wish opened helds) counted)
  pub tally_went : IfSome (all_told tells.held olds) (λ helds. RoseWithin (CameToEnd status) (begun_of (run_on wish opened helds)) counted)
  pub began : RefusedDrives status → ⊥

-- drives that are opened and only read
abbrev pub opens : {D : Type 0} → OfDrives D
opens {D} =
    let other : OfDrives D = left_alone in
    record other { refuses = λ call. OpeningRefused call.tells.told call.olds call.news }

-- their labels and the index, and then pages that the run asks for
abbrev pub reads_asked : {D : Type 0} → Wish → OfReads D
reads_asked wish = record {
  reads = λ helds call. RunReads call.tells.log wish helds call.olds call.news;
  all_reads = λ helds call. RunReadsAll call.tells.log wish helds call.olds call.news;
  keeps_logs = λ call. Unit {0};
}

-- the tally counts the run; it stands where the drives are refused for what they hold
abbrev pub counts_run : Wish → OfTally
counts_run wish = record {
  rises = λ helds tally. RoseByWish wish (held_graph helds) tally;
  begins = λ helds. begins_of wish (held_graph helds);
  stands = λ status tally. RefusedDrives status → Stood tally;
}

-- the promise, with stats where they are asked for
abbrev pub run_promise : {D : Type 0} → Bool → Wish → Promise D
run_promise {D} is_asked wish =
    let other : Promise D = alone (λ call. WishComesWithStats is_asked wish (told_by call)) in
    record other {
      of_drives = opens;
      of_reads = reads_asked wish;
      of_tally = counts_run wish;
      of_stats = CallEndsWithStats is_asked wish;
      means = λ helds. MeansWish wish (held_graph helds);
    }
