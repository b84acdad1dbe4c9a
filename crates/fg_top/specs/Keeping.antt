-- How a call keeps what its job promises.
use Rattle.std.specs.Prelude.{◌≡◌, ℕ, ◌≤◌, Option, IfSome, List}
use Rattle.fg_engine.specs.Tallies.{RoseWithin, Tallied}
use Rattle.fg_outside.specs.declared.drive.Drive.{Ghosts as DriveGhosts}
use Rattle.fg_outside.specs.Drives.{EachSame, all_told}
use Rattle.fg_top.specs.Calls.{Call, Input, WhereTold}
use Rattle.fg_top.specs.Ends.{EndsLeaving}
use Rattle.fg_top.specs.Promise.{OfDrives, OfInput, OfReads, OfTally, Promise}
use Rattle.fg_top.specs.Statuses.{CameToEnd, RefusedDrives, RefusedFirst, RefusedText, Succeeded}

-- the drives come back in order, with what the job may have appended
pub record KeepsDrives {D : Type 0} (promise : OfDrives D) (call : Call D) : Type 0 where
  pub drives : promise.leaves call
  pub done : Succeeded call.status → promise.done call
  pub undone : RefusedFirst call.status → EachSame call.tells.held call.olds call.news
  pub told : RefusedDrives call.status → promise.refuses call
  pub sure : promise.keeps call

-- they were only read as the job may
pub record KeepsReads {D : Type 0} (promise : OfReads D) (call : Call D) : Type 0 where
  pub reads : WhereTold call (λ helds. promise.reads helds call)
  pub all_read : Succeeded call.status → WhereTold call (λ helds. promise.all_reads helds call)
  pub logs : promise.keeps_logs call

-- what was taken of the source: nothing where the drives were refused for what they hold. Its count of faults never falls
pub record KeepsInput (promise : OfInput) (input : Input) (status : ℕ) : Type 0 where
  pub taken : promise.takes input
  pub unread : RefusedDrives status → input.new_left ≡ input.old_left
  pub stops : RefusedText status → promise.stops input
  pub ended : Succeeded status → promise.takes_all input
  pub faults : promise.counts input status
  pub later : input.old_faults ≤ input.new_faults

-- the tally rose with the iterations that began, with all of them where the run came to its end, and by what they ran where the
-- job is done
pub record KeepsTally (promise : OfTally) (told : Option (List (List ℕ))) (tally : Tallied) (status : ℕ) : Type 0 where
  pub risen : Succeeded status → IfSome told (λ helds. promise.rises helds tally)
  pub went : IfSome told (λ helds. RoseWithin (CameToEnd status) (promise.begins helds) tally)
  pub stood : promise.stands status tally

-- a call of the job, but for its tally: the status, its cause, what it leaves on the drives and the text that was written; and
-- where the job is done, what its values mean
pub record Keeps {D : Type 0} (promise : Promise D) (call : Call D) : Type 0 where
  pub ends : EndsLeaving call.tells.faults call.olds call.news (promise.comes_to call) (promise.of_drives.leaves_at call) call.output call.status
  pub written : promise.writes call.output call.status
  pub drives : KeepsDrives promise.of_drives call
  pub reads : KeepsReads promise.of_reads call
  pub input : KeepsInput promise.of_input call.input call.status
  pub meaning : Succeeded call.status → WhereTold call promise.means

-- the tally of the same call, on these drives as they were before
abbrev pub Tallies : {D : Type 0} → Promise D → DriveGhosts D → List D → Tallied → ℕ → Type 0
Tallies promise tells olds tally status = KeepsTally promise.of_tally (all_told tells.held olds) tally status
