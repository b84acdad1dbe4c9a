-- Calls whose words weren't read for want of memory: nothing happens, and whatever the job is its promise is kept.
use Rattle.std.proofs.Common.{◌≡◌, ◌≢◌, ◌∙◌, ⊎_elim, ℕ, ◌/◌, [], Bool, true, false, Option, None, Some, IfSome, Result, Ok, Err, List, length, refl, sym, subst, inl, inr, arith}
use Rattle.fg_base.specs.declared.refusal.Refusal.{Refusal}
use Rattle.fg_base.specs.declared.refusal.WordFault.{WordFault}
use Rattle.fg_build.specs.Layouts.{Plan, drive_bytes}
use Rattle.fg_build.specs.OpeningReads.{opening_reads}
use Rattle.fg_engine.specs.Tallies.{RoseWithin, Tallied, tallied}
use Rattle.fg_model.specs.Edges.{EdgeList}
use Rattle.fg_model.specs.Iteration.{Begun}
use Rattle.fg_outside.specs.declared.drive.Drive.{Ghosts as DriveGhosts}
use Rattle.fg_outside.specs.declared.drive.Read.{Read}
use Rattle.fg_outside.specs.Pages.{HasRoom}
use Rattle.fg_outside.specs.Drives.{DriveRead, LogsGrew, LogsGrewByFirst, all_told}
use Rattle.fg_outside.proofs.DriveLemmas.{EachDriveFrom-same, LogsGrewByFirst-none, LogsGrew-none, all_told-length}
use Rattle.fg_report.specs.Refusals.{refusal_line}
use Rattle.fg_text.specs.Generator.{generated_text}
use Rattle.fg_text.specs.Pieces.{TookFront}
use Rattle.fg_text.specs.Text.{read_text}
use Rattle.fg_top.specs.declared.wish.Wish.{Wish}
use Rattle.fg_top.specs.BuildJob.{plan_over}
use Rattle.fg_top.specs.Built.{IsKeptBy, IsKeptByBuild}
use Rattle.fg_top.specs.Calls.{Call, Output, WhereTold, told_by}
use Rattle.fg_top.specs.CheckJob.{check_reads}
use Rattle.fg_top.specs.Ends.{IsCutShort, IsWritten}
use Rattle.fg_top.specs.JobPromises.{once_read, promise_by, promise_of}
use Rattle.fg_top.specs.Keeping.{Keeps, KeepsTally}
use Rattle.fg_top.specs.LargeJob.{generated_graph, recipe_for}
use Rattle.fg_top.specs.Outcome.{Done, Refuses, at_once, outcome_on, wish_for}
use Rattle.fg_top.specs.Promise.{Promise}
use Rattle.fg_top.specs.Reads.{RunReads, ref_reads}
use Rattle.fg_top.specs.Running.{words_refusal}
use Rattle.fg_top.specs.Stats.{CountsCall, WishComesWithStats, asked}
use Rattle.fg_top.specs.Statuses.{CameToEnd}
use Rattle.fg_top.proofs.BuildEnds.{cut_build}
use Rattle.fg_top.proofs.CheckEnds.{cut_check}
use Rattle.fg_top.proofs.EndLemmas.{not_come, refused_status}
use Rattle.fg_top.proofs.FlashLemmas.{always, held_same, keeps_wrong, roomy_same, tally_wrong, untouched}
use Rattle.fg_top.proofs.OutcomeLemmas.{cut_at_once}
use Rattle.fg_top.proofs.StatsLemmas.{leaves_refused, no_stats}
use Rattle.fg_top.proofs.TallyLemmas.{none_began}
use Rattle.fg_words.specs.declared.jobs.Job.{Job}
use Rattle.fg_words.specs.declared.jobs.JobFault.{JobFault}
use Rattle.fg_words.specs.Words.{IsJobOf, job_of}

-- the line of want of memory
abbrev memory_line : List ℕ
memory_line = refusal_line Refusal.Memory

-- what a promise allows of a call that does nothing and answers want of memory
record AllowsNothing {D : Type 0} (promise : Promise D) (call : Call D) : Type 0 where
  cut : IsCutShort (promise.comes_to call) memory_line memory_line
  leaves : promise.of_drives.leaves call
  leaves_at : promise.of_drives.leaves_at call (Some Refusal.Memory) memory_line
  keeps : promise.of_drives.keeps call
  reads : WhereTold call (λ helds. promise.of_reads.reads helds call)
  keeps_logs : promise.of_reads.keeps_logs call
  takes : promise.of_input.takes call.input
  counts : promise.of_input.counts call.input call.status

-- its status is none but those of want of memory and of the output
other_status : (output : Output) (status other : ℕ) → 1 ≢ other → 4 ≢ other → IsWritten output (Some Refusal.Memory) memory_line status → status ≢ other
other_status output status other not_memory not_output written is =
    ⊎_elim (λ whole. not_memory (sym whole.3 ∙ is)) (λ failed. not_output (sym failed.2 ∙ is)) written

keeps_nothing : {D : Type 0} (promise : Promise D) (tells : DriveGhosts D) (olds : List D) (left : Option (List ℕ)) (faults : ℕ) (output : Output) (status : ℕ) →
    AllowsNothing promise (untouched tells olds left faults output status) → IsWritten output (Some Refusal.Memory) memory_line status →
    Keeps (once_read promise) (untouched tells olds left faults output status)
keeps_nothing promise tells olds left faults output status allows written =
    let not_done : status ≢ 0 = other_status output status 0 (λ is. cc) (λ is. cc) written in
    let not_text : status ≢ 6 = other_status output status 6 (λ is. cc) (λ is. cc) written in
    let not_drives : status ≢ 7 = other_status output status 7 (λ is. cc) (λ is. cc) written in
    record {
      ends = record {
        end = Some Refusal.Memory;
        text = memory_line;
        cause = (held_same tells.faults olds, allows.cut);
        left = allows.leaves_at;
        written = written;
      };
      written = inr written;
      drives = record {
        drives = allows.leaves;
        done = λ done. absurd (not_done done);
        undone = λ refused. held_same tells.held olds;
        told = λ refused. absurd (not_drives refused);
        sure = allows.keeps;
      };
      reads = record { reads = allows.reads; all_read = λ done. absurd (not_done done); logs = allows.keeps_logs };
      input = record {
        taken = allows.takes;
        unread = λ refused. refl;
        stops = λ refused. absurd (not_text refused);
        ended = λ done. absurd (not_done done);
        faults = allows.counts;
        later = omega arith;
      };
      meaning = λ done. absurd (not_done done);
    }

-- a promise that is kept is kept once words are read
pub keeps_read : {D : Type 0} (promise : Promise D) (call : Call D) → Keeps promise call → Keeps (once_read promise) call
keeps_read promise call kept = record {
  ends = kept.ends;
  written = inl kept.written;
  drives = kept.drives;
  reads = kept.reads;
  input = kept.input;
  meaning = kept.meaning;
}

-- what a build allows of its source and of drives that tell their room
took_none : (left : Option (List ℕ)) → TookFront left left
took_none None = ([], refl)
took_none (Some bytes) = ([], refl)

kept_by : {D : Type 0} (room : D → Option ℕ) (faults : D → ℕ) (plan : Plan) (olds : List D) (says : Result EdgeList Refusal) → IsKeptBy room faults plan olds olds says
kept_by room faults plan olds (Err refusal) = roomy_same room faults olds
kept_by room faults plan olds (Ok edges) =
    EachDriveFrom-same 0 (λ drive old new. HasRoom (room old) (length (drive_bytes plan edges drive) / 4096) → faults new ≡ faults old) (λ number drive after has. refl) olds

kept_by_build : {D : Type 0} (room : D → Option ℕ) (faults : D → ℕ) (plan : Plan) (undirected : Bool) (left : Option (List ℕ)) (olds : List D) →
    IsKeptByBuild room faults plan undirected left olds olds
kept_by_build room faults plan undirected None olds = tt
kept_by_build room faults plan undirected (Some bytes) olds = kept_by room faults plan olds (read_text undirected bytes)

-- what reading allows of logs that didn't grow
none_asked : {D : Type 0} (log : D → Option (List Read)) (wish : Wish) (told : Option (List (List ℕ))) (olds : List D) →
    IfSome told (λ helds. RunReads log wish helds olds olds)
none_asked log wish None olds = tt
none_asked log wish (Some helds) olds = inl (LogsGrewByFirst-none log (opening_reads helds) olds)

none_whole : {D : Type 0} (log : D → Option (List Read)) (reads : List (List ℕ) → List DriveRead) (told : Option (List (List ℕ))) (olds : List D) →
    IfSome told (λ helds. LogsGrewByFirst log (reads helds) olds olds)
none_whole log reads None olds = tt
none_whole log reads (Some helds) olds = LogsGrewByFirst-none log (reads helds) olds

none_read : {D : Type 0} (tells : DriveGhosts D) (olds : List D) → IfSome (all_told tells.held olds) (λ helds. LogsGrew tells.log [] olds olds)
none_read tells olds = always (all_told tells.held olds) (LogsGrew tells.log [] olds olds) (LogsGrew-none tells.log olds)

-- a run with stats that is cut short at once
cut_with_stats : (is_asked : Bool) (wish : Wish) (told : Option (List (List ℕ))) → IsCutShort (WishComesWithStats is_asked wish told) memory_line memory_line
cut_with_stats is_asked wish told =
    let cut = cut_at_once wish (asked is_asked no_stats) told memory_line in
    record { outcome = cut.outcome; is_one = (no_stats, cut.is_one); count = cut.count; text_is = cut.text_is }

allows_job : {D : Type 0} (job : Job) (tells : DriveGhosts D) (olds : List D) (left : Option (List ℕ)) (faults : ℕ) (output : Output) (status : ℕ) →
    AllowsNothing (promise_of job) (untouched tells olds left faults output status)
allows_job (Job.Build unit number undirected) tells olds left faults output status =
    let call = untouched tells olds left faults output status in
    record {
      cut = cut_build (length olds) undirected (told_by call) call.input memory_line (all_told-length tells.held olds) refl;
      leaves = inl (held_same tells.held olds);
      leaves_at = held_same tells.held olds;
      keeps = kept_by_build tells.room tells.faults (plan_over call unit number) undirected left olds;
      reads = none_read tells olds;
      keeps_logs = held_same tells.log olds;
      takes = took_none left;
      counts = inl refl;
    }
allows_job (Job.Run pick max each quiet workers sets ways depth shift helpers stats) tells olds left faults output status = record {
  cut = cut_with_stats stats (wish_for pick max each quiet) (all_told tells.held olds);
  leaves = held_same tells.held olds;
  leaves_at = held_same tells.held olds;
  keeps = roomy_same tells.room tells.faults olds;
  reads = none_asked tells.log (wish_for pick max each quiet) (all_told tells.held olds) olds;
  keeps_logs = tt;
  takes = refl;
  counts = refl;
}
allows_job (Job.Ref pick max each quiet) tells olds left faults output status = record {
  cut = cut_at_once (wish_for pick max each quiet) None (all_told tells.held olds) memory_line;
  leaves = held_same tells.held olds;
  leaves_at = held_same tells.held olds;
  keeps = roomy_same tells.room tells.faults olds;
  reads = none_whole tells.log (ref_reads (wish_for pick max each quiet)) (all_told tells.held olds) olds;
  keeps_logs = tt;
  takes = refl;
  counts = refl;
}
allows_job Job.Check tells olds left faults output status = record {
  cut = cut_check (all_told tells.held olds) memory_line;
  leaves = held_same tells.held olds;
  leaves_at = held_same tells.held olds;
  keeps = roomy_same tells.room tells.faults olds;
  reads = none_whole tells.log check_reads (all_told tells.held olds) olds;
  keeps_logs = tt;
  takes = refl;
  counts = refl;
}
allows_job (Job.Gen start nodes edges) tells olds left faults output status = record {
  cut = record { outcome = at_once (Done (generated_text start nodes edges)); is_one = refl; count = 0; text_is = refl };
  leaves = held_same tells.held olds;
  leaves_at = held_same tells.held olds;
  keeps = roomy_same tells.room tells.faults olds;
  reads = none_read tells olds;
  keeps_logs = held_same tells.log olds;
  takes = refl;
  counts = refl;
}
allows_job (Job.Large pick max workers sets ways depth shift helpers unit undirected start nodes edges drives) tells olds left faults output status = record {
  cut = record {
    outcome = outcome_on (wish_for pick max false true) None (generated_graph (recipe_for start nodes edges undirected));
    is_one = refl;
    count = 0;
    text_is = refl;
  };
  leaves = held_same tells.held olds;
  leaves_at = held_same tells.held olds;
  keeps = roomy_same tells.room tells.faults olds;
  reads = none_read tells olds;
  keeps_logs = held_same tells.log olds;
  takes = refl;
  counts = refl;
}

allows : {D : Type 0} (given : Result Job WordFault) (tells : DriveGhosts D) (olds : List D) (left : Option (List ℕ)) (faults : ℕ) (output : Output) (status : ℕ) →
    AllowsNothing (promise_by given) (untouched tells olds left faults output status)
allows (Ok job) tells olds left faults output status = allows_job job tells olds left faults output status
allows (Err fault) tells olds left faults output status = record {
  cut = record { outcome = at_once (Refuses (Refusal.Words fault)); is_one = refl; count = 0; text_is = refl };
  leaves = held_same tells.held olds;
  leaves_at = held_same tells.held olds;
  keeps = roomy_same tells.room tells.faults olds;
  reads = none_read tells olds;
  keeps_logs = held_same tells.log olds;
  takes = refl;
  counts = refl;
}

-- the call, and its tally
pub keeps_unread : {D : Type 0} (given : Result Job WordFault) (tells : DriveGhosts D) (olds : List D) (left : Option (List ℕ)) (faults : ℕ) (output : Output) (status : ℕ) →
    IsWritten output (Some Refusal.Memory) memory_line status → Keeps (once_read (promise_by given)) (untouched tells olds left faults output status)
keeps_unread given tells olds left faults output status written =
    keeps_nothing (promise_by given) tells olds left faults output status (allows given tells olds left faults output status) written

unbegun : (begins : List (List ℕ) → List Begun) (told : Option (List (List ℕ))) (output : Output) (runs entries status : ℕ) → IsWritten output (Some Refusal.Memory) memory_line status →
    IfSome told (λ helds. RoseWithin (CameToEnd status) (begins helds) (tallied runs runs entries entries))
unbegun begins None output runs entries status written = tt
unbegun begins (Some helds) output runs entries status written =
    none_began (CameToEnd status) (begins helds) runs entries
    (λ came. absurd (not_come output Refusal.Memory memory_line status (λ is. cc) (λ is. cc) written came))

stands_by : (D : Type 0) (given : Result Job WordFault) (runs entries status : ℕ) → (promise_by {D = D} given).of_tally.stands status (tallied runs runs entries entries)
stands_by D (Err fault) runs entries status = record { runs = refl; entries = refl }
stands_by D (Ok (Job.Build unit number undirected)) runs entries status = record { runs = refl; entries = refl }
stands_by D (Ok (Job.Run pick max each quiet workers sets ways depth shift helpers stats)) runs entries status = λ refused. record { runs = refl; entries = refl }
stands_by D (Ok (Job.Ref pick max each quiet)) runs entries status = record { runs = refl; entries = refl }
stands_by D (Ok Job.Check) runs entries status = record { runs = refl; entries = refl }
stands_by D (Ok (Job.Gen start nodes edges)) runs entries status = record { runs = refl; entries = refl }
stands_by D (Ok (Job.Large pick max workers sets ways depth shift helpers unit undirected start nodes edges drives)) runs entries status = λ refused. record { runs = refl; entries = refl }

pub tally_unread : (D : Type 0) (given : Result Job WordFault) (told : Option (List (List ℕ))) (output : Output) (runs entries status : ℕ) → IsWritten output (Some Refusal.Memory) memory_line status →
    KeepsTally (promise_by {D = D} given).of_tally told (tallied runs runs entries entries) status
tally_unread D given told output runs entries status written = record {
  risen = λ done. absurd (refused_status output Refusal.Memory memory_line status written done);
  went = unbegun (promise_by {D = D} given).of_tally.begins told output runs entries status written;
  stood = stands_by D given runs entries status;
}

-- the stats of a run that didn't begin
pub stats_unread : {D : Type 0} (given : Result Job WordFault) (tells : DriveGhosts D) (olds : List D) (left : Option (List ℕ)) (faults : ℕ) (output : Output) (status : ℕ) (tally : Tallied) →
    IsWritten output (Some Refusal.Memory) memory_line status → (promise_by given).of_stats (untouched tells olds left faults output status) tally
stats_unread (Err fault) tells olds left faults output status tally written = tt
stats_unread (Ok (Job.Build unit number undirected)) tells olds left faults output status tally written = tt
stats_unread (Ok (Job.Run pick max each quiet workers sets ways depth shift helpers stats)) tells olds left faults output status tally written =
    let cut = cut_at_once (wish_for pick max each quiet) (asked stats no_stats) (all_told tells.held olds) memory_line in
    record {
      stats = no_stats;
      ends = record {
        end = Some Refusal.Memory;
        text = memory_line;
        cause = (held_same tells.faults olds, cut);
        left = leaves_refused tells.held olds olds stats (CountsCall no_stats tells olds olds tally) Refusal.Memory (held_same tells.held olds);
        written = written;
      };
    }
stats_unread (Ok (Job.Ref pick max each quiet)) tells olds left faults output status tally written = tt
stats_unread (Ok Job.Check) tells olds left faults output status tally written = tt
stats_unread (Ok (Job.Gen start nodes edges)) tells olds left faults output status tally written = tt
stats_unread (Ok (Job.Large pick max workers sets ways depth shift helpers unit undirected start nodes edges drives)) tells olds left faults output status tally written = tt

pub stats_refused : {D : Type 0} (words : List (List ℕ)) (fault : JobFault) (tells : DriveGhosts D) (olds : List D) (left : Option (List ℕ)) (faults : ℕ) (output : Output) (status : ℕ) (tally : Tallied) →
    IsJobOf words (Err fault) → IsWritten output (Some (words_refusal fault)) (refusal_line (words_refusal fault)) status →
    (promise_by (job_of words)).of_stats (untouched tells olds left faults output status) tally
stats_refused words JobFault.Memory tells olds left faults output status tally is written = stats_unread (job_of words) tells olds left faults output status tally written
stats_refused words (JobFault.Words fault) tells olds left faults output status tally is written =
    let Of : Result Job WordFault → Type 0 = λ given. (promise_by given).of_stats (untouched tells olds left faults output status) tally in subst Of (sym is) tt

-- words that give no job
pub keeps_refused : {D : Type 0} (words : List (List ℕ)) (fault : JobFault) (tells : DriveGhosts D) (olds : List D) (left : Option (List ℕ)) (faults : ℕ) (output : Output) (status : ℕ) →
    IsJobOf words (Err fault) → IsWritten output (Some (words_refusal fault)) (refusal_line (words_refusal fault)) status →
    Keeps (once_read (promise_by (job_of words))) (untouched tells olds left faults output status)
keeps_refused words JobFault.Memory tells olds left faults output status is written = keeps_unread (job_of words) tells olds left faults output status written
keeps_refused words (JobFault.Words fault) tells olds left faults output status is written =
    keeps_read (promise_by (job_of words)) (untouched tells olds left faults output status)
    (keeps_wrong words fault tells olds left faults output status is written)

pub tally_refused : (D : Type 0) (words : List (List ℕ)) (fault : JobFault) (told : Option (List (List ℕ))) (output : Output) (runs entries status : ℕ) →
    IsJobOf words (Err fault) → IsWritten output (Some (words_refusal fault)) (refusal_line (words_refusal fault)) status →
    KeepsTally (promise_by {D = D} (job_of words)).of_tally told (tallied runs runs entries entries) status
tally_refused D words JobFault.Memory told output runs entries status is written = tally_unread D (job_of words) told output runs entries status written
tally_refused D words (JobFault.Words fault) told output runs entries status is written =
    tally_wrong D words fault told output runs entries status is written
