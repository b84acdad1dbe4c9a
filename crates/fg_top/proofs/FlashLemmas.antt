-- Calls that touch neither drives nor source: words that are refused, and jobs that need none.
use Rattle.std.proofs.Common.{◌≡◌, ℕ, [], true, Option, None, Some, IfSome, IsSome, Result, Err, List, length, refl, sym, subst, arith}
use Rattle.fg_base.specs.declared.refusal.Refusal.{Refusal}
use Rattle.fg_base.specs.declared.refusal.WordFault.{WordFault}
use Rattle.fg_engine.specs.Tallies.{Tallied, tallied}
use Rattle.fg_outside.specs.declared.drive.Drive.{Ghosts as DriveGhosts}
use Rattle.fg_outside.specs.Drives.{EachSame, LogsGrew, RoomyKept, all_told}
use Rattle.fg_outside.proofs.DriveLemmas.{EachDrive-same, LogsGrew-none}
use Rattle.fg_report.specs.Refusals.{refusal_line}
use Rattle.fg_text.specs.Generator.{generated_text}
use Rattle.fg_words.specs.declared.jobs.Job.{Job}
use Rattle.fg_words.specs.declared.jobs.Recipe.{Recipe}
use Rattle.fg_top.specs.declared.wish.Wish.{Wish}
use Rattle.fg_top.specs.Calls.{Call, Output, input_over}
use Rattle.fg_top.specs.Ends.{EndsAlone, IsWritten, LeavesHeld}
use Rattle.fg_top.specs.GenJob.{GenComesTo, gen_promise}
use Rattle.fg_top.specs.JobPromises.{promise_by, promise_of}
use Rattle.fg_words.specs.Jobs.{HasDrives, is_still}
use Rattle.fg_top.specs.Keeping.{Keeps, KeepsDrives, KeepsInput, KeepsReads, KeepsTally}
use Rattle.fg_top.specs.LargeJob.{LargeComesTo, MeansGenerated, large_promise}
use Rattle.fg_top.specs.Outcome.{Outcome, Refuses, at_once}
use Rattle.fg_top.specs.Promise.{left_alone, standing, unread, untaken}
use Rattle.fg_top.specs.Statuses.{CameToEnd}
use Rattle.fg_top.specs.Tallies.{Stood}
use Rattle.fg_words.specs.Words.{job_of, names_of}
use Rattle.fg_top.proofs.EndLemmas.{ends_in_memory, refused_status}
use Rattle.fg_top.proofs.TallyLemmas.{nothing_began}

-- nothing happened to the drives
pub held_same : {D A : Type 0} (of : D → A) (olds : List D) → EachSame of olds olds
held_same of olds = EachDrive-same (λ old new. of new ≡ of old) (λ drive. refl) olds

pub roomy_same : {D : Type 0} (room : D → Option ℕ) (faults : D → ℕ) (olds : List D) → RoomyKept room faults olds olds
roomy_same room faults olds = EachDrive-same (λ old new. IsSome (room old) → faults new ≡ faults old) (λ drive told. refl) olds

-- a fact that doesn't speak of what is told
pub always : {A : Type 0} (told : Option A) (P : Type 0) → P → IfSome told (λ one. P)
always None P holds = tt
always (Some one) P holds = holds

-- a call that touches neither drives nor source
abbrev pub untouched : {D : Type 0} → DriveGhosts D → List D → Option (List ℕ) → ℕ → Output → ℕ → Call D
untouched tells olds left faults output status =
    record { tells = tells; olds = olds; news = olds; input = input_over left left faults faults; output = output; status = status }

drives_same : {D : Type 0} (tells : DriveGhosts D) (olds : List D) (left : Option (List ℕ)) (faults : ℕ) (output : Output) (status : ℕ) →
    KeepsDrives left_alone (untouched tells olds left faults output status)
drives_same tells olds left faults output status = record {
  drives = held_same tells.held olds;
  done = λ done. held_same tells.held olds;
  undone = λ refused. held_same tells.held olds;
  told = λ refused. tt;
  sure = roomy_same tells.room tells.faults olds;
}

reads_none : {D : Type 0} (tells : DriveGhosts D) (olds : List D) (left : Option (List ℕ)) (faults : ℕ) (output : Output) (status : ℕ) →
    KeepsReads unread (untouched tells olds left faults output status)
reads_none tells olds left faults output status =
    let none = always (all_told tells.held olds) (LogsGrew tells.log [] olds olds) (LogsGrew-none tells.log olds) in
    record { reads = none; all_read = λ done. none; logs = held_same tells.log olds }

pub takes_none : (left : Option (List ℕ)) (faults status : ℕ) → KeepsInput untaken (input_over left left faults faults) status
takes_none left faults status = record {
  taken = refl;
  unread = λ refused. refl;
  stops = λ refused. tt;
  ended = λ done. tt;
  faults = refl;
  later = omega arith;
}

-- a job without drives, of one text or of a run on generated edges
pub keeps_generated : {D : Type 0} (start nodes edges : ℕ) (tells : DriveGhosts D) (olds : List D) (left : Option (List ℕ)) (faults : ℕ) (output : Output) (status : ℕ) →
    EndsAlone (GenComesTo start nodes edges) output status → IsWritten output None (generated_text start nodes edges) status →
    Keeps (gen_promise start nodes edges) (untouched tells olds left faults output status)
keeps_generated start nodes edges tells olds left faults output status ends written =
    let comes = GenComesTo start nodes edges in
    record {
      ends = ends_in_memory tells.faults olds olds comes comes (LeavesHeld tells.held olds olds) output status (λ outcome is. is) (held_same tells.faults olds)
          (λ end. held_same tells.held olds) ends;
      written = written;
      drives = drives_same tells olds left faults output status;
      reads = reads_none tells olds left faults output status;
      input = takes_none left faults status;
      meaning = λ done. always (all_told tells.held olds) (Unit {0}) tt;
    }

pub keeps_large : {D : Type 0} (wish : Wish) (recipe : Recipe) (tells : DriveGhosts D) (olds : List D) (left : Option (List ℕ)) (faults : ℕ) (output : Output) (status : ℕ) →
    EndsAlone (LargeComesTo wish recipe) output status → (status ≡ 0 → MeansGenerated wish recipe) →
    Keeps (large_promise wish recipe) (untouched tells olds left faults output status)
keeps_large wish recipe tells olds left faults output status ends means =
    let comes = LargeComesTo wish recipe in
    record {
      ends = ends_in_memory tells.faults olds olds comes comes (LeavesHeld tells.held olds olds) output status (λ outcome is. is) (held_same tells.faults olds)
          (λ end. held_same tells.held olds) ends;
      written = tt;
      drives = drives_same tells olds left faults output status;
      reads = reads_none tells olds left faults output status;
      input = takes_none left faults status;
      meaning = λ done. always (all_told tells.held olds) (MeansGenerated wish recipe) (means done);
    }

-- words that are wrong
pub keeps_wrong : {D : Type 0} (words : List (List ℕ)) (fault : WordFault) (tells : DriveGhosts D) (olds : List D) (left : Option (List ℕ)) (faults : ℕ) (output : Output) (status : ℕ) →
    job_of words ≡ Err fault → IsWritten output (Some (Refusal.Words fault)) (refusal_line (Refusal.Words fault)) status →
    Keeps (promise_by (job_of words)) (untouched tells olds left faults output status)
keeps_wrong {D} words fault tells olds left faults output status is written =
    let P : Result Job WordFault → Type 0 = λ given. Keeps (promise_by given) (untouched tells olds left faults output status) in
    let never : status ≡ 0 → ⊥ = refused_status output (Refusal.Words fault) (refusal_line (Refusal.Words fault)) status written in
    let outcome : Outcome = at_once (Refuses (Refusal.Words fault)) in
    let drives = drives_same tells olds left faults output status in
    let reads = reads_none tells olds left faults output status in
    subst P (sym is) (record {
      ends = record {
        end = Some (Refusal.Words fault);
        text = refusal_line (Refusal.Words fault);
        cause = (held_same tells.faults olds, record { outcome = outcome; is_one = refl; closes = refl; text_is = refl });
        left = held_same tells.held olds;
        written = written;
      };
      written = tt;
      drives = record { drives = drives.drives; done = λ done. never done; undone = drives.undone; told = drives.told; sure = drives.sure };
      reads = record { reads = reads.reads; all_read = λ done. absurd (never done); logs = reads.logs };
      input = takes_none left faults status;
      meaning = λ done. absurd (never done);
    })

-- the tally of a call that runs nothing
stands : (told : Option (List (List ℕ))) (runs entries status : ℕ) → KeepsTally standing told (tallied runs runs entries entries) status
stands told runs entries status =
    let stood : Stood (tallied runs runs entries entries) = record { runs = refl; entries = refl } in
    record { risen = λ done. always told (Stood (tallied runs runs entries entries)) stood; went = nothing_began told (CameToEnd status) runs entries; stood = stood }

pub tally_still : (D : Type 0) (job : Job) (told : Option (List (List ℕ))) (runs entries status : ℕ) → is_still job ≡ true →
    KeepsTally (promise_of {D = D} job).of_tally told (tallied runs runs entries entries) status
tally_still D (Job.Build unit number undirected) told runs entries status still = stands told runs entries status
tally_still D (Job.Run pick max each quiet workers sets ways depth shift helpers stats) told runs entries status still = cc
tally_still D (Job.Ref pick max each quiet) told runs entries status still = stands told runs entries status
tally_still D Job.Check told runs entries status still = stands told runs entries status
tally_still D (Job.Gen start nodes edges) told runs entries status still = stands told runs entries status
tally_still D (Job.Large pick max workers sets ways depth shift helpers unit undirected start nodes edges drives) told runs entries status still = cc

-- a job that runs nothing over drives has no stats
pub stats_still : {D : Type 0} (job : Job) (call : Call D) (tally : Tallied) → is_still job ≡ true → (promise_of job).of_stats call tally
stats_still (Job.Build unit number undirected) call tally still = tt
stats_still (Job.Run pick max each quiet workers sets ways depth shift helpers stats) call tally still = absurd (cc)
stats_still (Job.Ref pick max each quiet) call tally still = tt
stats_still Job.Check call tally still = tt
stats_still (Job.Gen start nodes edges) call tally still = tt
stats_still (Job.Large pick max workers sets ways depth shift helpers unit undirected start nodes edges drives) call tally still = tt

pub tally_wrong : (D : Type 0) (words : List (List ℕ)) (fault : WordFault) (told : Option (List (List ℕ))) (output : Output) (runs entries status : ℕ) →
    job_of words ≡ Err fault → IsWritten output (Some (Refusal.Words fault)) (refusal_line (Refusal.Words fault)) status →
    KeepsTally (promise_by {D = D} (job_of words)).of_tally told (tallied runs runs entries entries) status
tally_wrong D words fault told output runs entries status is written =
    let P : Result Job WordFault → Type 0 = λ given. KeepsTally (promise_by {D = D} given).of_tally told (tallied runs runs entries entries) status in
    let never : status ≡ 0 → ⊥ = refused_status output (Refusal.Words fault) (refusal_line (Refusal.Words fault)) status written in
    let kept = stands told runs entries status in
    subst P (sym is) (record { risen = λ done. absurd (never done); went = kept.went; stood = kept.stood })

-- an accepted job has the drives that it works on
pub drives_fit : {D : Type 0} (drives : List D) (words : List (List ℕ)) (job : Job) → length drives ≡ length (names_of words) → HasDrives job (length (names_of words)) →
    HasDrives job (length drives)
drives_fit drives words job named has =
    let P : ℕ → Type 0 = λ count. HasDrives job count in
    subst P (sym named) has
