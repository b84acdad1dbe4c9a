-- The promise of each job, and of words.
use Rattle.std.specs.Prelude.{◌≡◌, ◌⊎◌, Some, true, false, String, Result, Ok, Err, List, map, string_bytes}
use Rattle.fg_base.specs.declared.refusal.Refusal.TheVariants.{Memory, Words}
use Rattle.fg_base.specs.declared.refusal.WordFault.{WordFault}
use Rattle.fg_words.specs.declared.jobs.Job.{Job}
use Rattle.fg_words.specs.declared.jobs.Job.TheVariants.{Build, Run, Ref, Check, Gen, Large}
use Rattle.fg_top.specs.BuildJob.{build_promise}
use Rattle.fg_report.specs.Refusals.{refusal_line}
use Rattle.fg_top.specs.CheckJob.{check_promise}
use Rattle.fg_top.specs.Ends.{IsWritten}
use Rattle.fg_top.specs.GenJob.{gen_promise}
use Rattle.fg_top.specs.LargeJob.{large_promise, recipe_for}
use Rattle.fg_top.specs.Outcome.{Refuses, at_once, wish_for}
use Rattle.fg_top.specs.Promise.{OfDrives, OfReads, Promise, alone, left_alone, standing, unread}
use Rattle.fg_top.specs.RefJob.{ref_promise}
use Rattle.fg_top.specs.RunJob.{run_promise}
use Rattle.fg_words.specs.Words.{job_of}

abbrev pub promise_of : {D : Type 0} → Job → Promise D
promise_of (Build unit number undirected) = build_promise unit number undirected
promise_of (Run pick max each quiet workers sets ways depth shift helpers stats) = run_promise stats (wish_for pick max each quiet)
promise_of (Ref pick max each quiet) = ref_promise (wish_for pick max each quiet)
promise_of Check = check_promise
promise_of (Gen start nodes edges) = gen_promise start nodes edges
promise_of (Large pick max workers sets ways depth shift helpers unit undirected start nodes edges drives) =
    large_promise (wish_for pick max false true) (recipe_for start nodes edges undirected)

-- words that are refused: nothing happens, and no job is ever done
abbrev pub refused_promise : {D : Type 0} → WordFault → Promise D
refused_promise {D} fault =
    let other : Promise D = alone (λ call outcome. outcome ≡ at_once (Refuses (Words fault))) in
    let of_drives : OfDrives D = left_alone in
    let of_reads : OfReads D = unread in
    record other {
      of_drives = record of_drives { done = λ call. ⊥ };
      of_reads = record of_reads { all_reads = λ helds call. ⊥ };
      of_tally = record standing { rises = λ helds tally. ⊥ };
      means = λ helds. ⊥;
    }

-- the promise of what words give: a job, or their refusal
abbrev pub promise_by : {D : Type 0} → Result Job WordFault → Promise D
promise_by (Err fault) = refused_promise fault
promise_by (Ok job) = promise_of job

-- a promise that holds once words are read: where memory was wanting for that, its refusal may stand alone in place of what is surely
-- written
abbrev pub once_read : {D : Type 0} → Promise D → Promise D
once_read promise = record promise {
  writes = λ output status. promise.writes output status ⊎ IsWritten output (Some Memory) (refusal_line Memory) status;
}

-- the promise of the job that these words ask for
abbrev pub promised : {D Z : Type 0} → List (String Z) → Promise D
promised words = once_read (promise_by (job_of (map string_bytes words)))
