-- What a run tells, where the drives tell their bytes.
use Rattle.std.specs.Prelude.{◌≡◌, ℕ, ◌==◌, ◌≤◌, ◌/◌, ◌^◌, Option, Result, Ok, Err, List, IfSome, length}
use Rattle.std.specs.Int.{div_ceil}
use Rattle.std.specs.List.{filter, range_with_len, sum_by}
use Rattle.fg_base.specs.Faults.{Rose}
use Rattle.fg_base.specs.declared.limits.TheConstants.{MAX_RUN_PAGES}
use Rattle.fg_build.specs.declared.opened.Opened.{Opened}
use Rattle.fg_build.specs.Asked.{IsAsked}
use Rattle.fg_build.specs.Opening.{graph_on}
use Rattle.fg_cache.specs.Closing.{LeastRisen}
use Rattle.fg_cache.specs.Shelf.{stopped}
use Rattle.fg_cache.specs.declared.usage.Usage.{Usage}
use Rattle.fg_crew.specs.Slots.{Has}
use Rattle.fg_model.specs.declared.run.End.{End}
use Rattle.fg_model.specs.declared.run.RunFault.{RunFault}
use Rattle.fg_model.specs.Engine.{IsWhole, MatchRunFault}
use Rattle.fg_model.specs.Iteration.{Begun}
use Rattle.fg_model.specs.Program.{Rules}
use Rattle.fg_model.specs.Run.{Run, begun_of, run}
use Rattle.fg_outside.specs.declared.drive.Read.{Read}
use Rattle.fg_outside.specs.declared.drive.Drive.{Ghosts as DriveGhosts}
use Rattle.fg_outside.specs.Drives.{DriveRead, LogsGrew, LogsGrewBy, NoneRose, RoseFirst, all_told}
use Rattle.fg_worker.specs.Visits.{needed_pages}
use Rattle.fg_engine.specs.declared.options.Options.{Options}
use Rattle.fg_engine.specs.Tallies.{RoseByRun, RoseWithin, Tallied}

-- a fact of the run of these rules on the image that was opened, where the bytes of its drives are told
abbrev pub OfRun : Option (List (List ℕ)) → Rules → Opened → ℕ → (Run → Type 0) → Type 0
OfRun told P opened max fact = IfSome told (λ helds. fact (run P (graph_on opened helds) max))

-- the logs grew by reads of pages that the run's iterations ask for
abbrev pub ReadsAsked : {D : Type 0} → (D → Option (List Read)) → Rules → Opened → Run → List D → List D → Type 0
ReadsAsked log P opened run olds news = LogsGrewBy (IsAsked MAX_RUN_PAGES opened.layout opened.index P (begun_of run)) log olds news

-- the reads of a run of these rules on what was opened, where the drives tell their bytes
abbrev pub ReadsOfRun : {D : Type 0} → DriveGhosts D → Rules → Opened → ℕ → List D → List D → Type 0
ReadsOfRun tells P opened max olds news =
    OfRun (all_told tells.held olds) P opened max (λ run. ReadsAsked tells.log P opened run olds news)

-- The logs grew by so many reads of so many pages in all, in counts that stand still at the end of their type.
pub record HasCountedReads {D : Type 0} (log : D → Option (List Read)) (reads pages : ℕ) (olds news : List D) : Type 0 where
  pub all_reads : List DriveRead
  pub grew : LogsGrew log all_reads olds news
  pub reads_counted : reads ≡ stopped (length all_reads)
  pub pages_counted : pages ≡ stopped (sum_by (λ (one : DriveRead). one.read.count) all_reads)

-- a fact where the answer says that no drive failed
abbrev pub WhereNoneFailed : Result End RunFault → Type 0 → Type 0
WhereNoneFailed (Ok end) fact = fact
WhereNoneFailed (Err fault) fact = MatchRunFault fault fact (λ drive. Unit {0}) (λ bad. fact) (Unit {0})

-- Whose count of faults rose, by the answer: that of the drive or the watch that it names, and no other. But where the watch failed a
-- drive may have failed too: the drives' counts stand behind locks during the run, and only the closed cache tells them.
abbrev pub TellsWhose : {D : Type 0} → (D → ℕ) → Result End RunFault → List D → List D → ℕ → ℕ → Type 0
TellsWhose faults (Ok end) olds news old new = NoneRose faults olds news × (new ≡ old)
TellsWhose faults (Err fault) olds news old new =
    MatchRunFault fault (NoneRose faults olds news × (new ≡ old)) (λ drive. RoseFirst faults drive olds news × (new ≡ old))
    (λ bad. NoneRose faults olds news × (new ≡ old)) (((failed : Option ℕ) × LeastRisen faults failed olds news) × Rose old new)

-- on how many pages the needed lists of these vertices stand, taken block by block, where a block has 2 ^ `shift` vertices
abbrev pub visits_by_blocks : Opened → Rules → ℕ → List ℕ → ℕ
visits_by_blocks opened P shift vertices =
    sum_by (λ block. length (needed_pages opened.layout opened.index P.need (filter (λ v. v / 2 ^ shift == block) vertices)))
    (range_with_len 0 (div_ceil (length opened.index.outs) (2 ^ shift)))

-- and those of all iterations that begin in the run
abbrev pub visits_of : Opened → Options → Rules → Run → ℕ
visits_of opened options P run = sum_by (λ (one : Begun). visits_by_blocks opened P options.shift one.active) (begun_of run)

-- so many pages at least were found in the cache as the run visits, where the drives tell their bytes
abbrev pub FoundVisits : Option (List (List ℕ)) → Rules → Opened → Options → Option Usage → Type 0
FoundVisits told P opened options usage =
    Has (λ (one : Usage). OfRun told P opened options.max (λ run. visits_of opened options P run ≤ one.hits)) usage

-- the tally rose with the iterations that begin in a run, with all of them where the answer is its end
abbrev pub TallyWent : Result End RunFault → Tallied → Run → Type 0
TallyWent answer tally run = RoseWithin (IsWhole answer) (begun_of run) tally

-- the tally rose by a run's finished iterations and nothing else
abbrev pub TallyRose : Tallied → Run → Type 0
TallyRose tally run = RoseByRun run tally
