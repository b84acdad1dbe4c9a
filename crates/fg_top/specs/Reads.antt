-- What a run reads of its drives.
use Rattle.std.specs.Prelude.{ℕ, Option, None, Some, Result, Ok, Err, List, [], ◌++◌, ◌⊎◌, All, nat_le, if◌then◌else◌}
use Rattle.fg_base.specs.declared.limits.TheConstants.{MAX_RUN_PAGES}
use Rattle.fg_base.specs.declared.refusal.Refusal.{Refusal}
use Rattle.fg_build.specs.declared.opened.Opened.{Opened}
use Rattle.fg_build.specs.Opening.{opening_of}
use Rattle.fg_build.specs.OpeningReads.{opening_reads, whole_reads}
use Rattle.fg_model.specs.Run.{begun_of}
use Rattle.fg_outside.specs.declared.drive.Read.{Read}
use Rattle.fg_outside.specs.Drives.{DriveRead, LogsGrew, LogsGrewByFirst}
use Rattle.fg_build.specs.Asked.{IsAsked}
use Rattle.fg_top.specs.declared.wish.Wish.{Wish}
use Rattle.fg_top.specs.Outcome.{rules_of, run_on, source_of}

-- the read is of pages that the wished run asks for, on drives that hold these bytes and open so
abbrev pub IsAskedBy : Wish → List (List ℕ) → Result Opened Refusal → DriveRead → Type 0
IsAskedBy wish helds (Err refusal) read = ⊥
IsAskedBy wish helds (Ok opened) read =
    IsAsked MAX_RUN_PAGES opened.layout opened.index (rules_of wish.pick) (begun_of (run_on wish opened helds)) read

-- the logs grew by all reads of opening, and then by pages that the run asks for
abbrev pub RunReadsAll : {D : Type 0} → (D → Option (List Read)) → Wish → List (List ℕ) → List D → List D → Type 0
RunReadsAll log wish helds olds news =
    (reads : List DriveRead) × All (IsAskedBy wish helds (opening_of helds)) reads × LogsGrew log (opening_reads helds ++ reads) olds news

-- the logs grew by some first of the reads of opening; or by all of them, and then by pages that the run asks for
abbrev pub RunReads : {D : Type 0} → (D → Option (List Read)) → Wish → List (List ℕ) → List D → List D → Type 0
RunReads log wish helds olds news = LogsGrewByFirst log (opening_reads helds) olds news ⊎ RunReadsAll log wish helds olds news

-- the reads of the whole image that was opened, for a run with this source; none where that is no vertex
abbrev pub sourced_reads : Opened → Option ℕ → List DriveRead
sourced_reads opened None = whole_reads opened.layout
sourced_reads opened (Some source) = if nat_le opened.header.n source then [] else whole_reads opened.layout

-- the same by how the drives open; none where they don't
abbrev pub image_reads_of : Wish → Result Opened Refusal → List DriveRead
image_reads_of wish (Err refusal) = []
image_reads_of wish (Ok opened) = sourced_reads opened (source_of wish.pick)

-- the reads of a run in memory: those of opening, and then, where its source is a vertex, each page of the image, ascending
abbrev pub ref_reads : Wish → List (List ℕ) → List DriveRead
ref_reads wish helds = opening_reads helds ++ image_reads_of wish (opening_of helds)
