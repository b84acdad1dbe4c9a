-- What a run tells that never began: the drives, the watch and the tally are as they were.
use Rattle.std.proofs.Common.{◌≡◌, ℕ, Option, None, Some, Result, Err, List, [], refl, sym, subst, arith}
use Rattle.std.specs.Prelude.{IsSome}
use Rattle.fg_base.specs.declared.plain.VState.{VState}
use Rattle.fg_build.specs.declared.opened.Opened.{Opened}
use Rattle.fg_base.specs.declared.limits.TheConstants.{MAX_RUN_PAGES}
use Rattle.fg_build.specs.Asked.{IsAsked}
use Rattle.fg_build.specs.Opening.{graph_on}
use Rattle.fg_model.specs.declared.run.End.{End}
use Rattle.fg_model.specs.declared.run.RunFault.{RunFault}
use Rattle.fg_model.specs.declared.watch.IterLine.{IterLine}
use Rattle.fg_model.specs.Engine.{IsWhole, ShownAs}
use Rattle.fg_model.specs.Program.{Rules}
use Rattle.fg_model.specs.Run.{Run, begun_of, run}
use Rattle.fg_outside.specs.declared.drive.Read.{Read}
use Rattle.fg_outside.specs.Drives.{EachSame, LogsGrew, RoomyKept}
use Rattle.fg_outside.proofs.DriveLemmas.{EachDrive-same, LogsGrew-none, LogsGrewBy-none}
use Rattle.fg_engine.specs.Tallies.{RoseWithin, tallied}
use Rattle.fg_engine.specs.Told.{HasCountedReads, OfRun, ReadsAsked, TellsWhose, WhereNoneFailed}
use Rattle.fg_engine.proofs.EndLaws.{none-began, shown-none}

-- a fact of each run
of-run : (told : Option (List (List ℕ))) (P : Rules) (opened : Opened) (max : ℕ) (fact : Run → Type 0) → ((run : Run) → fact run) → OfRun told P opened max fact
of-run None P opened max fact each = tt
of-run (Some helds) P opened max fact each = each (run P (graph_on opened helds) max)

module _ {D : Type 0} (olds news : List D) (same : news ≡ olds) where
  pub unbegun-held : {A : Type 0} (held : D → A) → EachSame held olds news
  unbegun-held held = subst (λ (drives : List D). EachSame held olds drives) (sym same) (EachDrive-same (λ old new. held new ≡ held old) (λ drive. refl) olds)

  pub unbegun-sure : (room : D → Option ℕ) (faults : D → ℕ) → RoomyKept room faults olds news
  unbegun-sure room faults =
      subst (λ (drives : List D). RoomyKept room faults olds drives) (sym same)
      (EachDrive-same (λ old new. IsSome (room old) → faults new ≡ faults old) (λ drive is. refl) olds)

  pub unbegun-reads : (log : D → Option (List Read)) (told : Option (List (List ℕ))) (P : Rules) (opened : Opened) (max : ℕ)
      → OfRun told P opened max (λ run. ReadsAsked log P opened run olds news)
  unbegun-reads log told P opened max =
      of-run told P opened max (λ run. ReadsAsked log P opened run olds news)
      (λ run. subst (λ (drives : List D). ReadsAsked log P opened run olds drives) (sym same) (LogsGrewBy-none (IsAsked MAX_RUN_PAGES opened.layout opened.index P (begun_of run)) log olds))

  module _ (answer : Result End RunFault) (memory : answer ≡ Err RunFault.Memory) where
    pub unbegun-counts : (log : D → Option (List Read)) (reads pages : ℕ) → reads ≡ 0 → pages ≡ 0 → WhereNoneFailed answer (HasCountedReads log reads pages olds news)
    unbegun-counts log reads pages no_reads no_pages =
        let none : HasCountedReads log reads pages olds news = record {
          all_reads = [];
          grew = subst (λ (drives : List D). LogsGrew log [] olds drives) (sym same) (LogsGrew-none log olds);
          reads_counted = omega (arith, no_reads);
          pages_counted = omega (arith, no_pages);
        } in
        subst (λ (answer : Result End RunFault). WhereNoneFailed answer (HasCountedReads log reads pages olds news)) (sym memory) none

    pub unbegun-faults : (faults : D → ℕ) (risen : ℕ) → TellsWhose faults answer olds news risen risen
    unbegun-faults faults risen =
        subst (λ (answer : Result End RunFault). TellsWhose faults answer olds news risen risen) (sym memory) (unbegun-held faults, refl)

module _ (answer : Result End RunFault) (memory : answer ≡ Err RunFault.Memory) (told : Option (List (List ℕ))) (P : Rules) (opened : Opened) (max : ℕ) where
  pub unbegun-shown : {N : Type 0} (shows : IterLine → List VState → List N) (notes : Option (List N))
      → OfRun told P opened max (λ run. ShownAs answer shows run.finished notes notes)
  unbegun-shown shows notes =
      of-run told P opened max (λ run. ShownAs answer shows run.finished notes notes)
      (λ run. subst (λ (answer : Result End RunFault). ShownAs answer shows run.finished notes notes) (sym memory) (shown-none shows run.finished notes))

  pub unbegun-tally : (runs entries : ℕ) → OfRun told P opened max (λ run. RoseWithin (IsWhole answer) (begun_of run) (tallied runs runs entries entries))
  unbegun-tally runs entries =
      of-run told P opened max (λ run. RoseWithin (IsWhole answer) (begun_of run) (tallied runs runs entries entries))
      (λ run. subst (λ (answer : Result End RunFault). RoseWithin (IsWhole answer) (begun_of run) (tallied runs runs entries entries)) (sym memory) (none-began (begun_of run) runs entries))
