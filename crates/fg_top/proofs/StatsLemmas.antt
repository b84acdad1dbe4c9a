-- Ends with stats, and what the stats count.
use Rattle.std.proofs.Common.{◌≡◌, ℕ, ◌+◌, ◌≤◌, arith, Bool, true, false, ⊎_elim, Option, None, Some, IfSome, IfNone, Result, Ok, Err, OnOk, List, [], length, take, refl, sym, subst}
use Rattle.std.proofs.lemmas.Option.{IfSome_then}
use Rattle.std.proofs.Math.Seq.{take-length}
use Rattle.fg_base.specs.declared.refusal.Refusal.{Refusal}
use Rattle.fg_base.specs.declared.plain.VState.{VState}
use Rattle.fg_base.proofs.ToldLemmas.{grown-nil}
use Rattle.fg_build.specs.OpeningReads.{opening_reads}
use Rattle.fg_engine.specs.Tallies.{RoseByRun, RoseWithBegun, RoseWithin, Tallied}
use Rattle.fg_engine.specs.Told.{HasCountedReads, TellsWhose, WhereNoneFailed}
use Rattle.fg_model.specs.declared.run.End.{End}
use Rattle.fg_model.specs.declared.run.RunFault.{RunFault}
use Rattle.fg_model.specs.declared.watch.IterLine.{IterLine}
use Rattle.fg_model.specs.Engine.{IsWhole, ShownAs, TellsEnd}
use Rattle.fg_model.specs.Iteration.{Begun}
use Rattle.fg_model.specs.Run.{Finished, Run, begun_of}
use Rattle.fg_model.specs.Watch.{ShownAll, ShownSome}
use Rattle.fg_outside.specs.declared.drive.Drive.{Ghosts as DriveGhosts}
use Rattle.fg_outside.specs.declared.drive.Read.{Read}
use Rattle.fg_outside.specs.Drives.{EachSame, LogsGrew, all_told}
use Rattle.fg_outside.proofs.DriveLemmas.{EachDrive-same, EachSame-more}
use Rattle.fg_top.specs.declared.stats.Stats.{Stats}
use Rattle.fg_top.specs.declared.wish.Wish.{Wish}
use Rattle.fg_top.specs.Calls.{Output}
use Rattle.fg_top.specs.Ends.{Ends, LeavesHeld}
use Rattle.fg_top.specs.Outcome.{Outcome, WishComesTo}
use Rattle.fg_top.specs.Stats.{CountsCall, CountsRun, CountsTally, EndsWithStats, IsSettled, LeavesStats, WishComesWithStats, asked, without_count}
use Rattle.fg_top.specs.Tallies.{Stood}
use Rattle.fg_top.proofs.EndLemmas.{ends_behind}

-- stats of nothing
abbrev pub no_stats : Stats
no_stats = record { reads = 0; pages = 0; runs = 0; entries = 0 }

-- what is known is known where the run has an end
pub where_ok : {A E : Type 0} (answer : Result A E) (P : Type 0) → P → OnOk answer P
where_ok (Ok end) P holds = holds
where_ok (Err fault) P holds = tt

-- what any end leaves of the drives
pub leaves_held : {D : Type 0} (held : D → Option (List ℕ)) (olds news : List D) (is_asked : Bool) (counts : Type 0) (end : Option Refusal) →
    LeavesStats held olds news is_asked counts end → LeavesHeld held olds news end
leaves_held held olds news false counts end left = left
leaves_held held olds news true counts end left = left.0

-- what a refusal leaves
pub leaves_refused : {D : Type 0} (held : D → Option (List ℕ)) (olds news : List D) (is_asked : Bool) (counts : Type 0) (refusal : Refusal) →
    EachSame held olds news → LeavesStats held olds news is_asked counts (Some refusal)
leaves_refused held olds news false counts refusal same = same
leaves_refused held olds news true counts refusal same = (same, tt)

counts_more : (counts more : Type 0) (end : Option Refusal) → (counts → more) → IfNone end counts → IfNone end more
counts_more counts more None up known = up known
counts_more counts more (Some refusal) up known = tt

-- what the run leaves its call leaves, which opened the drives before
pub leaves_called : {D : Type 0} (held : D → Option (List ℕ)) (olds betweens news : List D) (is_asked : Bool) (counts more : Type 0) →
    EachSame held olds betweens → (counts → more) → (end : Option Refusal) →
    LeavesStats held betweens news is_asked counts end → LeavesStats held olds news is_asked more end
leaves_called held olds betweens news false counts more same up end left = EachSame-more held olds betweens news same left
leaves_called held olds betweens news true counts more same up end left =
    (EachSame-more held olds betweens news same left.0, counts_more counts more end up left.1)

-- what a run counted behind opening its call counted
pub counts_called : {D : Type 0} (stats : Stats) (tells : DriveGhosts D) (olds betweens news : List D) (tally : Tallied) →
    IfSome (all_told tells.held olds) (λ helds. LogsGrew tells.log (opening_reads helds) olds betweens) →
    CountsRun stats tells.log betweens news tally → CountsCall stats tells olds news tally
counts_called stats tells olds betweens news tally opening counts = record {
  reads = IfSome_then (all_told tells.held olds) opening (λ helds grew. record { opened = betweens; by_opening = grew; behind = counts.reads });
  counts = counts.counts;
}

-- the end of a run with stats, but for what they count
pub ends_held : {D : Type 0} (is_asked : Bool) (wish : Wish) (tells : DriveGhosts D) (olds news : List D) (output : Output) (tally : Tallied) (status : ℕ) →
    EndsWithStats is_asked wish tells olds news output tally status →
    Ends tells.faults olds news (WishComesWithStats is_asked wish (all_told tells.held olds)) (LeavesHeld tells.held olds news) output status
ends_held is_asked wish tells olds news output tally status ends =
    let told = all_told tells.held olds in
    let counts = CountsCall ends.stats tells olds news tally in
    ends_behind tells.faults olds olds news (WishComesTo wish (asked is_asked ends.stats) told) (WishComesWithStats is_asked wish told)
    (LeavesStats tells.held olds news is_asked counts) (LeavesHeld tells.held olds news) [] output.old_faults output.old_faults output.new_faults
    output.old_text output.old_text output.new_text output.keeps_back status (λ outcome comes. (ends.stats, comes))
    (EachDrive-same (λ old new. tells.faults new ≡ tells.faults old) (λ drive. refl) olds) (leaves_held tells.held olds news is_asked counts)
    refl (sym (grown-nil output.old_text)) ends.ends

-- What is known of a run, by its answer: how it ended, whose count rose, what was shown and read, and how its tally rose.
pub record Ran {D A : Type 0} (faults : D → ℕ) (log : D → Option (List Read)) (olds news : List D) (told : Option A) (run_of : A → Run)
    (shows : IterLine → List VState → List ℕ) (f0 f1 : ℕ) (t0 t1 : Option (List ℕ)) (stats : Stats) (tally : Tallied) (answer : Result End RunFault) : Type 0 where
  pub end : IfSome told (λ one. TellsEnd answer (run_of one))
  pub whose : TellsWhose faults answer olds news f0 f1
  pub shown : IfSome told (λ one. ShownAs answer shows (run_of one).finished t0 t1)
  pub went : IfSome told (λ one. RoseWithin (IsWhole answer) (begun_of (run_of one)) tally)
  pub rose : OnOk answer (IfSome told (λ one. RoseByRun (run_of one) tally))
  pub reads : OnOk answer (HasCountedReads log stats.reads stats.pages olds news)

-- one tally rose by as much as another

raised_run : (run : Run) (stats : Stats) (count tally : Tallied) → CountsTally stats count → CountsTally stats tally → RoseByRun run count → RoseByRun run tally
raised_run run stats count tally own counts rose = record {
  runs = omega (arith, own.runs, counts.runs, rose.runs);
  entries = omega (arith, own.entries, counts.entries, rose.entries);
}

raised_begun : (begun : List Begun) (stats : Stats) (count tally : Tallied) → CountsTally stats count → CountsTally stats tally → RoseWithBegun begun count → RoseWithBegun begun tally
raised_begun begun stats count tally own counts rose = record {
  runs = record {
    at_least = omega (arith, own.runs, counts.runs, rose.runs.at_least);
    at_most = omega (arith, own.runs, counts.runs, rose.runs.at_most);
  };
  entries = record {
    at_least = omega (arith, own.entries, counts.entries, rose.entries.at_least);
    at_most = omega (arith, own.entries, counts.entries, rose.entries.at_most);
  };
}

raised_within : (whole : Type 0) (all : List Begun) (stats : Stats) (count tally : Tallied) → CountsTally stats count → CountsTally stats tally →
    RoseWithin whole all count → RoseWithin whole all tally
raised_within whole all stats count tally own counts went = record {
  begun = went.begun;
  are_first = went.are_first;
  are_all = went.are_all;
  rose = raised_begun went.begun stats count tally own counts went.rose;
}

-- a tally that stands, of a run that didn't come to its end
stood_within : (whole : Type 0) (all : List Begun) (tally : Tallied) → Stood tally → (whole → ⊥) → RoseWithin whole all tally
stood_within whole all tally stood cut = record {
  begun = [];
  are_first = (0, refl);
  are_all = λ is_whole. absurd (cut is_whole);
  rose = record {
    runs = record { at_least = omega (arith, stood.runs); at_most = omega (arith, stood.runs) };
    entries = record { at_least = omega (arith, stood.entries); at_most = omega (arith, stood.entries) };
  };
}

ok_up : {A E : Type 0} (answer : Result A E) (P Q : Type 0) → (P → Q) → OnOk answer P → OnOk answer Q
ok_up (Ok end) P Q up known = up known
ok_up (Err fault) P Q up known = tt

-- what was shown of all iterations was shown of some first ones
shown_some : (shows : IterLine → List VState → List ℕ) (finished : List Finished) (t0 t1 : Option (List ℕ)) →
    ShownAll shows finished t0 t1 → ShownSome shows finished t0 t1
shown_some shows finished t0 t1 shown =
    let Of : List Finished → Type 0 = λ first. ShownAll shows first t0 t1 in (length finished, subst Of (sym (take-length finished)) shown)

-- the run whose counts its tally had room for
ran_raised : {D A : Type 0} (faults : D → ℕ) (log : D → Option (List Read)) (olds news : List D) (told : Option A) (run_of : A → Run)
    (shows : IterLine → List VState → List ℕ) (f0 f1 : ℕ) (t0 t1 : Option (List ℕ)) (stats : Stats) (count tally : Tallied) (answer : Result End RunFault) →
    CountsTally stats count → CountsTally stats tally → Ran faults log olds news told run_of shows f0 f1 t0 t1 stats count answer →
    Ran faults log olds news told run_of shows f0 f1 t0 t1 stats tally answer
ran_raised {D} {A} faults log olds news told run_of shows f0 f1 t0 t1 stats count tally answer own counts ran = record {
  end = ran.end;
  whose = ran.whose;
  shown = ran.shown;
  went = IfSome_then told ran.went (λ one went. raised_within (IsWhole answer) (begun_of (run_of one)) stats count tally own counts went);
  rose = ok_up answer (IfSome told (λ one. RoseByRun (run_of one) count)) (IfSome told (λ one. RoseByRun (run_of one) tally))
      (λ rose. IfSome_then told rose (λ one by. raised_run (run_of one) stats count tally own counts by)) ran.rose;
  reads = ran.reads;
}

-- the run whose counts found no room
ran_without : {D A : Type 0} (faults : D → ℕ) (log : D → Option (List Read)) (olds news : List D) (told : Option A) (run_of : A → Run)
    (shows : IterLine → List VState → List ℕ) (f0 f1 : ℕ) (t0 t1 : Option (List ℕ)) (stats : Stats) (count tally : Tallied) (answer : Result End RunFault) →
    Stood tally → Ran faults log olds news told run_of shows f0 f1 t0 t1 stats count answer →
    Ran faults log olds news told run_of shows f0 f1 t0 t1 stats tally (without_count answer)
ran_without {D} {A} faults log olds news told run_of shows f0 f1 t0 t1 stats count tally answer stood ran = without answer ran where
  cut : (fault : RunFault) → (IsWhole (Err fault) → ⊥) → IfSome told (λ one. RoseWithin (IsWhole (Err fault)) (begun_of (run_of one)) tally)
  cut fault never = each told where
    each : (told : Option A) → IfSome told (λ one. RoseWithin (IsWhole (Err fault)) (begun_of (run_of one)) tally)
    each None = tt
    each (Some one) = stood_within (IsWhole (Err fault)) (begun_of (run_of one)) tally stood never

  nothing : (told : Option A) → IfSome told (λ one. Unit {0})
  nothing None = tt
  nothing (Some one) = tt

  some : IfSome told (λ one. ShownAll shows (run_of one).finished t0 t1) → IfSome told (λ one. ShownSome shows (run_of one).finished t0 t1)
  some shown = IfSome_then told shown (λ one all. shown_some shows (run_of one).finished t0 t1 all)

  without : (answer : Result End RunFault) → Ran faults log olds news told run_of shows f0 f1 t0 t1 stats count answer →
      Ran faults log olds news told run_of shows f0 f1 t0 t1 stats tally (without_count answer)
  without (Ok end) ran =
      record { end = nothing told; whose = ran.whose; shown = some ran.shown; went = cut RunFault.Memory (λ is. is); rose = tt; reads = tt }
  without (Err RunFault.Memory) ran =
      record { end = nothing told; whose = ran.whose; shown = ran.shown; went = cut RunFault.Memory (λ is. is); rose = tt; reads = tt }
  without (Err (RunFault.Drive drive)) ran =
      record { end = nothing told; whose = ran.whose; shown = ran.shown; went = cut (RunFault.Drive drive) (λ is. is); rose = tt; reads = tt }
  without (Err (RunFault.BadEdge bad)) ran =
      record { end = nothing told; whose = ran.whose; shown = some ran.shown; went = cut RunFault.Memory (λ is. is); rose = tt; reads = tt }
  without (Err RunFault.Watch) ran =
      record { end = nothing told; whose = ran.whose; shown = ran.shown; went = cut RunFault.Watch (λ is. is); rose = tt; reads = tt }

-- the run once its counts were settled
pub ran_settled : {D A : Type 0} (faults : D → ℕ) (log : D → Option (List Read)) (olds news : List D) (told : Option A) (run_of : A → Run)
    (shows : IterLine → List VState → List ℕ) (f0 f1 : ℕ) (t0 t1 : Option (List ℕ)) (stats : Stats) (count tally : Tallied) (answer settled : Result End RunFault) →
    CountsTally stats count → IsSettled stats answer settled tally → Ran faults log olds news told run_of shows f0 f1 t0 t1 stats count answer →
    Ran faults log olds news told run_of shows f0 f1 t0 t1 stats tally settled
ran_settled {D} {A} faults log olds news told run_of shows f0 f1 t0 t1 stats count tally answer settled own by ran =
    let Of : Result End RunFault → Type 0 = Ran faults log olds news told run_of shows f0 f1 t0 t1 stats tally in
    ⊎_elim
    (λ raised. subst Of (sym raised.0) (ran_raised faults log olds news told run_of shows f0 f1 t0 t1 stats count tally answer own raised.1 ran))
    (λ without. subst Of (sym without.0) (ran_without faults log olds news told run_of shows f0 f1 t0 t1 stats count tally answer without.1 ran))
    by

-- a run whose counts found no room has no end
never_ok : (answer : Result End RunFault) (P : Type 0) → OnOk (without_count answer) P
never_ok (Ok end) P = tt
never_ok (Err RunFault.Memory) P = tt
never_ok (Err (RunFault.Drive drive)) P = tt
never_ok (Err (RunFault.BadEdge bad)) P = tt
never_ok (Err RunFault.Watch) P = tt

-- so where it has one the stats count the tally
counts_settled : (stats : Stats) (answer settled : Result End RunFault) (tally : Tallied) → IsSettled stats answer settled tally → OnOk settled (CountsTally stats tally)
counts_settled stats answer settled tally by =
    let Of : Result End RunFault → Type 0 = λ answer. OnOk answer (CountsTally stats tally) in
    ⊎_elim
    (λ raised. where_ok settled (CountsTally stats tally) raised.1)
    (λ without. subst Of (sym without.0) (never_ok answer (CountsTally stats tally)))
    by

all_known : {A E : Type 0} (answer : Result A E) (P Q R : Type 0) → (P → Q → R) → OnOk answer P → OnOk answer Q → OnOk answer R
all_known (Ok end) P Q R both one two = both one two
all_known (Err fault) P Q R both one two = tt

-- what it leaves then
pub leaves_counted : {D : Type 0} (held : D → Option (List ℕ)) (log : D → Option (List Read)) (olds news : List D) (stats : Stats) (answer settled : Result End RunFault) (tally : Tallied) →
    EachSame held olds news → IsSettled stats answer settled tally → OnOk settled (HasCountedReads log stats.reads stats.pages olds news) →
    OnOk settled (LeavesStats held olds news true (CountsRun stats log olds news tally) None)
leaves_counted held log olds news stats answer settled tally same by reads =
    all_known settled (HasCountedReads log stats.reads stats.pages olds news) (CountsTally stats tally) (LeavesStats held olds news true (CountsRun stats log olds news tally) None)
    (λ counted counts. (same, record { reads = counted; counts = counts })) reads (counts_settled stats answer settled tally by)

-- the counts of what was read stand where the run has an end
pub ok_counts : (answer : Result End RunFault) (P : Type 0) → WhereNoneFailed answer P → OnOk answer P
ok_counts (Ok end) P known = known
ok_counts (Err fault) P known = tt
