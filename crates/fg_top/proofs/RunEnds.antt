-- How a run ends behind its head, by what it answered and what was shown of it.
use Rattle.std.proofs.Common.{◌≡◌, ◌≢◌, ◌∙◌, ℕ, ◌+◌, ◌≤◌, ◌^◌, arith, Bool, true, ⊎_elim, Option, None, Some, IfSome, Result, Ok, Err, IfOk, OnOk, List, [], ◌∷◌, ◌++◌, length, map, take, drop, refl, sym, ap, subst}
use Rattle.std.proofs.lemmas.Grind.{flat_map-append}
use Rattle.std.proofs.lemmas.List.{append-nil, take-map}
use Rattle.std.proofs.lemmas.Option.{IfSome_then}
use Rattle.std.proofs.Math.Seq.{take-add, take-length}
use Rattle.std.specs.List.{concat}
use Rattle.fg_base.specs.Faults.{Rose}
use Rattle.fg_base.specs.Told.{grown, GrewByFirst}
use Rattle.fg_base.specs.declared.plain.BadEdge.{BadEdge}
use Rattle.fg_base.specs.declared.plain.Value.{Value}
use Rattle.fg_base.specs.declared.plain.VState.{VState}
use Rattle.fg_base.specs.declared.refusal.Refusal.{Refusal}
use Rattle.fg_base.proofs.GrowthLemmas.{grew_on}
use Rattle.fg_base.proofs.ToldLemmas.{grown-grown}
use Rattle.fg_engine.specs.Told.{TellsWhose}
use Rattle.fg_model.specs.declared.graph.Graph.{Graph}
use Rattle.fg_model.specs.declared.run.End.{End}
use Rattle.fg_model.specs.declared.run.RunFault.{RunFault}
use Rattle.fg_model.specs.Engine.{IsWhole, ShownAs, TellsEnd, TellsFaults}
use Rattle.fg_model.specs.Iteration.{AreStates}
use Rattle.fg_model.specs.Program.{Rules}
use Rattle.fg_model.specs.Run.{Ending, Finished, Refused, Run, Settled, Stopped, answer_at, answer_of}
use Rattle.fg_model.specs.Watch.{Grew, ShownAll, ShownPart, ShownSome, told_of}
use Rattle.fg_report.specs.Refusals.{refusal_line}
use Rattle.fg_report.specs.ReportWatch.{iteration_text}
use Rattle.fg_top.specs.declared.stats.Stats.{Stats}
use Rattle.fg_top.specs.declared.wish.Wish.{Wish}
use Rattle.fg_top.specs.Calls.{output_over}
use Rattle.fg_top.specs.Ends.{Ends, IsCause}
use Rattle.fg_top.specs.Outcome.{Close, Done, Outcome, Refuses, last_text, run_close, text_of}
use Rattle.fg_top.specs.Running.{IsClosed, IsGivenUp, MayClose, RunComesTo, behind_head, end_text}
use Rattle.fg_top.specs.Statuses.{CameToEnd}
use Rattle.fg_top.proofs.BuildDrives.{held_status}
use Rattle.fg_top.proofs.EndLemmas.{ends_unwritten, not_come, refused_status, written_behind}
use Rattle.fg_top.proofs.OutcomeLemmas.{last_has_stats}

-- what is written of all these iterations is what a watch that reports tells of them
concat_told : (each : Bool) (show : VState → Value) (finished : List Finished) →
    concat (map (text_of each show) finished) ≡ told_of (iteration_text each show) finished
unfolding told_of
concat_told each show [] = refl
concat_told each show (iteration ∷ finished) = ap (λ rest. text_of each show iteration ++ rest) (concat_told each show finished)

concat_taken : (each : Bool) (show : VState → Value) (finished : List Finished) (k : ℕ) →
    concat (take k (map (text_of each show) finished)) ≡ told_of (iteration_text each show) (take k finished)
concat_taken each show finished k = ap concat (take-map (text_of each show) k finished) ∙ concat_told each show (take k finished)

told_next : (each : Bool) (show : VState → Value) (finished : List Finished) (k : ℕ) →
    told_of (iteration_text each show) (take (k + 1) finished)
    ≡ told_of (iteration_text each show) (take k finished) ++ told_of (iteration_text each show) (take 1 (drop k finished))
unfolding told_of
told_next each show finished k =
    ap (told_of (iteration_text each show)) (take-add k 1 finished) ∙ flat_map-append (text_of each show) (take k finished) (take 1 (drop k finished))

-- the end in an answer
end_in : Result End RunFault → End → End
end_in (Ok end) other = end
end_in (Err fault) other = other

closes_done : (stats : Option Stats) (quiet : Bool) (show : VState → Value) (ending : Ending) (iterations phase : ℕ) (states : List VState) (end : End) →
    answer_at ending iterations phase states ≡ Ok end → run_close stats quiet show ending iterations states ≡ Done (end_text stats quiet show end)
unfolding end_in
closes_done stats quiet show Settled iterations phase states end answer = ap (λ given. Done (end_text stats quiet show (end_in given end))) answer
closes_done stats quiet show Stopped iterations phase states end answer = ap (λ given. Done (end_text stats quiet show (end_in given end))) answer
closes_done stats quiet show (Refused begun bad) iterations phase states end answer = cc

closes_bad : (stats : Option Stats) (quiet : Bool) (show : VState → Value) (ending : Ending) (iterations phase : ℕ) (states : List VState) (bad : BadEdge) →
    answer_at ending iterations phase states ≡ Err (RunFault.BadEdge bad) → run_close stats quiet show ending iterations states ≡ Refuses (Refusal.BadEdge bad)
closes_bad stats quiet show Settled iterations phase states bad answer = cc
closes_bad stats quiet show Stopped iterations phase states bad answer = cc
closes_bad stats quiet show (Refused begun found) iterations phase states bad answer = cc

-- how the run closes that is wished for
abbrev close_of : Rules → Wish → Option Stats → Run → Close
close_of rules wish stats run = (behind_head rules wish stats run).close

done_of : (rules : Rules) (wish : Wish) (stats : Option Stats) (run : Run) (end : End) → answer_of run ≡ Ok end →
    close_of rules wish stats run ≡ Done (end_text stats wish.quiet rules.show end)
unfolding answer_of
done_of rules wish stats run end answer = closes_done stats wish.quiet rules.show run.ending run.iterations run.phase run.states end answer

bad_of : (rules : Rules) (wish : Wish) (stats : Option Stats) (run : Run) (bad : BadEdge) → answer_of run ≡ Err (RunFault.BadEdge bad) →
    close_of rules wish stats run ≡ Refuses (Refusal.BadEdge bad)
unfolding answer_of
bad_of rules wish stats run bad answer = closes_bad stats wish.quiet rules.show run.ending run.iterations run.phase run.states bad answer

-- an outcome of the run that closes so, all of whose lines were written
record Whole {A : Type 0} (rules : Rules) (wish : Wish) (stats : Option Stats) (told : Option A) (run_of : A → Run) (close : Close) (t0 t1 : Option (List ℕ)) : Type 0 where
  outcome : Outcome
  is_one : RunComesTo rules wish stats told run_of outcome
  closes : outcome.close ≡ close
  wrote : t1 ≡ grown t0 (concat outcome.lines)

-- an outcome of the run, some first lines of which were written
record Cut {A : Type 0} (rules : Rules) (wish : Wish) (stats : Option Stats) (told : Option A) (run_of : A → Run) (t0 t1 : Option (List ℕ)) : Type 0 where
  outcome : Outcome
  is_one : RunComesTo rules wish stats told run_of outcome
  count : ℕ
  wrote : t1 ≡ grown t0 (concat (take count outcome.lines))

-- an outcome of the run, a first part of some first lines of which was written
record Broken {A : Type 0} (rules : Rules) (wish : Wish) (stats : Option Stats) (told : Option A) (run_of : A → Run) (t0 t1 : Option (List ℕ)) : Type 0 where
  outcome : Outcome
  is_one : RunComesTo rules wish stats told run_of outcome
  count : ℕ
  wrote : GrewByFirst (concat (take count outcome.lines)) t0 t1

-- where nothing is told, what was written is the only line
only_line : Close → List ℕ → Outcome
only_line close line = record { lines = line ∷ []; close = close }

whole_run : {A : Type 0} (rules : Rules) (wish : Wish) (stats : Option Stats) (told : Option A) (run_of : A → Run) (close : Close) (t0 t1 : Option (List ℕ)) →
    Grew t0 t1 → MayClose stats close → IfSome told (λ one. close_of rules wish stats (run_of one) ≡ close) →
    IfSome told (λ one. ShownAll (iteration_text wish.each rules.show) (run_of one).finished t0 t1) →
    Whole rules wish stats told run_of close t0 t1
unfolding only_line
whole_run rules wish stats None run_of close t0 t1 (more, grew) may closes shown =
    record { outcome = only_line close more; is_one = may; closes = refl; wrote = grew ∙ ap (grown t0) (sym (append-nil more)) }
whole_run rules wish stats (Some one) run_of close t0 t1 grew may closes shown = record {
  outcome = behind_head rules wish stats (run_of one);
  is_one = refl;
  closes = closes;
  wrote = shown ∙ ap (grown t0) (sym (concat_told wish.each rules.show (run_of one).finished));
}

cut_run : {A : Type 0} (rules : Rules) (wish : Wish) (stats : Option Stats) (told : Option A) (run_of : A → Run) (t0 t1 : Option (List ℕ)) → Grew t0 t1 →
    IfSome told (λ one. ShownSome (iteration_text wish.each rules.show) (run_of one).finished t0 t1) → Cut rules wish stats told run_of t0 t1
unfolding only_line
cut_run rules wish stats None run_of t0 t1 (more, grew) shown =
    record { outcome = only_line (Done (last_text stats true rules.show true 0 [])) more; is_one = last_has_stats stats true rules.show true 0 []; count = 1; wrote = grew ∙ ap (grown t0) (sym (append-nil more)) }
cut_run rules wish stats (Some one) run_of t0 t1 grew (k, shown) = record {
  outcome = behind_head rules wish stats (run_of one);
  is_one = refl;
  count = k;
  wrote = shown ∙ ap (grown t0) (sym (concat_taken wish.each rules.show (run_of one).finished k));
}

broken_text : (each : Bool) (show : VState → Value) (finished : List Finished) (t0 t1 : Option (List ℕ)) (k part : ℕ) →
    t1 ≡ grown t0 (told_of (iteration_text each show) (take k finished) ++ take part (told_of (iteration_text each show) (take 1 (drop k finished)))) →
    GrewByFirst (concat (take (k + 1) (map (text_of each show) finished))) t0 t1
broken_text each show finished t0 t1 k part grew =
    let told = told_of (iteration_text each show) in
    let first = told (take k finished) in
    let next = told (take 1 (drop k finished)) in
    let Of : List ℕ → Type 0 = λ text. GrewByFirst text t0 t1 in
    subst Of (sym (concat_taken each show finished (k + 1) ∙ told_next each show finished k))
    (grew_on first next t0 t1 (part, grew ∙ sym (grown-grown t0 first (take part next))))

broken_run : {A : Type 0} (rules : Rules) (wish : Wish) (stats : Option Stats) (told : Option A) (run_of : A → Run) (t0 t1 : Option (List ℕ)) → Grew t0 t1 →
    IfSome told (λ one. ShownPart (iteration_text wish.each rules.show) (run_of one).finished t0 t1) → Broken rules wish stats told run_of t0 t1
unfolding only_line
broken_run rules wish stats None run_of t0 t1 (more, grew) shown = record {
  outcome = only_line (Done (last_text stats true rules.show true 0 [])) more;
  is_one = last_has_stats stats true rules.show true 0 [];
  count = 1;
  wrote = (length more, grew ∙ ap (grown t0) (all_of more));
} where
  all_of : (more : List ℕ) → more ≡ take (length more) (more ++ [])
  all_of more = sym (ap (take (length more)) (append-nil more) ∙ take-length more)
broken_run rules wish stats (Some one) run_of t0 t1 grew (k, part, within, shown) = record {
  outcome = behind_head rules wish stats (run_of one);
  is_one = refl;
  count = k + 1;
  wrote = broken_text wish.each rules.show (run_of one).finished t0 t1 k part shown;
}

-- the end of a run whose put failed, by what ended its work else: want of memory, or a drive's fault
ends_broken : {D A : Type 0} (faults : D → ℕ) (olds news : List D) (rules : Rules) (wish : Wish) (stats : Option Stats) (told : Option A) (run_of : A → Run) (leaves : Option Refusal → Type 0)
    (refusal : Refusal) (f0 f1 f2 : ℕ) (t0 t1 t2 : Option (List ℕ)) (back : Bool) (status : ℕ) → (broken : Broken rules wish stats told run_of t0 t1) →
    IsCause faults olds news (RunComesTo rules wish stats told run_of) (Some refusal) (concat (take broken.count broken.outcome.lines) ++ refusal_line refusal) → leaves (Some refusal) →
    Rose f0 f1 → IsGivenUp (output_over f1 f2 t1 t2 back) status → Ends faults olds news (RunComesTo rules wish stats told run_of) leaves (output_over f0 f2 t0 t2 back) status
ends_broken faults olds news rules wish stats told run_of leaves refusal f0 f1 f2 t0 t1 t2 back status broken cause left rose closed =
    let first = concat (take broken.count broken.outcome.lines) in
    let From : ℕ → Type 0 = λ count. Rose f0 count in
    let To : Option (List ℕ) → Type 0 = λ text. GrewByFirst first t0 text in
    ends_unwritten faults olds news (RunComesTo rules wish stats told run_of) leaves refusal first f0 f2 t0 t2 back status cause left
    (subst From (sym closed.faults) rose) (subst To (sym closed.text) broken.wrote) closed.failed

-- the end of a run, by what it answered, whose count rose and what was shown
pub ends_of_run : {D A : Type 0} (faults : D → ℕ) (olds news : List D) (rules : Rules) (wish : Wish) (stats : Option Stats) (told : Option A) (run_of : A → Run)
    (leaves : Option Refusal → Type 0) (answer : Result End RunFault) (f0 f1 f2 : ℕ) (t0 t1 t2 : Option (List ℕ)) (back : Bool) (status : ℕ) →
    ((refusal : Refusal) → leaves (Some refusal)) →
    OnOk answer (leaves None) →
    Grew t0 t1 →
    IfSome told (λ one. TellsEnd answer (run_of one)) →
    TellsWhose faults answer olds news f0 f1 →
    IfSome told (λ one. ShownAs answer (iteration_text wish.each rules.show) (run_of one).finished t0 t1) →
    IsClosed stats wish.quiet rules.show (output_over f1 f2 t1 t2 back) answer status →
    Ends faults olds news (RunComesTo rules wish stats told run_of) leaves (output_over f0 f2 t0 t2 back) status
ends_of_run faults olds news rules wish stats told run_of leaves (Ok end) f0 f1 f2 t0 t1 t2 back status refused left grew ends counts shown closed =
    let last = end_text stats wish.quiet rules.show end in
    let may = last_has_stats stats wish.quiet rules.show end.settled end.iterations end.states in
    let whole = whole_run rules wish stats told run_of (Done last) t0 t1 grew may (IfSome_then told ends (λ one answer. done_of rules wish stats (run_of one) end answer)) shown in
    record {
      end = None;
      text = concat whole.outcome.lines ++ last;
      cause = (counts.0, record { last = last; is_outcome = record { outcome = whole.outcome; is_one = whole.is_one; closes = whole.closes; text_is = refl } });
      left = left;
      written = written_behind f0 f1 f2 t0 t1 t2 back None (concat whole.outcome.lines) last status counts.1 whole.wrote closed;
    }
ends_of_run faults olds news rules wish stats told run_of leaves (Err RunFault.Memory) f0 f1 f2 t0 t1 t2 back status refused left grew ends counts shown closed =
    let cut = cut_run rules wish stats told run_of t0 t1 grew shown in
    let lines = concat (take cut.count cut.outcome.lines) in
    let line = refusal_line Refusal.Memory in
    record {
      end = Some Refusal.Memory;
      text = lines ++ line;
      cause = (counts.0, record { outcome = cut.outcome; is_one = cut.is_one; count = cut.count; text_is = refl });
      left = refused Refusal.Memory;
      written = written_behind f0 f1 f2 t0 t1 t2 back (Some Refusal.Memory) lines line status counts.1 cut.wrote closed;
    }
ends_of_run faults olds news rules wish stats told run_of leaves (Err (RunFault.Drive drive)) f0 f1 f2 t0 t1 t2 back status refused left grew ends counts shown closed =
    let cut = cut_run rules wish stats told run_of t0 t1 grew shown in
    let lines = concat (take cut.count cut.outcome.lines) in
    let line = refusal_line (Refusal.DriveFault drive) in
    record {
      end = Some (Refusal.DriveFault drive);
      text = lines ++ line;
      cause = (counts.0, record { outcome = cut.outcome; is_one = cut.is_one; count = cut.count; text_is = refl });
      left = refused (Refusal.DriveFault drive);
      written = written_behind f0 f1 f2 t0 t1 t2 back (Some (Refusal.DriveFault drive)) lines line status counts.1 cut.wrote closed;
    }
ends_of_run faults olds news rules wish stats told run_of leaves (Err (RunFault.BadEdge edge)) f0 f1 f2 t0 t1 t2 back status refused left grew ends counts shown closed =
    let whole = whole_run rules wish stats told run_of (Refuses (Refusal.BadEdge edge)) t0 t1 grew tt (IfSome_then told ends (λ one answer. bad_of rules wish stats (run_of one) edge answer)) shown in
    let line = refusal_line (Refusal.BadEdge edge) in
    record {
      end = Some (Refusal.BadEdge edge);
      text = concat whole.outcome.lines ++ line;
      cause = (counts.0, record { outcome = whole.outcome; is_one = whole.is_one; closes = whole.closes; text_is = refl });
      left = refused (Refusal.BadEdge edge);
      written = written_behind f0 f1 f2 t0 t1 t2 back (Some (Refusal.BadEdge edge)) (concat whole.outcome.lines) line status counts.1 whole.wrote closed;
    }
ends_of_run faults olds news rules wish stats told run_of leaves (Err RunFault.Watch) f0 f1 f2 t0 t1 t2 back status refused left grew ends ((None, kept), rose) shown closed =
    let broken = broken_run rules wish stats told run_of t0 t1 grew shown in
    ends_broken faults olds news rules wish stats told run_of leaves Refusal.Memory f0 f1 f2 t0 t1 t2 back status broken
    (kept, record { outcome = broken.outcome; is_one = broken.is_one; count = broken.count; text_is = refl }) (refused Refusal.Memory) rose closed
ends_of_run faults olds news rules wish stats told run_of leaves (Err RunFault.Watch) f0 f1 f2 t0 t1 t2 back status refused left grew ends ((Some drive, failed), rose) shown closed =
    let broken = broken_run rules wish stats told run_of t0 t1 grew shown in
    ends_broken faults olds news rules wish stats told run_of leaves (Refusal.DriveFault drive) f0 f1 f2 t0 t1 t2 back status broken
    (failed, record { outcome = broken.outcome; is_one = broken.is_one; count = broken.count; text_is = refl }) (refused (Refusal.DriveFault drive)) rose closed

-- where the status is 0 the run has an end
pub run_is_ok : (stats : Option Stats) (quiet : Bool) (show : VState → Value) (f1 f2 : ℕ) (t1 t2 : Option (List ℕ)) (back : Bool) (answer : Result End RunFault) (status : ℕ) (P : Type 0) →
    IsClosed stats quiet show (output_over f1 f2 t1 t2 back) answer status → status ≡ 0 → OnOk answer P → P
run_is_ok stats quiet show f1 f2 t1 t2 back (Ok end) status P closed zero known = known
run_is_ok stats quiet show f1 f2 t1 t2 back (Err RunFault.Memory) status P closed zero known =
    absurd (refused_status (output_over f1 f2 t1 t2 back) Refusal.Memory _ status closed zero)
run_is_ok stats quiet show f1 f2 t1 t2 back (Err (RunFault.Drive drive)) status P closed zero known =
    absurd (refused_status (output_over f1 f2 t1 t2 back) (Refusal.DriveFault drive) _ status closed zero)
run_is_ok stats quiet show f1 f2 t1 t2 back (Err (RunFault.BadEdge bad)) status P closed zero known =
    absurd (refused_status (output_over f1 f2 t1 t2 back) (Refusal.BadEdge bad) _ status closed zero)
run_is_ok stats quiet show f1 f2 t1 t2 back (Err RunFault.Watch) status P closed zero known =
    let four : ◌≡◌ {A = ℕ} 4 0 = sym closed.failed ∙ zero in cc

one_not_zero : ◌≡◌ {A = ℕ} 1 0 → ⊥
one_not_zero is = cc

one_not_eight : ◌≡◌ {A = ℕ} 1 8 → ⊥
one_not_eight is = cc

five_not_zero : ◌≡◌ {A = ℕ} 5 0 → ⊥
five_not_zero is = cc

five_not_eight : ◌≡◌ {A = ℕ} 5 8 → ⊥
five_not_eight is = cc

-- where the status is that of a work that came to its end, the run did
pub closed_whole : (stats : Option Stats) (quiet : Bool) (show : VState → Value) (f1 f2 : ℕ) (t1 t2 : Option (List ℕ)) (back : Bool) (answer : Result End RunFault) (status : ℕ) →
    IsClosed stats quiet show (output_over f1 f2 t1 t2 back) answer status → CameToEnd status → IsWhole answer
closed_whole stats quiet show f1 f2 t1 t2 back (Ok end) status closed came = tt
closed_whole stats quiet show f1 f2 t1 t2 back (Err RunFault.Memory) status closed came =
    absurd (not_come (output_over f1 f2 t1 t2 back) Refusal.Memory _ status (λ is. one_not_zero is) (λ is. one_not_eight is) closed came)
closed_whole stats quiet show f1 f2 t1 t2 back (Err (RunFault.Drive drive)) status closed came =
    absurd (not_come (output_over f1 f2 t1 t2 back) (Refusal.DriveFault drive) _ status (λ is. five_not_zero is) (λ is. five_not_eight is) closed came)
closed_whole stats quiet show f1 f2 t1 t2 back (Err (RunFault.BadEdge bad)) status closed came = tt
closed_whole stats quiet show f1 f2 t1 t2 back (Err RunFault.Watch) status closed came =
    ⊎_elim (λ zero. let four : ◌≡◌ {A = ℕ} 4 0 = sym closed.failed ∙ zero in cc) (λ eight. let four : ◌≡◌ {A = ℕ} 4 8 = sym closed.failed ∙ eight in cc) came

-- no run behind its head closes with the status of what drives hold
pub closed_not_held : (stats : Option Stats) (quiet : Bool) (show : VState → Value) (f1 f2 : ℕ) (t1 t2 : Option (List ℕ)) (back : Bool) (answer : Result End RunFault) (status : ℕ) →
    IsClosed stats quiet show (output_over f1 f2 t1 t2 back) answer status → status ≢ 7
closed_not_held stats quiet show f1 f2 t1 t2 back (Ok end) status closed is =
    ⊎_elim (λ whole. let zero : ◌≡◌ {A = ℕ} 0 7 = sym whole.3 ∙ is in cc) (λ failed. let four : ◌≡◌ {A = ℕ} 4 7 = sym failed.2 ∙ is in cc) closed
closed_not_held stats quiet show f1 f2 t1 t2 back (Err RunFault.Memory) status closed is =
    let own : ◌≡◌ {A = ℕ} 1 7 = held_status (output_over f1 f2 t1 t2 back) Refusal.Memory _ status closed is in cc
closed_not_held stats quiet show f1 f2 t1 t2 back (Err (RunFault.Drive drive)) status closed is =
    let own : ◌≡◌ {A = ℕ} 5 7 = held_status (output_over f1 f2 t1 t2 back) (Refusal.DriveFault drive) _ status closed is in cc
closed_not_held stats quiet show f1 f2 t1 t2 back (Err (RunFault.BadEdge bad)) status closed is =
    let own : ◌≡◌ {A = ℕ} 8 7 = held_status (output_over f1 f2 t1 t2 back) (Refusal.BadEdge bad) _ status closed is in cc
closed_not_held stats quiet show f1 f2 t1 t2 back (Err RunFault.Watch) status closed is =
    let four : ◌≡◌ {A = ℕ} 4 7 = sym closed.failed ∙ is in cc

-- whose count rose in a run in memory, as in a run that has no drives
pub plain_counts : (answer : Result End RunFault) (f0 f1 : ℕ) → TellsFaults answer (Unit {0}) (λ drive. ⊥) f0 f1 →
    TellsWhose {D = ℕ} (λ drive. drive) answer [] [] f0 f1
plain_counts (Ok end) f0 f1 counts = counts
plain_counts (Err RunFault.Memory) f0 f1 counts = counts
plain_counts (Err (RunFault.Drive drive)) f0 f1 counts = absurd counts.0
plain_counts (Err (RunFault.BadEdge bad)) f0 f1 counts = counts
plain_counts (Err RunFault.Watch) f0 f1 counts = ((None, counts.0), counts.1)

-- there are few states
pub few_states : (graph : Graph) (answer : Result End RunFault) → graph.n ≤ 2 ^ 24 →
    IfOk answer (λ end. AreStates graph.n end.states) → IfOk answer (λ end. length end.states ≤ 2 ^ 32)
few_states graph (Ok end) few states = omega (arith, states.state_count, few)
few_states graph (Err fault) few states = tt
