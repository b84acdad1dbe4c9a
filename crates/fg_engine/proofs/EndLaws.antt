-- What the clauses of the workers' run come to when the drives are back and their counts settle the answer.
use Rattle.std.proofs.Common.{ℕ, ◌≡◌, ◌≤◌, ◌^◌, Option, None, Some, Result, Ok, Err, IfOk, OnOk, List, [], length, refl, sym, subst, arith}
use Rattle.std.proofs.lemmas.List.{take_all}
use Rattle.fg_base.proofs.ToldLemmas.{grown-nil}
use Rattle.fg_base.specs.declared.plain.VState.{VState}
use Rattle.fg_build.specs.declared.opened.Opened.{Opened}
use Rattle.fg_build.specs.ToldImage.{graph_over}
use Rattle.fg_cache.specs.Closing.{LeastRisen}
use Rattle.fg_image.specs.Lists.{graph_by}
use Rattle.fg_model.specs.declared.run.End.{End}
use Rattle.fg_model.specs.declared.run.RunFault.{RunFault}
use Rattle.fg_model.specs.declared.watch.IterLine.{IterLine}
use Rattle.fg_model.specs.Engine.{IsWhole, ShownAs, TellsEnd, TellsFaults}
use Rattle.fg_model.specs.Iteration.{AreStates, Begun}
use Rattle.fg_model.specs.Run.{Finished, Run}
use Rattle.fg_model.specs.Watch.{ShownAll, ShownSome, told_of}
use Rattle.fg_engine.specs.Settled.{settled}
use Rattle.fg_engine.specs.Tallies.{RoseWithin, tallied}
use Rattle.fg_engine.specs.Told.{TellsWhose, WhereNoneFailed}

-- whose count rose
pub whose-settled : {D : Type 0} (faults : D → ℕ) (olds news : List D) (old new : ℕ) (answer : Result End RunFault) (failed : Option ℕ) → LeastRisen faults failed olds news
    → TellsFaults answer (Unit {0}) (λ _. Unit {0}) old new → TellsWhose faults (settled answer failed) olds news old new
whose-settled faults olds news old new (Ok end) None least tells = (least, tells.1)
whose-settled faults olds news old new (Ok end) (Some drive) least tells = (least, tells.1)
whose-settled faults olds news old new (Err RunFault.Memory) None least tells = (least, tells.1)
whose-settled faults olds news old new (Err RunFault.Memory) (Some drive) least tells = (least, tells.1)
whose-settled faults olds news old new (Err (RunFault.Drive other)) None least tells = (least, tells.1)
whose-settled faults olds news old new (Err (RunFault.Drive other)) (Some drive) least tells = (least, tells.1)
whose-settled faults olds news old new (Err (RunFault.BadEdge bad)) None least tells = (least, tells.1)
whose-settled faults olds news old new (Err (RunFault.BadEdge bad)) (Some drive) least tells = (least, tells.1)
whose-settled faults olds news old new (Err RunFault.Watch) None least tells = ((None, least), tells.1)
whose-settled faults olds news old new (Err RunFault.Watch) (Some drive) least tells = ((Some drive, least), tells.1)

-- the end
pub end-settled : (run : Run) (answer : Result End RunFault) (failed : Option ℕ) → TellsEnd answer run → TellsEnd (settled answer failed) run
end-settled run (Ok end) None tells = tells
end-settled run (Ok end) (Some drive) tells = tt
end-settled run (Err RunFault.Memory) None tells = tt
end-settled run (Err RunFault.Memory) (Some drive) tells = tt
end-settled run (Err (RunFault.Drive other)) None tells = tt
end-settled run (Err (RunFault.Drive other)) (Some drive) tells = tt
end-settled run (Err (RunFault.BadEdge bad)) None tells = tells
end-settled run (Err (RunFault.BadEdge bad)) (Some drive) tells = tt
end-settled run (Err RunFault.Watch) None tells = tt
end-settled run (Err RunFault.Watch) (Some drive) tells = tt

-- what was shown
module _ {N : Type 0} (told : IterLine → List VState → List N) (finished : List Finished) (old new : Option (List N)) where
  some-all : ShownAll told finished old new → ShownSome told finished old new
  some-all shown = (length finished, subst (λ (some : List Finished). ShownAll told some old new) (sym (take_all (length finished) finished (omega arith))) shown)

  pub shown-settled : (answer : Result End RunFault) (failed : Option ℕ) → ShownAs answer told finished old new → ShownAs (settled answer failed) told finished old new
  shown-settled (Ok end) None shown = shown
  shown-settled (Ok end) (Some drive) shown = some-all shown
  shown-settled (Err RunFault.Memory) None shown = shown
  shown-settled (Err RunFault.Memory) (Some drive) shown = shown
  shown-settled (Err (RunFault.Drive other)) None shown = shown
  shown-settled (Err (RunFault.Drive other)) (Some drive) shown = shown
  shown-settled (Err (RunFault.BadEdge bad)) None shown = shown
  shown-settled (Err (RunFault.BadEdge bad)) (Some drive) shown = some-all shown
  shown-settled (Err RunFault.Watch) None shown = shown
  shown-settled (Err RunFault.Watch) (Some drive) shown = shown

pub shown-none : {N : Type 0} (told : IterLine → List VState → List N) (finished : List Finished) (notes : Option (List N)) → ShownSome told finished notes notes
unfolding told_of
shown-none told finished notes = (0, sym (grown-nil notes))

-- a whole answer was whole before
pub whole-settled : (answer : Result End RunFault) (failed : Option ℕ) → IsWhole (settled answer failed) → IsWhole answer
whole-settled (Ok end) None whole = tt
whole-settled (Ok end) (Some drive) whole = tt
whole-settled (Err RunFault.Memory) None whole = absurd whole
whole-settled (Err RunFault.Memory) (Some drive) whole = absurd whole
whole-settled (Err (RunFault.Drive other)) None whole = absurd whole
whole-settled (Err (RunFault.Drive other)) (Some drive) whole = absurd whole
whole-settled (Err (RunFault.BadEdge bad)) None whole = tt
whole-settled (Err (RunFault.BadEdge bad)) (Some drive) whole = tt
whole-settled (Err RunFault.Watch) None whole = absurd whole
whole-settled (Err RunFault.Watch) (Some drive) whole = absurd whole

-- a fact of an end
pub ok-settled : (Q : End → Type 0) (answer : Result End RunFault) (failed : Option ℕ) → IfOk answer Q → IfOk (settled answer failed) Q
ok-settled Q (Ok end) None fact = fact
ok-settled Q (Ok end) (Some drive) fact = tt
ok-settled Q (Err RunFault.Memory) None fact = tt
ok-settled Q (Err RunFault.Memory) (Some drive) fact = tt
ok-settled Q (Err (RunFault.Drive other)) None fact = tt
ok-settled Q (Err (RunFault.Drive other)) (Some drive) fact = tt
ok-settled Q (Err (RunFault.BadEdge bad)) None fact = tt
ok-settled Q (Err (RunFault.BadEdge bad)) (Some drive) fact = tt
ok-settled Q (Err RunFault.Watch) None fact = tt
ok-settled Q (Err RunFault.Watch) (Some drive) fact = tt

-- a fact where the run ended, by what holds where the workers' run did
pub then-settled : (Q R : Type 0) (answer : Result End RunFault) (failed : Option ℕ) → (Q → R) → OnOk answer Q → OnOk (settled answer failed) R
then-settled Q R (Ok end) None then_ fact = then_ fact
then-settled Q R (Ok end) (Some drive) then_ fact = tt
then-settled Q R (Err RunFault.Memory) None then_ fact = tt
then-settled Q R (Err RunFault.Memory) (Some drive) then_ fact = tt
then-settled Q R (Err (RunFault.Drive other)) None then_ fact = tt
then-settled Q R (Err (RunFault.Drive other)) (Some drive) then_ fact = tt
then-settled Q R (Err (RunFault.BadEdge bad)) None then_ fact = tt
then-settled Q R (Err (RunFault.BadEdge bad)) (Some drive) then_ fact = tt
then-settled Q R (Err RunFault.Watch) None then_ fact = tt
then-settled Q R (Err RunFault.Watch) (Some drive) then_ fact = tt

-- a fact where no drive failed
pub none-settled : (fact : Type 0) (answer : Result End RunFault) (failed : Option ℕ) → (failed ≡ None → fact) → WhereNoneFailed (settled answer failed) fact
none-settled fact (Ok end) None holds = holds refl
none-settled fact (Ok end) (Some drive) holds = tt
none-settled fact (Err RunFault.Memory) None holds = holds refl
none-settled fact (Err RunFault.Memory) (Some drive) holds = tt
none-settled fact (Err (RunFault.Drive other)) None holds = holds refl
none-settled fact (Err (RunFault.Drive other)) (Some drive) holds = tt
none-settled fact (Err (RunFault.BadEdge bad)) None holds = holds refl
none-settled fact (Err (RunFault.BadEdge bad)) (Some drive) holds = tt
none-settled fact (Err RunFault.Watch) None holds = tt
none-settled fact (Err RunFault.Watch) (Some drive) holds = tt

-- an end has few states
pub few-states : (opened : Opened) (image : List ℕ) (answer : Result End RunFault) → length opened.index.outs ≤ 2 ^ 24
    → IfOk answer (λ end. AreStates (graph_over opened image).n end.states) → IfOk answer (λ end. length end.states ≤ 2 ^ 24)
unfolding graph_by
few-states opened image (Err fault) few known = tt
few-states opened image (Ok end) few known = omega (arith, known.state_count, few)

-- a tally that stands, where nothing began
pub none-began : (all : List Begun) (runs entries : ℕ) → RoseWithin ⊥ all (tallied runs runs entries entries)
none-began all runs entries = record {
  begun = [];
  are_first = (0, refl);
  are_all = λ never. absurd never;
  rose = record {
    runs = record { at_least = omega arith; at_most = omega arith };
    entries = record { at_least = omega arith; at_most = omega arith };
  };
}
