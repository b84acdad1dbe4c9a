use Rattle.std.proofs.Common.{ℕ, ◌+◌, ◌≤◌, ◌≡◌, Option, Result, List, ap, refl, sym, subst, ◌∙◌}
use Rattle.std.specs.Prelude.{All, IfOk, OnOk, true}
use denote.Param.Send.{sendable}
use denote.Ref.{Bor}
use Rattle.fg_crew.specs.declared.slot.Slot.{Slot}
use Rattle.fg_crew.specs.Slots.{Has}
use Rattle.fg_iter.proofs.RunLaws.{end_whole, faults_whole, first_crew, found_back, if_whole, lent_back, on_whole, shown_whole, visits_whole, weights_stay, went_none, went_whole}
use Rattle.fg_iter.specs.Crew.{IsCrew, IsSettled, hits_in}
use Rattle.fg_iter.specs.declared.crew.Crew.{Crew}
use Rattle.fg_iter.specs.declared.running.CrewRun.{CrewRun}
use Rattle.fg_iter.specs.Engine.{visits_of_all}
use Rattle.fg_model.proofs.RunLemmas.{shown_none}
use Rattle.fg_model.specs.declared.run.End.{End}
use Rattle.fg_model.specs.declared.run.RunFault.{RunFault}
use Rattle.fg_model.specs.Engine.{HasTallied, ShownAs, TallyRoseWith, TellsEnd, Went, begun_in}
use Rattle.fg_model.specs.Iteration.{AreStates, Begun}
use Rattle.fg_model.specs.Run.{run}
use Rattle.fg_iter.proofs.running.run_by_crew.Goals as goal

pub returns-in_default-clause-went : goal.returns-in_default-clause-went
returns-in_default-clause-went g c =
    let lists = g.B.RunsOn.lists c.args.runner.now in
    let all = begun_in (g.P.Program.rules c.args.program.now) lists.graph c.args.max in
    let rose = TallyRoseWith g.T.Tally.runs g.T.Tally.entries c.args.tally.now c.args.tally.now in
    subst (λ (answer : Result End RunFault). Went (λ begun. Unit {0}) rose lists.knows answer all)
    (sym (ap (λ (run : CrewRun _ _). run.answer) c.without_memory.ensures))
    (went_none g.T.Tally.runs g.T.Tally.entries c.args.tally.now lists.knows all)

pub returns-in_default-clause-shown : goal.returns-in_default-clause-shown
returns-in_default-clause-shown g c =
    let told = g.W.Watch.told c.args.watch.now in
    let all = (run (g.P.Program.rules c.args.program.now) (g.B.RunsOn.lists c.args.runner.now).graph c.args.max).finished in
    let notes = g.W.Watch.notes c.args.watch.now in
    λ known. subst (λ (answer : Result End RunFault). ShownAs answer told all notes notes)
    (sym (ap (λ (run : CrewRun _ _). run.answer) c.without_memory.ensures)) (shown_none told all notes)

pub returns-clause-shown : goal.returns-clause-shown
returns-clause-shown g c =
    let ran = c.run_engine-answer in
    let told = g.W.Watch.told c.args.watch.now in
    let all = (run (g.P.Program.rules c.args.program.now) (g.B.RunsOn.lists c.args.runner.now).graph c.args.max).finished in
    let old = g.W.Watch.notes c.args.watch.now in
    let new = g.W.Watch.notes ran.new.watch in
    λ known. subst (λ (answer : Result End RunFault). ShownAs answer told all old new) (sym (ap (λ (run : CrewRun _ _). run.answer) c.finish.ensures))
    (shown_whole ran.new.engine.cut_short ran.result told all old new (ran.ensures.shown known))

pub returns-clause-lent : goal.returns-clause-lent
returns-clause-lent g c =
    let ran = c.run_engine-answer in
    let done = ran.ensures.went.was_read in
    let same_map = ap (λ made. made.inboxes.map) c.new-2.ensures ∙ c.in-Ok.ensures.map in
    lent_back g.B.RunsOn.lends c.args.runner.now ran.new.engine.runner.now c.args.map ran.new.engine.crew.inboxes.map
    ran.new.engine.crew.slots.items c.finish.result.slots.items
    (ap (λ runner. runner.now) done.0) (done.1.same.map ∙ same_map) (ap (λ (run : CrewRun _ _). run.slots.items) c.finish.ensures)
    ran.ensures.stays_ready.is_crew.lent

pub returns-clause-settled : goal.returns-clause-settled
returns-clause-settled g c =
    let ran = c.run_engine-answer in
    subst (λ (slots : List (Slot g.row.K.Denot g.row.B-Fault.Denot)). All (λ (slot : Slot g.row.K.Denot g.row.B-Fault.Denot). IsSettled (g.B.RunsOn.spent slot.kept)) slots)
    (sym (ap (λ (run : CrewRun _ _). run.slots.items) c.finish.ensures)) ran.ensures.stays_ready.is_crew.settled

pub run_engine-answer-requires-clause-is_ready : goal.run_engine-answer-requires-clause-is_ready
run_engine-answer-requires-clause-is_ready g c =
    let rules = g.P.Program.rules in
    let runs = g.B.RunsOn in
    let made = c.new-2.ensures in
    let outfit = c.in-Ok.ensures in
    let same_program = ap (λ one. one.inboxes.program) made ∙ outfit.program in
    let same_map = ap (λ one. one.inboxes.map) made ∙ outfit.map in
    record {
      limits = c.requires.limits;
      vertices = ap (λ map. map.n) same_map ∙ c.requires.vertices;
      program = ap rules same_program;
      is_crew = subst (λ (one : Crew _ _ _). IsCrew rules (runs.lends c.args.runner.now) runs.spent one) (sym made)
          (first_crew rules (runs.lends c.args.runner.now) runs.spent _ c.args.program.now c.args.map outfit.program outfit.map refl outfit.marks
          c.requires.workers c.requires.lent c.requires.settled outfit.none);
      can_tell = record {
        may = λ phase crew small is long. (
          record { workers = is.workers.0; states = long; one_each = is.one_each; marks = is.marks },
          (search sendable depth 20, search sendable depth 20, search, search),
        );
        does = λ phase crew crew_then result post. post;
      };
      can_iterate = record {
        may = λ phase crew tally small same may. (
          may,
          (
            c.requires.limits,
            (
              weights_stay rules (runs.lists c.args.runner.now).graph c.args.program.now crew.now.inboxes.program c.args.map crew.now.inboxes.map c.args.weights.now
                  (same.program ∙ same_program) (same.map ∙ same_map) c.requires.weights,
              (search sendable depth 20, search sendable depth 20, search, search, search),
            ),
          ),
        );
        does = λ phase crew crew_then tally tally_then result post. record {
          ended = post.0;
          raised = post.1.0;
          visited = post.1.1.0;
          is_crew = post.1.1.1.0;
          same = post.1.1.1.1;
        };
      };
    }

pub returns-clause-went : goal.returns-clause-went
returns-clause-went g c =
    let ran = c.run_engine-answer in
    let lists = g.B.RunsOn.lists c.args.runner.now in
    let all = begun_in (g.P.Program.rules c.args.program.now) lists.graph c.args.max in
    let rose = TallyRoseWith g.T.Tally.runs g.T.Tally.entries c.args.tally.now ran.new.tally in
    subst (λ (answer : Result End RunFault). Went (λ begun. Unit {0}) rose lists.knows answer all) (sym (ap (λ (run : CrewRun _ _). run.answer) c.finish.ensures))
    (went_whole ran.new.engine.cut_short ran.result _ rose lists.knows all ran.ensures.went)

pub returns-clause-faults : goal.returns-clause-faults
returns-clause-faults g c =
    let ran = c.run_engine-answer in
    faults_whole ran.new.engine.cut_short ran.result c.finish.result.answer (ap (λ (run : CrewRun _ _). run.answer) c.finish.ensures) _ _ _ _ (g.W.Watch.faults c.args.watch.now) (g.W.Watch.faults ran.new.watch)
    (λ kept. ap (λ (run : CrewRun _ _). run.fault) c.finish.ensures ∙ kept.1)
    (λ drive failed. subst (λ (fault : Option _). Has (g.B.RunsOn.caused c.args.runner.now) fault)
    (sym (ap (λ (run : CrewRun _ _). run.fault) c.finish.ensures))
    (subst (λ (runner : Bor _). Has (g.B.RunsOn.caused runner.now) ran.new.engine.fault) failed.0 failed.1))
    ran.ensures.faults

pub returns-clause-answer : goal.returns-clause-answer
returns-clause-answer g c =
    let ran = c.run_engine-answer in
    let all = run (g.P.Program.rules c.args.program.now) (g.B.RunsOn.lists c.args.runner.now).graph c.args.max in
    λ known. subst (λ (answer : Result End RunFault). TellsEnd answer all) (sym (ap (λ (run : CrewRun _ _). run.answer) c.finish.ensures))
    (end_whole ran.new.engine.cut_short ran.result all (ran.ensures.answer known))

pub returns-clause-ok_states : goal.returns-clause-ok_states
returns-clause-ok_states g c =
    let ran = c.run_engine-answer in
    let fact : End → Type 0 = λ end. AreStates (g.B.RunsOn.lists c.args.runner.now).graph.n end.states in
    subst (λ (answer : Result End RunFault). IfOk answer fact) (sym (ap (λ (run : CrewRun _ _). run.answer) c.finish.ensures))
    (if_whole ran.new.engine.cut_short ran.result fact ran.ensures.ok_states)

pub returns-clause-ok_tally : goal.returns-clause-ok_tally
returns-clause-ok_tally g c =
    let ran = c.run_engine-answer in
    let lists = g.B.RunsOn.lists c.args.runner.now in
    let fact = lists.knows ≡ true → HasTallied g.T.Tally.runs g.T.Tally.entries c.args.tally.now ran.new.tally
    (run (g.P.Program.rules c.args.program.now) lists.graph c.args.max).finished in
    subst (λ (answer : Result End RunFault). OnOk answer fact) (sym (ap (λ (run : CrewRun _ _). run.answer) c.finish.ensures))
    (on_whole ran.new.engine.cut_short ran.result fact ran.ensures.ok_tally)

pub returns-clause-ok_hits : goal.returns-clause-ok_hits
returns-clause-ok_hits g c =
    let ran = c.run_engine-answer in
    let lists = g.B.RunsOn.lists c.args.runner.now in
    let rules = g.P.Program.rules c.args.program.now in
    let spent = g.B.RunsOn.spent in
    let all = begun_in rules lists.graph c.args.max in
    let visits : List Begun → ℕ = λ begun. visits_of_all lists rules c.args.map begun in
    let old = hits_in spent c.args.slots.items in
    let new = hits_in spent c.finish.result.slots.items in
    subst (λ (answer : Result End RunFault). OnOk answer (lists.knows ≡ true → old + visits all ≤ new)) (sym (ap (λ (run : CrewRun _ _). run.answer) c.finish.ensures))
    (visits_whole ran.new.engine.cut_short ran.result lists.knows all _ _ visits old new
    (λ begun done whole. found_back spent lists rules begun c.new-2.result ran.new.engine.crew c.args.map c.args.slots.items c.finish.result.slots.items
    (ap (λ one. one.inboxes.map) c.new-2.ensures ∙ c.in-Ok.ensures.map) (ap (λ one. one.slots.items) c.new-2.ensures)
    (ap (λ (run : CrewRun _ _). run.slots.items) c.finish.ensures) (done.1.hits whole))
    ran.ensures.went)
