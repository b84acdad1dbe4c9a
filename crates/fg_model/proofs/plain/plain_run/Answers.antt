use Rattle.std.proofs.Common.{List, [], refl, sym, subst, ◌∙◌}
use Rattle.std.proofs.lemmas.Result.{err_from_is_err_and}
use Rattle.fg_base.specs.declared.plain.VState.{VState}
use Rattle.fg_model.specs.Iteration.{AreStates}
use Rattle.fg_model.specs.Run.{run}
use Rattle.fg_model.proofs.PlainLemmas.{opening_are_states}
use Rattle.fg_model.proofs.RunLemmas.{grew_none, shown_none, tally_none, tally_whole}
use Rattle.fg_model.proofs.plain.plain_run.Goals as goal

pub returns-in_err-states : goal.returns-in_err-states
returns-in_err-states g c =
    let P = g.P.Program.rules c.args.program.now in
    let watch = c.args.watch.now in
    let tally = c.args.tally.now in
    let p = err_from_is_err_and c.from_residual.result c.from_residual.ensures.1 in
    rw (p.1, p.2) (record {
      went = record {
        begun = [];
        was_read = tt;
        was_counted = tally_whole g.T.Tally.runs g.T.Tally.entries tally tally [] (tally_none (g.T.Tally.runs tally) (g.T.Tally.entries tally));
        are_first = λ knows. (0, refl);
        are_all = λ knows. absurd;
      };
      same_told = refl;
      same_borrows = g.met.W.Watch.same_borrows_none watch;
      grew = grew_none (g.W.Watch.notes watch);
      faults = (tt, refl);
      answer = tt;
      shown = shown_none (g.W.Watch.told watch) (run P c.args.graph.now c.args.max).finished (g.W.Watch.notes watch);
      ok_states = tt;
      ok_tally = tt;
    })

pub run_engine-requires-clause-are_states : goal.run_engine-requires-clause-are_states
run_engine-requires-clause-are_states g c =
    let P = g.P.Program.rules c.args.program.now in
    let of_states : List VState → Type 0 = λ s. AreStates c.args.graph.now.n s in
    subst of_states (sym (c.from_vec.ensures ∙ c.in_ok-states.ensures)) (opening_are_states P c.args.graph.now (g.met.P.Program.lawful c.args.program.now) c.requires.within)
