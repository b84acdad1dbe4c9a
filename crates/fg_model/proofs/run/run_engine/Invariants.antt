use Rattle.std.proofs.Common.{◌≡◌, ◌+◌, ◌*◌, ◌≤◌, true, List}
use Rattle.fg_model.specs.Iteration.{AreStates, Begun}
use Rattle.fg_model.specs.Program.{Rules}
use Rattle.fg_model.specs.Run.{Finished}
use Rattle.fg_model.specs.Watch.{Grew}
use Rattle.fg_model.proofs.RunLemmas.{Known, TallyRose, begun_in}
use Rattle.fg_model.proofs.run.run_engine.Given as goal

abbrev pub invariant-loop-number : goal.invariant-loop-number
invariant-loop-number g l =
    let P = g.P.Program.rules l.program in
    let first = l.initial.engine in
    let graph = g.E.Engine.graph first in
    record {
      is_ready : g.E.Engine.ready l.engine P;
      one_graph : g.E.Engine.graph l.engine ≡ graph;
      one_knows : g.E.Engine.knows l.engine ≡ g.E.Engine.knows first;
      all_allowed : (rules : Rules) (begun : Begun) → g.E.Engine.allows first rules begun → g.E.Engine.allows l.engine rules begun;
      all_kept : g.E.Engine.kept first l.engine;
      one_told : g.W.Watch.told l.watch ≡ g.W.Watch.told l.initial.watch;
      one_borrows : g.W.Watch.same_borrows l.initial.watch l.watch;
      grew : Grew (g.W.Watch.notes l.initial.watch) (g.W.Watch.notes l.watch);
      one_count : g.W.Watch.faults l.watch ≡ g.W.Watch.faults l.initial.watch;
      are_states : AreStates graph.n (g.E.Engine.states_of l.engine);
      runs_room : g.T.Tally.runs l.tally ≤ g.T.Tally.runs l.initial.tally + l.number * 16777216;
      entries_room : g.T.Tally.entries l.tally ≤ g.T.Tally.entries l.initial.tally + l.number * 134217728;
      has_begun : (begun : List Begun) × (g.E.Engine.did first l.engine P begun)
          × TallyRose begun (g.T.Tally.runs l.initial.tally) (g.T.Tally.runs l.tally) (g.T.Tally.entries l.initial.tally) (g.T.Tally.entries l.tally)
          × (g.E.Engine.knows first ≡ true → (done : List Finished) × (begun ≡ begun_in done)
          × Known P graph l.max (g.W.Watch.told l.initial.watch) done l.number l.phase (g.E.Engine.states_of l.engine) (g.W.Watch.notes l.initial.watch) (g.W.Watch.notes l.watch)
          (g.T.Tally.runs l.initial.tally) (g.T.Tally.runs l.tally) (g.T.Tally.entries l.initial.tally) (g.T.Tally.entries l.tally));
    }
