use Rattle.std.proofs.Common.{◌≡◌, ◌-◌, ◌≤◌, [], length}
use Rattle.fg_model.specs.Iteration.{Begun}
use Rattle.fg_model.specs.Program.{Rules}
use Rattle.fg_model.specs.Run.{stand, stand_from}
use Rattle.fg_model.proofs.StandLemmas.{bids_above}
use Rattle.fg_model.proofs.stand.find_stand.Given as goal

abbrev pub invariant-loop : goal.invariant-loop
invariant-loop g l = let P = g.P.Program.rules l.program in
    let first = l.initial.engine in
    let states = g.E.Engine.states_of first in
    record {
      one_states : g.E.Engine.states_of l.engine ≡ states;
      is_ready : g.E.Engine.ready l.engine P;
      one_graph : g.E.Engine.graph l.engine ≡ g.E.Engine.graph first;
      one_knows : g.E.Engine.knows l.engine ≡ g.E.Engine.knows first;
      all_allowed : (rules : Rules) (begun : Begun) → g.E.Engine.allows first rules begun → g.E.Engine.allows l.engine rules begun;
      all_kept : g.E.Engine.kept first l.engine;
      all_read : (rules : Rules) → g.E.Engine.did first l.engine rules [];
      the_end : l.end ≡ length states;
      the_stand : stand_from (l.end - l.counter) P l.risen states ≡ stand P l.phase states;
      bids_left : bids_above P l.risen states ≤ l.end - l.counter;
    }
