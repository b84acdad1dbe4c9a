use Rattle.std.proofs.Common.{◌≡◌, ◌-◌, ◌++◌}
use Rattle.fg_model.specs.Run.{opening_states}
use Rattle.fg_model.proofs.PlainLemmas.{opening_from}
use Rattle.fg_model.proofs.plain.open_states.Given as goal

abbrev pub invariant-loop-v : goal.invariant-loop-v
invariant-loop-v g l =
    let P = g.P.Program.rules l.program in
    record {
      the_end : l.v-end ≡ l.graph.n;
      rest_opening : l.states.items ++ opening_from l.v (l.graph.n - l.v) P l.graph ≡ opening_states P l.graph;
    }
