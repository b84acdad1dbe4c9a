use Rattle.std.proofs.Common.{◌≡◌, All}
use Rattle.fg_model.specs.Program.{IsInRange}
use Rattle.fg_engine.proofs.StartLaws.{opening_below}
use Rattle.fg_engine.proofs.starting.opening_states.Given as goal

abbrev pub invariant-loop-v : goal.invariant-loop-v
invariant-loop-v g l =
    record {
      states_so_far : l.states.items ≡ opening_below (g.P.Program.rules l.program) l.opened l.v;
      states_fit : All IsInRange l.states.items;
    }
