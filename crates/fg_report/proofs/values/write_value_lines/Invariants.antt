-- The count stood still so far, and the lines of the states so far were written.
use Rattle.std.proofs.Common.{◌≡◌, ℕ, List, ◌++◌, drop}
use Rattle.fg_base.specs.Told.{grown}
use Rattle.fg_report.specs.Values.{value_lines, value_lines_from}
use Rattle.fg_report.proofs.values.write_value_lines.Given as goal

abbrev pub invariant-loop-v : goal.invariant-loop-v
invariant-loop-v g l =
    let show = (g.P.Program.rules l.program).show in
    (g.K.Sink.faults l.out ≡ g.K.Sink.faults l.fn.out)
    × ((done : List ℕ)
    × (g.K.Sink.written l.out ≡ grown (g.K.Sink.written l.fn.out) done)
    × (value_lines show l.states ≡ done ++ value_lines_from show l.v (drop l.v l.states)))
