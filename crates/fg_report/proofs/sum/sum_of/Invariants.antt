-- The values of the states so far were added, each below 2^64.
use Rattle.std.proofs.Common.{◌≡◌, ◌≤◌, ◌*◌, ◌^◌, take}
use Rattle.fg_report.specs.Sum.{values_sum}
use Rattle.fg_report.proofs.sum.sum_of.Given as goal

abbrev pub invariant-loop-state : goal.invariant-loop-state
invariant-loop-state g l =
    let show = (g.P.Program.rules l.program).show in
    (l.sum ≡ values_sum show (take l.state-index l.states)) × (l.sum ≤ 2 ^ 64 * l.state-index)
