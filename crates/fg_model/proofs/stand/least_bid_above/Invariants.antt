use Rattle.std.proofs.Common.{◌≡◌, drop}
use Rattle.fg_model.specs.Run.{least_bid_above, lesser}
use Rattle.fg_model.proofs.stand.least_bid_above.Given as goal

abbrev pub invariant-loop-s : goal.invariant-loop-s
invariant-loop-s g l = lesser l.least (least_bid_above (g.P.Program.rules l.program) l.phase (drop l.s-index l.states)) ≡ least_bid_above (g.P.Program.rules l.program) l.phase l.states
