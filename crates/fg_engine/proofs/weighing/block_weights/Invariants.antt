use Rattle.fg_engine.proofs.WeightLaws.{AreWeighed}
use Rattle.fg_engine.proofs.weighing.block_weights.Given as goal

abbrev pub invariant-loop-block : goal.invariant-loop-block
invariant-loop-block g l = AreWeighed (g.P.Program.rules l.fn.program) l.fn.opened l.fn.map l.block l.weights.items
