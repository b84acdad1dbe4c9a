use Rattle.fg_engine.proofs.RunnerLaws.{desk-of}
use Rattle.fg_engine.proofs.runner.RunnerRunsOnHand.run_on.Goals as goal

pub run-requires-clause-lent : goal.run-requires-clause-lent
run-requires-clause-lent g c = (desk-of _ c.requires.lent.0 c.requires.may_run, c.requires.lent.1)
