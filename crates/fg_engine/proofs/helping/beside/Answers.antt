use Rattle.std.proofs.Common.{rules}
use Rattle.fg_engine.proofs.HelpingLaws.{left_there}
use Rattle.fg_engine.proofs.helping.beside.Goals as goal

pub returns-clause-done : goal.returns-clause-done
returns-clause-done g c = left_there g.F.FnOnce _ _ _ _ _ _ _ _ _ c.join_mut-done.ensures.1.met.1.0 (search rules) (search rules)
