use Rattle.fg_comps.proofs.Wccs.{values_are_least}
use Rattle.fg_comps.proofs.wcc.Wcc.values_are_least_connected.Goals as goal

pub returns : goal.returns
returns c = values_are_least
