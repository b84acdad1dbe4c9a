use Rattle.fg_comps.proofs.Peeled.{values_are_core_numbers}
use Rattle.fg_comps.proofs.cores.Core.values_are_core_numbers.Goals as goal

pub returns : goal.returns
returns c = values_are_core_numbers
