use Rattle.fg_greatest.proofs.Greatests.{values_are_greatest}
use Rattle.fg_greatest.proofs.greatest.Greatest.values_are_greatest_reaching.Goals as goal

pub returns : goal.returns
returns c = values_are_greatest
