use Rattle.fg_walks.proofs.WalkLaws.{values_are_least, weights_are_whole}
use Rattle.fg_walks.proofs.least_walks.Sssp.values_are_least_weights.Goals as goal

pub returns : goal.returns
returns c = record { law = values_are_least c.args.self.source; whole = weights_are_whole c.args.self.source }
