use Rattle.fg_walks.proofs.WalkLaws.{levels_are_least, levels_are_whole}
use Rattle.fg_walks.proofs.least_walks.Bfs.levels_are_least_lengths.Goals as goal

pub returns : goal.returns
returns c = record { law = levels_are_least c.args.self.source; whole = levels_are_whole c.args.self.source }
