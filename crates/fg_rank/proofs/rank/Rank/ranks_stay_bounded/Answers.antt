use Rattle.fg_rank.proofs.Bounds.{stays_bounded}
use Rattle.fg_rank.proofs.rank.Rank.ranks_stay_bounded.Goals as goal

pub returns : goal.returns
returns c = stays_bounded c.args.self.cut
