use Rattle.fg_part.proofs.PartMapLaws.{block_below}
use Rattle.fg_part.proofs.part_map.PartMap.block_of.Goals as goal

pub returns-clause-within : goal.returns-clause-within
returns-clause-within c = block_below c.args.self.now c.args.v c.requires
