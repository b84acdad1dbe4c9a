use Rattle.fg_part.proofs.PartMapLaws.{is_block, has_one_place}
use Rattle.fg_part.proofs.part_map.PartMap.block.Goals as goal

pub returns-clause-is_block : goal.returns-clause-is_block
returns-clause-is_block c = is_block c.args.self.now c.args.self.now.some_parts _ _ c.requires.within

pub returns-clause-alone : goal.returns-clause-alone
returns-clause-alone c p j below same = has_one_place c.args.self.now p c.args.part j c.args.k below c.requires.part same
