use Rattle.std.proofs.Common.{◌≡◌, rules}
use Rattle.fg_part.specs.PartMap.{blocks_in}
use Rattle.fg_part.proofs.PartMapLaws.{counted, is_block}
use Rattle.fg_part.proofs.part_map.PartMap.blocks.Goals as goal

answer_is : (c : goal.After-div_ceil) → c.div_ceil.result ≡ blocks_in c.args.self.now c.args.part
answer_is c = search rules

pub returns-clause-all : goal.returns-clause-all
returns-clause-all c k block = rw (answer_is c) (counted c.args.self.now c.args.self.now.some_parts c.args.part k block)

pub returns-clause-each : goal.returns-clause-each
returns-clause-each c k below =
    is_block c.args.self.now c.args.self.now.some_parts c.args.part k (rw (answer_is c) at below)
