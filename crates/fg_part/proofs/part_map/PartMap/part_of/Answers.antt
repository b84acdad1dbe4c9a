use Rattle.std.proofs.Common.{◌/◌}
use Rattle.fg_part.specs.PartMap.{block_of}
use Rattle.fg_part.proofs.PartMapLaws.{in_its_block, has_place}
use Rattle.fg_part.proofs.part_map.PartMap.part_of.Goals as goal

pub returns-clause-placed : goal.returns-clause-placed
returns-clause-placed c =
    let map = c.args.self.now in
    let place = has_place map map.some_parts (block_of map c.args.v) (c.args.v, in_its_block map c.args.v c.requires) in
    rw c.block_of.ensures.value (block_of map c.args.v / map.parts, place.1, place.2)
