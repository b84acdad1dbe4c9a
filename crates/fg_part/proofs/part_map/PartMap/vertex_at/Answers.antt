use Rattle.std.proofs.Common.{◌≡◌, ◌+◌, ◌*◌, ◌%◌, ◌^◌, ap, ◌∙◌, rules}
use Rattle.fg_part.specs.PartMap.{part_of, place_of, vertex_at}
use Rattle.fg_part.proofs.PartMapLaws.{vertex_back, vertex_in_part}
use Rattle.fg_part.proofs.part_map.PartMap.vertex_at.Goals as goal

value : (c : goal.After-block-block) → c.block-block.result * 2 ^ c.args.self.now.shift % 4294967296 + c.args.place % (1 * 2 ^ c.args.self.now.shift % 4294967296) ≡ vertex_at c.args.self.now c.args.part c.args.place
value c = search rules

pub returns-clause-in_part : goal.returns-clause-in_part
returns-clause-in_part c below =
    let map = c.args.self.now in
    ap (part_of map) (value c) ∙ vertex_in_part map c.args.part c.args.place c.requires.part

pub returns-clause-back : goal.returns-clause-back
returns-clause-back c below =
    let map = c.args.self.now in
    ap (place_of map) (value c) ∙ vertex_back map c.args.part c.args.place c.requires.part
