use Rattle.std.proofs.Common.{◌≡◌, ℕ, ◌+◌, ◌*◌, ◌/◌, ◌%◌, ◌^◌, ◌<◌, ◌≤◌, subst, sym, ap, ap₂, ◌∙◌, arith}
use Rattle.std.proofs.Math.Nat.{pow-le-pow_right}
use Rattle.fg_part.specs.PartMap.{block_of, block_size, part_of, place_of, places_in, vertex_at}
use Rattle.fg_part.proofs.PartMapLaws.{few_places, place_back, place_within}
use Rattle.fg_part.proofs.part_map.PartMap.place_of.Goals as goal

small : (shift : ℕ) → shift ≤ 16 → 2 ^ shift ≤ 65536
small shift below = let one : 0 < 2 = omega arith in pow-le-pow_right one {j = 16} below

one_block : (size : ℕ) → size ≤ 65536 → 1 * size % 4294967296 ≡ size
one_block size below = omega (arith, below)

whole : (x : ℕ) → x < 4294967296 → x % 4294967296 ≡ x
whole x below = omega (arith, below)

value : (c : goal.After-block_of) → c.block_of.result / c.args.self.now.parts * 2 ^ c.args.self.now.shift % 4294967296 + c.args.v % (1 * 2 ^ c.args.self.now.shift % 4294967296) ≡ place_of c.args.self.now c.args.v
value c =
    let map = c.args.self.now in
    let v = c.args.v in
    let size = small map.shift map.small_blocks in
    let within = place_within map map.some_parts v c.requires in
    let few = few_places map map.some_parts (part_of map v) in
    let start : block_of map v / map.parts * block_size map < 4294967296 = omega (arith, within, few, size, map.few_vertices) in
    ap (λ (b : ℕ). b / map.parts * 2 ^ map.shift % 4294967296 + v % (1 * 2 ^ map.shift % 4294967296)) c.block_of.ensures.value
    ∙ ap₂ (λ (x y : ℕ). x + v % y) (whole (block_of map v / map.parts * block_size map) start) (one_block (2 ^ map.shift) size)

pub returns-clause-value : goal.returns-clause-value
returns-clause-value c = value c

pub returns-clause-within : goal.returns-clause-within
returns-clause-within c =
    let map = c.args.self.now in
    subst (λ p. p < places_in map (part_of map c.args.v)) (sym (value c)) (place_within map map.some_parts c.args.v c.requires)

pub returns-clause-back : goal.returns-clause-back
returns-clause-back c =
    let map = c.args.self.now in
    ap (vertex_at map (part_of map c.args.v)) (value c) ∙ place_back map c.args.v
