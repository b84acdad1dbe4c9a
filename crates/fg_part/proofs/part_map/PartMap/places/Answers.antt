use Rattle.std.proofs.Common.{◌≡◌, ℕ, ◌*◌, ◌%◌, ◌^◌, ◌<◌, ◌≤◌, subst, sym, ap, ◌∙◌, arith}
use Rattle.std.proofs.Math.Nat.{pow-le-pow_right}
use Rattle.fg_part.specs.PartMap.{block_size, places_in}
use Rattle.fg_part.proofs.PartMapLaws.{few_places}
use Rattle.fg_part.proofs.part_map.PartMap.places.Goals as goal

few : (c : goal.After-blocks-2) → places_in c.args.self.now c.args.part < 16842752
few c =
    let map = c.args.self.now in
    let below = few_places map map.some_parts c.args.part in
    let one : 0 < 2 = omega arith in
    let size : block_size map ≤ 65536 = pow-le-pow_right one {j = 16} map.small_blocks in
    omega (arith, below, size, map.few_vertices)

whole : (x : ℕ) → x < 16842752 → x % 4294967296 ≡ x
whole x below = omega arith

value : (c : goal.After-blocks-2) → c.blocks-2.result * 2 ^ c.args.self.now.shift % 4294967296 ≡ places_in c.args.self.now c.args.part
value c =
    ap (λ (k : ℕ). k * 2 ^ c.args.self.now.shift % 4294967296) c.blocks-2.ensures.value ∙ whole (places_in c.args.self.now c.args.part) (few c)

pub returns-clause-value : goal.returns-clause-value
returns-clause-value c = value c

pub returns-clause-few : goal.returns-clause-few
returns-clause-few c = subst (λ x. x < 16842752) (sym (value c)) (few c)
