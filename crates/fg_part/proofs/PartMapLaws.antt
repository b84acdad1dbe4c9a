-- The laws of a map, for the crates above: each vertex is in one block, and each block is block k of one part.
use Rattle.std.proofs.Common.{◌≡◌, ℕ, zero, suc, ◌+◌, ◌*◌, ◌-◌, ◌/◌, ◌%◌, ◌<◌, ◌≤◌, sym, ap, ap₂, ◌∙◌, arith}
use Rattle.std.proofs.Math.Nat.{mod-lt, div-eq_of_lt-le, mul_comm, mul-le-mul_right, suc-mul}
use Rattle.std.proofs.lemmas.Nat.{pow_pos, div-add-mod', div-mul-add, mod-mul-add, mul-add-lt, same_from_place}
use Rattle.fg_part.specs.declared.part_map.PartMap.{PartMap}
use Rattle.fg_part.specs.PartMap.{block_size, block_of, part_of, block_total, blocks_in, block_at, place_of, places_in, vertex_at, StandsIn, IsBlock}
use Rattle.fg_part.proofs.Ceilings.{product_below, below_ceiling}

module _ (map : PartMap) where
  -- a vertex stands in its block, and in no other
  pub in_its_block : (v : ℕ) → v < map.n → StandsIn map (block_of map v) v
  in_its_block v vertex =
      let parts = div-add-mod' v (block_size map) in
      let rest : v % block_size map < block_size map = mod-lt v (pow_pos map.shift) in
      record { vertex = vertex; after = omega arith; before = omega arith }

  pub in_one_block : (b v : ℕ) → StandsIn map b v → b ≡ block_of map v
  in_one_block b v stands =
      sym (div-eq_of_lt-le {k = b} (block_size map) {m = v} (omega (arith, stands.after)) (omega (arith, stands.before, suc-mul b (block_size map))))

  -- a block is numbered below the total, and each number below it is a block
  pub starts_below : (b : ℕ) → IsBlock map b → b * block_size map < map.n
  starts_below b (v, stands) = omega (arith, stands.vertex, stands.after)

  pub starts : (b : ℕ) → b * block_size map < map.n → IsBlock map b
  starts b less = (b * block_size map, record { vertex = less; after = omega arith; before = omega (arith, pow_pos map.shift) })

  -- so the block of a vertex is below the total
  pub block_below : (v : ℕ) → v < map.n → block_of map v < block_total map
  block_below v vertex = below_ceiling _ _ _ (pow_pos map.shift) (starts_below _ (v, in_its_block v vertex))

  -- block k of a part is a block exactly where k is below the part's count
  pub counted : 0 < map.parts → (part k : ℕ) → IsBlock map (block_at map part k) → k < blocks_in map part
  counted some part k block =
      let below : block_at map part k < block_total map = below_ceiling _ _ _ (pow_pos map.shift) (starts_below _ block) in
      below_ceiling _ _ _ some (omega arith)

  pub is_block : 0 < map.parts → (part k : ℕ) → k < blocks_in map part → IsBlock map (block_at map part k)
  is_block some part k below =
      let less : k * map.parts < block_total map - part = product_below _ _ _ some below in
      starts _ (product_below _ _ _ (pow_pos map.shift) (omega arith))

  -- a block is block k of one part alone
  pub has_place : 0 < map.parts → (b : ℕ) → IsBlock map b → (b % map.parts < map.parts) × (b / map.parts < blocks_in map (b % map.parts)) × (block_at map (b % map.parts) (b / map.parts) ≡ b)
  has_place some b block =
      let whole = div-add-mod' b map.parts in
      (mod-lt b some, counted some (b % map.parts) (b / map.parts) (rw whole block), whole)

  pub has_one_place : (p q j k : ℕ) → p < map.parts → q < map.parts → block_at map p j ≡ block_at map q k → (p ≡ q) × (j ≡ k)
  has_one_place p q j k below under same = let both = same_from_place j p k q map.parts below under same in (both.1, both.0)

  -- a vertex has a place of its part, from which it is found again
  pub place_within : 0 < map.parts → (v : ℕ) → v < map.n → place_of map v < places_in map (part_of map v)
  place_within some v vertex =
      let at = has_place some (block_of map v) (v, in_its_block v vertex) in
      let rest : v % block_size map < block_size map = mod-lt v (pow_pos map.shift) in
      let below = mul-add-lt (block_of map v / map.parts) (block_size map) (v % block_size map) (blocks_in map (part_of map v)) at.1 rest in
      omega (arith, below, mul_comm (block_size map) (blocks_in map (part_of map v)))

  pub place_back : (v : ℕ) → vertex_at map (part_of map v) (place_of map v) ≡ v
  place_back v =
      let size = block_size map in
      let b = block_of map v in
      let rest : v % size < size = mod-lt v (pow_pos map.shift) in
      let high : place_of map v / size ≡ b / map.parts = div-mul-add (b / map.parts) size (v % size) rest in
      let low : place_of map v % size ≡ v % size = mod-mul-add (b / map.parts) size (v % size) rest in
      ap₂ (λ (k r : ℕ). block_at map (part_of map v) k * size + r) high low
      ∙ ap (λ (c : ℕ). c * size + v % size) (div-add-mod' b map.parts) ∙ div-add-mod' v size

  -- the vertex at a place of a part is of that part, and has that place
  module _ (part place : ℕ) (own : part < map.parts) where
    block_is : block_of map (vertex_at map part place) ≡ block_at map part (place / block_size map)
    block_is = div-mul-add (block_at map part (place / block_size map)) (block_size map) (place % block_size map) (mod-lt place (pow_pos map.shift))

    pub vertex_in_part : part_of map (vertex_at map part place) ≡ part
    vertex_in_part = ap (λ (b : ℕ). b % map.parts) block_is ∙ mod-mul-add (place / block_size map) map.parts part own

    pub vertex_back : place_of map (vertex_at map part place) ≡ place
    vertex_back =
        let size = block_size map in
        let low : vertex_at map part place % size ≡ place % size = mod-mul-add (block_at map part (place / size)) size (place % size) (mod-lt place (pow_pos map.shift)) in
        let high : block_of map (vertex_at map part place) / map.parts ≡ place / size =
        ap (λ (b : ℕ). b / map.parts) block_is ∙ div-mul-add (place / size) map.parts part own in
        ap₂ (λ (k r : ℕ). k * size + r) high low ∙ div-add-mod' place size

  -- the places of a part are hardly more than the vertices
  pub few_places : 0 < map.parts → (part : ℕ) → places_in map part < map.n + block_size map
  few_places some part = count (blocks_in map part) (is_block some part)
    where
      count : (k : ℕ) → ((j : ℕ) → j < k → IsBlock map (block_at map part j)) → k * block_size map < map.n + block_size map
      count zero blocks = omega (arith, pow_pos map.shift)
      count (suc j) blocks =
          let starts = starts_below (block_at map part j) (blocks j (omega arith)) in
          let more : j ≤ block_at map part j = times map.parts some in
          let steps : j * block_size map ≤ block_at map part j * block_size map = mul-le-mul_right (block_size map) more in
          omega (arith, suc-mul j (block_size map))
        where
          times : (w : ℕ) → 0 < w → j ≤ j * w + part
          times w pos = let once : 1 * j ≤ w * j = mul-le-mul_right j pos in omega (arith, mul_comm w j)
