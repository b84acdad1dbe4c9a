-- The vertices of all blocks in order are all vertices.
use Rattle.std.proofs.Common.{◌≡◌, ℕ, zero, suc, ◌+◌, ◌*◌, ◌-◌, ◌<◌, ◌≤◌, Bool, true, false, List, [], ◌++◌, min, ap, ap₂, subst, sym, ◌∙◌, arith, append-nil, inl, inr}
use Rattle.std.proofs.Math.Nat.{mul-le-mul_left, suc-mul}
use Rattle.std.proofs.lemmas.Grind.{div_ceil_times}
use Rattle.std.proofs.lemmas.List.Elements.{filter-append}
use Rattle.std.proofs.lemmas.Nat.{pow_pos}
use Rattle.std.proofs.lemmas.Bool.{cases_lt}
use Rattle.std.proofs.lemmas.Bool.Decides.{nat_tests}
use Rattle.std.specs.Prelude.{◌==◌, All, filter}
use Rattle.std.specs.List.{flat_map, range_with_len}
use Rattle.fg_iter.proofs.ListLaws.{all_in_range, filter-all, filter-none, range-joined, range-split}
use Rattle.fg_task.specs.Block.{block_vertices}
use Rattle.fg_part.proofs.Ceilings.{product_below}
use Rattle.fg_part.proofs.PartMapLaws.{in_its_block, in_one_block}
use Rattle.fg_part.specs.declared.part_map.PartMap.{PartMap}
use Rattle.fg_part.specs.PartMap.{StandsIn, block_of, block_size, block_total}

module _ (map : PartMap) where
  abbrev size : ℕ
  size = block_size map

  some : 0 < size
  some = pow_pos map.shift

  -- what holds of each vertex that stands in a block
  pub all_in_block : (P : ℕ → Type 0) (b : ℕ) → ((v : ℕ) → StandsIn map b v → P v) → All P (block_vertices map b)
  unfolding block_vertices
  all_in_block P b holds =
      all_in_range P (b * size) (min size (map.n - b * size))
      (λ v from below. holds v (record { vertex = omega (arith, from, below); after = omega (arith, from); before = omega (arith, from, below) }))

  -- the vertices of blocks in a row
  row_of_blocks : (b k : ℕ) → flat_map (block_vertices map) (range_with_len b k) ≡ range_with_len (b * size) (min (k * size) (map.n - b * size))
  unfolding block_vertices
  row_of_blocks b zero = let none : 0 ≡ min (0 * size) (map.n - b * size) = omega arith in ap (range_with_len (b * size)) none
  row_of_blocks b (suc k) =
      let next : (b + 1) * size ≡ b * size + size = (let e : b + 1 ≡ suc b = omega arith in ap (λ (x : ℕ). x * size) e) ∙ suc-mul b size in
      let more : suc k * size ≡ k * size + size = suc-mul k size in
      let here = min size (map.n - b * size) in
      let behind = min (k * size) (map.n - (b + 1) * size) in
      let all : min (suc k * size) (map.n - b * size) ≡ here + behind = omega (arith, next, more) in
      ap (λ (l : List ℕ). range_with_len (b * size) here ++ l) (row_of_blocks (b + 1) k)
      ∙ range-joined (b * size) ((b + 1) * size) here behind (min (suc k * size) (map.n - b * size)) all (λ left. omega (arith, left, next))

  -- the vertices of all blocks
  pub all_blocks : (k : ℕ) → k ≡ block_total map → flat_map (block_vertices map) (range_with_len 0 k) ≡ range_with_len 0 map.n
  all_blocks k is =
      let ends : map.n ≤ k * size = subst (λ (j : ℕ). map.n ≤ j * size) (sym is) (div_ceil_times map.n size some).0 in
      let start : 0 * size ≡ 0 = omega arith in
      let all : min (k * size) (map.n - 0 * size) ≡ map.n = omega (arith, ends, start) in
      row_of_blocks 0 k ∙ ap₂ range_with_len start all

  -- there are no more blocks than vertices
  pub few_blocks : block_total map ≤ map.n
  few_blocks = elim (cases_lt map.n (block_total map)) [
    | inl over ↦
        let product : map.n * size < map.n = product_below map.n map.n size some over in
        let most : map.n * 1 ≤ map.n * size = mul-le-mul_left map.n some in
        absurd (omega (arith, product, most))
    | inr less ↦ less
  ]

  in_row : (b v : ℕ) → StandsIn map b v → (block_of map v == b) ≡ true
  in_row b v stands = let own = in_one_block map b v stands in grind (arith, nat_tests)

  elsewhere : (b v : ℕ) → (b ≡ block_of map v → ⊥) → (block_of map v == b) ≡ false
  elsewhere b v other = grind (arith, nat_tests)

  -- the vertices of a block are those of which it is the block
  pub of_block : (b : ℕ) → b < block_total map → filter (λ v. block_of map v == b) (range_with_len 0 map.n) ≡ block_vertices map b
  unfolding block_vertices
  of_block b below =
      let own : ℕ → Bool = λ v. block_of map v == b in
      let start = b * size in
      let count = min size (map.n - start) in
      let rest = map.n - start - count in
      let begins : start < map.n = product_below b map.n size some below in
      let all : map.n ≡ start + (count + rest) = omega (arith, begins) in
      let here : 0 + start ≡ start = omega arith in
      let before = range_with_len 0 start in
      let block = range_with_len start count in
      let behind = range_with_len (start + count) rest in
      let pieces : range_with_len 0 map.n ≡ before ++ (block ++ behind) =
      ap (range_with_len 0) all ∙ range-split 0 start (count + rest) ∙ ap (λ (a : ℕ). before ++ range_with_len a (count + rest)) here
      ∙ ap (λ (l : List ℕ). before ++ l) (range-split start count rest) in
      let none_before : filter own before ≡ [] =
      filter-none own before (all_in_range (λ v. own v ≡ false) 0 start (λ v from under. elsewhere b v (λ is.
      let stands = in_its_block map v (omega (arith, under, begins)) in
      let same : b * size ≡ block_of map v * size = ap (λ (x : ℕ). x * size) is in
      omega (arith, same, stands.after, under)))) in
      let all_own : filter own block ≡ block = filter-all own block (all_in_block (λ v. own v ≡ true) b (λ v stands. in_row b v stands)) in
      let none_behind : filter own behind ≡ [] =
      filter-none own behind (all_in_range (λ v. own v ≡ false) (start + count) rest (λ v from under. elsewhere b v (λ is.
      let stands = in_its_block map v (omega (arith, under, all)) in
      let same : b * size ≡ block_of map v * size = ap (λ (x : ℕ). x * size) is in
      omega (arith, same, stands.before, from, under, all)))) in
      ap (filter own) pieces ∙ filter-append own before (block ++ behind)
      ∙ ap₂ (λ (l m : List ℕ). l ++ m) none_before (filter-append own block behind ∙ ap₂ (λ (l m : List ℕ). l ++ m) all_own none_behind ∙ append-nil block)
