-- The blocks with a mark, and their weights.
use Rattle.std.proofs.Common.{◌≡◌, ℕ, ◌+◌, ◌<◌, ◌≤◌, Bool, true, false, cond, List, [], ◌∷◌, ◌++◌, map as each, length, ap, subst, sym, ◌∙◌, arith, append-nil}
use Rattle.std.proofs.lemmas.List.{get_or-map, length-map}
use Rattle.std.proofs.lemmas.List.Elements.{All-filter, filter-append}
use Rattle.std.proofs.lemmas.List.FromFn.{get_or-range_with_len, length-range_with_len}
use Rattle.std.proofs.lemmas.List.Kept.{IsStrictlyIncreasing-filter}
use Rattle.std.specs.Prelude.{All, filter, slice_index, slice_index_or}
use Rattle.std.specs.List.{range_with_len}
use Rattle.std.specs.List.Sorted.{IsStrictlyIncreasing}
use Rattle.fg_base.specs.declared.limits.TheConstants.{MAX_VERTICES}
use Rattle.fg_crew.specs.Wave.{block_at}
use Rattle.fg_iter.proofs.BlockLaws.{few_blocks}
use Rattle.fg_iter.proofs.ListLaws.{all_in_range, length-filter_le, length-pieces_filter, range-last}
use Rattle.fg_task.specs.Block.{block_vertices, needed_of}
use Rattle.fg_iter.specs.declared.listing.Listed.{Listed}
use Rattle.fg_iter.specs.Lists.{AreBlockWeights}
use Rattle.fg_iter.specs.Marked.{AreListed, marked_blocks}
use Rattle.fg_iter.specs.Start.{Start, blocks_at}
use Rattle.fg_model.specs.Iteration.{state_at}
use Rattle.fg_model.specs.VertexRun.{edges_of}
use Rattle.fg_part.specs.declared.part_map.PartMap.{PartMap}
use Rattle.fg_part.specs.PartMap.{block_total}
use Rattle.fg_wave.specs.Cutting.{AreWeights}

module _ (marks : List Bool) where
  abbrev mark_at : ℕ → Bool
  mark_at block = slice_index_or marks block false

  abbrev pub marked_to : ℕ → List ℕ
  marked_to k = filter mark_at (range_with_len 0 k)

  -- a block that has no mark, and one that has
  pub marked-clear : (k : ℕ) → mark_at k ≡ false → marked_to (k + 1) ≡ marked_to k
  marked-clear k clear =
      ap (filter mark_at) (range-last k) ∙ filter-append mark_at (range_with_len 0 k) (k ∷ [])
      ∙ ap (λ (b : Bool). marked_to k ++ cond b (k ∷ []) []) clear ∙ append-nil (marked_to k)

  pub marked-set : (k : ℕ) → mark_at k ≡ true → marked_to (k + 1) ≡ marked_to k ++ k ∷ []
  marked-set k set =
      ap (filter mark_at) (range-last k) ∙ filter-append mark_at (range_with_len 0 k) (k ∷ [])
      ∙ ap (λ (b : Bool). marked_to k ++ cond b (k ∷ []) []) set

range-rises : (a n : ℕ) → IsStrictlyIncreasing (range_with_len a n)
range-rises a n k below =
    let within : k + 1 < n = omega (arith, below, length-range_with_len a n) in
    omega (arith, get_or-range_with_len a n k 0 (omega (arith, within)), get_or-range_with_len a n (k + 1) 0 within)

-- the listed blocks rise, are below the total, and few
module _ (map : PartMap) (marks : List Bool) (one_each : length marks ≡ block_total map) (list : List ℕ) (all_marked : list ≡ marked_blocks marks) where
  pub marked-rise : IsStrictlyIncreasing list
  marked-rise = subst IsStrictlyIncreasing (sym all_marked)
      (IsStrictlyIncreasing-filter (mark_at marks) (range_with_len 0 (length marks)) (range-rises 0 (length marks)))

  pub marked-below : All (λ (block : ℕ). block < block_total map) list
  marked-below = subst (All (λ (block : ℕ). block < block_total map)) (sym all_marked)
      (All-filter (mark_at marks) (λ (block : ℕ). block < block_total map) (range_with_len 0 (length marks))
      (all_in_range (λ block. block < block_total map) 0 (length marks) (λ block from below. omega (arith, below, one_each))))

  pub marked-few : length list ≤ MAX_VERTICES
  marked-few =
      let same : length list ≡ length (marked_blocks marks) = ap (λ (l : List ℕ). length l) all_marked in
      omega (arith, same, length-filter_le (mark_at marks) (range_with_len 0 (length marks)), length-range_with_len 0 (length marks), one_each, few_blocks map, map.few_vertices)

-- what a block needs is no more than its weight
module _ (start : Start) (weights : List ℕ) (are : AreBlockWeights start.rules start.lists.graph start.map weights) where
  weight_enough : (block : ℕ) → block < block_total start.map → (blocks_at start).needed_of block ≤ slice_index weights block
  unfolding needed_of
  weight_enough block below =
      let awake : ℕ → Bool = λ v. start.rules.wake start.phase (state_at start.states v) in
      omega (arith, length-pieces_filter (edges_of start.rules.need start.lists.graph) awake (block_vertices start.map block), are.enough block below)

  pub listed_weights : (marks : List Bool) (listed : Listed) → length marks ≡ block_total start.map → AreListed marks weights listed
      → AreWeights (blocks_at start) listed.blocks.items listed.weights.items
  listed_weights marks listed one_each is =
      let list = listed.blocks.items in
      let same : listed.weights.items ≡ each (slice_index weights) list = is.each_weight ∙ ap (each (slice_index weights)) (sym is.all_marked) in
      record {
        one_each = ap (λ (l : List ℕ). length l) same ∙ length-map list (slice_index weights);
        enough = λ place below.
            let block = block_at list place in
            let own : slice_index listed.weights.items place ≡ slice_index weights block =
            ap (λ (l : List ℕ). slice_index l place) same ∙ get_or-map (slice_index weights) list place 0 0 below in
            let within : block < block_total start.map = marked-below start.map marks one_each list is.all_marked place 0 below in
            omega (arith, own, weight_enough block within);
      }
