-- The weight of a block is how many entries its vertices need.
use Rattle.std.proofs.Common.{◌≡◌, ℕ, zero, suc, ◌+◌, ◌-◌, ◌*◌, ◌<◌, ◌≤◌, ◌⊎◌, inl, inr, List, [], ◌∷◌, ◌++◌, length, min, get_or, refl, sym, ap, subst, ◌∙◌, arith}
use Rattle.std.specs.List.{range_with_len, sum_by}
use Rattle.std.proofs.lemmas.Bool.{cases_lt}
use Rattle.std.proofs.Math.Seq.{get_or-append_seam}
use Rattle.std.proofs.lemmas.List.{get_or_append_left, length-append, length_push}
use Rattle.std.proofs.lemmas.List.Concat.{length-flat_map}
use Rattle.std.proofs.lemmas.List.Sums.{sum_by_push, sum_by-cons}
use Rattle.fg_base.specs.declared.plain.Dir.{Dir}
use Rattle.fg_base.specs.declared.plain.Need.{Need}
use Rattle.fg_build.specs.declared.opened.Opened.{Opened}
use Rattle.fg_build.specs.ToldImage.{graph_over}
use Rattle.fg_image.proofs.GroupLaws.{range-more}
use Rattle.fg_image.specs.Lists.{graph_by, rows_of}
use Rattle.fg_model.proofs.IterationLemmas.{length-edges_from}
use Rattle.fg_model.specs.Graph.{row}
use Rattle.fg_model.specs.Program.{Rules}
use Rattle.fg_model.specs.VertexRun.{edges_from, edges_of}
use Rattle.fg_part.specs.declared.part_map.PartMap.{PartMap}
use Rattle.fg_part.specs.PartMap.{block_size, block_total}
use Rattle.fg_task.specs.Block.{block_vertices, needed_of}
use Rattle.fg_engine.specs.Weights.{needed_degree}
use Rattle.fg_engine.proofs.StartLaws.{length-row}

-- one vertex more
pub sum-next : (f : ℕ → ℕ) (first v so_far one : ℕ) → first ≤ v → so_far ≡ sum_by f (range_with_len first (v - first)) → one ≡ f v
    → so_far + one ≡ sum_by f (range_with_len first (v + 1 - first))
sum-next f first v so_far one from so is =
    let count : v + 1 - first ≡ (v - first) + 1 = omega (arith, from) in
    let last : first + (v - first) ≡ v = omega (arith, from) in
    let all : sum_by f (range_with_len first (v + 1 - first)) ≡ sum_by f (range_with_len first (v - first)) + f v =
    ap (λ (n : ℕ). sum_by f (range_with_len first n)) count
    ∙ ap (sum_by f) (range-more first (v - first))
    ∙ sum_by_push f (range_with_len first (v - first)) (first + (v - first))
    ∙ ap (λ (u : ℕ). sum_by f (range_with_len first (v - first)) + f u) last in
    omega (arith, so, is, all)

-- the needed entries of a vertex are as many as its degrees say
edges-count : (opened : Opened) (image : List ℕ) (need : Need) (v : ℕ) → v < length opened.index.outs → length opened.index.ins ≡ length opened.index.outs
    → length (edges_of need (graph_over opened image) v) ≡ needed_degree opened.index need v
unfolding graph_by
edges-count opened image Need.Out v below same =
    length-edges_from v Dir.Out 0 (row (rows_of opened.layout opened.index image Dir.Out) v) ∙ length-row opened image Dir.Out v below
edges-count opened image Need.In v below same =
    length-edges_from v Dir.In 0 (row (rows_of opened.layout opened.index image Dir.In) v) ∙ length-row opened image Dir.In v below
edges-count opened image Need.Both v below same =
    let outs = length-edges_from v Dir.Out 0 (row (rows_of opened.layout opened.index image Dir.Out) v) ∙ length-row opened image Dir.Out v below in
    let ins = length-edges_from v Dir.In 0 (row (rows_of opened.layout opened.index image Dir.In) v) ∙ length-row opened image Dir.In v below in
    length-append (edges_from v Dir.Out 0 (row (rows_of opened.layout opened.index image Dir.Out) v)) (edges_from v Dir.In 0 (row (rows_of opened.layout opened.index image Dir.In) v))
    ∙ omega (arith, outs, ins)

sums-same : (f g : ℕ → ℕ) (from count : ℕ) → ((v : ℕ) → from ≤ v → v < from + count → f v ≡ g v)
    → sum_by f (range_with_len from count) ≡ sum_by g (range_with_len from count)
sums-same f g from zero same = refl
sums-same f g from (suc count) same =
    let first = same from (omega arith) (omega arith) in
    let rest = sums-same f g (from + 1) count (λ v above below. same v (omega (arith, above)) (omega (arith, below))) in
    omega (arith, first, rest, sum_by-cons f from (range_with_len (from + 1) count), sum_by-cons g from (range_with_len (from + 1) count))

-- so many entries do the vertices of a block need
pub needed-count : (P : Rules) (opened : Opened) (image : List ℕ) (map : PartMap) (block first end weight : ℕ) → map.n ≡ length opened.index.outs
    → length opened.index.ins ≡ length opened.index.outs → block < block_total map → first ≡ block * block_size map → end ≡ min map.n (first + block_size map)
    → weight ≡ sum_by (needed_degree opened.index P.need) (range_with_len first (end - first))
    → length (needed_of P (graph_over opened image) (block_vertices map block)) ≡ weight
unfolding needed_of block_vertices
needed-count P opened image map block first end weight vertices same within first_is end_is is =
    let size = block_size map in
    let count = min size (map.n - block * size) in
    let counted : end - first ≡ count = count_of map.n size (block * size) first end first_is end_is in
    length-flat_map (edges_of P.need (graph_over opened image)) (range_with_len (block * size) count)
    ∙ sums-same (λ v. length (edges_of P.need (graph_over opened image) v)) (needed_degree opened.index P.need) (block * size) count
    (λ v above below. edges-count opened image P.need v (omega (arith, below, vertices)) same)
    ∙ ap (λ (n : ℕ). sum_by (needed_degree opened.index P.need) (range_with_len n count)) (sym first_is)
    ∙ ap (λ (n : ℕ). sum_by (needed_degree opened.index P.need) (range_with_len first n)) (sym counted)
    ∙ sym is
  where
    count_of : (n size place first end : ℕ) → first ≡ place → end ≡ min n (first + size) → end - first ≡ min size (n - place)
    count_of n size place first end first_is end_is = omega (arith, first_is, end_is)

-- the weights so far are right, each for its block
pub record AreWeighed (P : Rules) (opened : Opened) (map : PartMap) (block : ℕ) (weights : List ℕ) : Type 0 where
  pub count : length weights ≡ block
  pub right : (image : List ℕ) (b : ℕ) → b < block → length (needed_of P (graph_over opened image) (block_vertices map b)) ≤ get_or weights b 0

pub weighed-more : (P : Rules) (opened : Opened) (map : PartMap) (block weight : ℕ) (weights : List ℕ) → AreWeighed P opened map block weights
    → ((image : List ℕ) → length (needed_of P (graph_over opened image) (block_vertices map block)) ≡ weight)
    → AreWeighed P opened map (block + 1) (weights ++ weight ∷ [])
weighed-more P opened map block weight weights are is = record {
  count = length_push weights weight ∙ omega (arith, are.count);
  right = λ image b below. by_case image b below (cases_lt b block);
}
  where
    by_case : (image : List ℕ) (b : ℕ) → b < block + 1 → (b < block) ⊎ (block ≤ b)
        → length (needed_of P (graph_over opened image) (block_vertices map b)) ≤ get_or (weights ++ weight ∷ []) b 0
    by_case image b below (inl before) =
        let at = get_or_append_left weights (weight ∷ []) 0 b (omega (arith, before, are.count)) in
        omega (arith, at, are.right image b before)
    by_case image b below (inr here) =
        let same : block ≡ b = omega (arith, below, here) in
        let at : get_or (weights ++ weight ∷ []) block 0 ≡ weight = ap (λ (n : ℕ). get_or (weights ++ weight ∷ []) n 0) (sym are.count) ∙ get_or-append_seam weights weight [] 0 in
        subst (λ (n : ℕ). length (needed_of P (graph_over opened image) (block_vertices map n)) ≤ get_or (weights ++ weight ∷ []) n 0) same
        (omega (arith, at, is image))
