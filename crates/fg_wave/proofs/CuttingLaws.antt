-- What the blocks of a wave weigh, and what they need.
use Rattle.std.proofs.Common.{◌≡◌, ℕ, suc, ◌+◌, ◌-◌, ◌<◌, ◌≤◌, List, slice_index, length, ap, sym, subst, ◌∙◌, arith}
use Rattle.std.proofs.lemmas.List.FromFn.{get_or-range_with_len, length-range_with_len}
use Rattle.std.proofs.lemmas.List.Sums.{sum_by_push}
use Rattle.std.specs.Prelude.{All}
use Rattle.std.specs.List.{range_with_len, sum_by}
use Rattle.fg_crew.specs.Wave.{block_at, in_all}
use Rattle.fg_crew.proofs.ListLaws.{sum_by-fewer, sum_by-map}
use Rattle.fg_crew.proofs.TellingLaws.{range-more}
use Rattle.fg_task.specs.Blocks.{Blocks}
use Rattle.fg_wave.specs.Cutting.{AreWeights, weight_of}

pub weight-more : (weights : List ℕ) (from to next : ℕ) → from ≤ to → next ≡ to + 1 → weight_of weights from next ≡ weight_of weights from to + slice_index weights to
weight-more weights from to next ordered is =
    let count : next - from ≡ suc (to - from) = omega (arith, ordered, is) in
    let last : from + (to - from) ≡ to = omega (arith, ordered) in
    ap (λ (n : ℕ). sum_by (slice_index weights) (range_with_len from n)) count
    ∙ ap (sum_by (slice_index weights)) (range-more from (to - from))
    ∙ sum_by_push (slice_index weights) (range_with_len from (to - from)) (from + (to - from))
    ∙ ap (λ (place : ℕ). weight_of weights from to + slice_index weights place) last

pub weight-one : (weights : List ℕ) (from : ℕ) → weight_of weights from (from + 1) ≡ slice_index weights from
weight-one weights from =
    let none : from - from ≡ 0 = omega arith in
    let nothing : weight_of weights from from ≡ 0 = ap (λ (n : ℕ). sum_by (slice_index weights) (range_with_len from n)) none in
    let first : from ≤ from = omega arith in
    let more = weight-more weights from from (from + 1) first (omega arith) in
    omega (arith, more, nothing)

-- blocks need no more than they weigh
pub needs-no_more : (blocks : Blocks) (list weights : List ℕ) (from to : ℕ) → AreWeights blocks list weights → from ≤ to → to ≤ length weights
    → in_all blocks.needed_of list from to ≤ weight_of weights from to
needs-no_more blocks list weights from to are ordered inside =
    let places = range_with_len from (to - from) in
    let each : All (λ (place : ℕ). blocks.needed_of (block_at list place) ≤ slice_index weights place) places =
    λ k d below.
    let under : k < to - from = omega (arith, below, length-range_with_len from (to - from)) in
    let is = get_or-range_with_len from (to - from) k d under in
    subst (λ (place : ℕ). blocks.needed_of (block_at list place) ≤ slice_index weights place) (sym is)
    (are.enough (from + k) (omega (arith, under, inside, are.one_each))) in
    let few = sum_by-fewer (λ (place : ℕ). blocks.needed_of (block_at list place)) (slice_index weights) places each in
    omega (arith, few, sum_by-map blocks.needed_of (block_at list) places)
