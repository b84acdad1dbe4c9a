-- Where a wave ends.
use Rattle.std.specs.Prelude.{◌≡◌, ℕ, ◌+◌, ◌-◌, ◌<◌, ◌≤◌, List, length, slice_index}
use Rattle.std.specs.List.{range_with_len, sum_by}
use Rattle.fg_crew.specs.Wave.{block_at, in_all}
use Rattle.fg_task.specs.Blocks.{Blocks}

-- what the blocks at the places from `from` to below `to` weigh together
abbrev pub weight_of : List ℕ → ℕ → ℕ → ℕ
weight_of weights from to = sum_by (slice_index weights) (range_with_len from (to - from))

-- each block of the list has a weight, and needs no more entries than that
pub record AreWeights (blocks : Blocks) (list weights : List ℕ) : Type 0 where
  pub one_each : length weights ≡ length list
  pub enough : (place : ℕ) → place < length list → blocks.needed_of (block_at list place) ≤ slice_index weights place

-- a wave needs at most so many entries, or it is one block
abbrev pub IsBounded : Blocks → List ℕ → ℕ → ℕ → ℕ → Type 0
IsBounded blocks list from to bound = from + 1 < to → in_all blocks.needed_of list from to ≤ bound
