-- The blocks of an iteration: those with a mark.
use Rattle.std.specs.Prelude.{◌≡◌, ℕ, Bool, false, List, filter, length, map as each, slice_index, slice_index_or}
use Rattle.std.specs.List.{range_with_len}
use Rattle.fg_iter.specs.declared.listing.Listed.{Listed}

-- the blocks with a mark, ascending
abbrev pub marked_blocks : List Bool → List ℕ
marked_blocks marks = filter (λ block. slice_index_or marks block false) (range_with_len 0 (length marks))

-- they are listed, each with its weight
pub record AreListed (marks : List Bool) (weights : List ℕ) (listed : Listed) : Type 0 where
  pub all_marked : listed.blocks.items ≡ marked_blocks marks
  pub each_weight : listed.weights.items ≡ each (slice_index weights) (marked_blocks marks)
