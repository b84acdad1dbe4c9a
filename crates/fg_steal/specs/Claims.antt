-- What contracts see of claims, and that a list of draws has each block once, or at most once.
use Rattle.std.specs.Prelude.{◌≡◌, ℕ, ◌<◌, ◌≤◌, ◌&&◌, Bool, nat_eq, List, [], ◌∷◌, ◌++◌, ◌+◌, map, slice_index}
use Rattle.std.specs.List.{count_by, range_with_len}
use Rattle.atomic_table.specs.Seated.{TableId}

-- the claims' table, how many blocks each part has, and how many seats there are
pub record ClaimsValue : Type 0 where
  pub table : TableId
  pub counts : List ℕ
  pub seats : ℕ

abbrev pub claims_of : TableId → List ℕ → ℕ → ClaimsValue
claims_of table counts seats = record { table = table; counts = counts; seats = seats }

abbrev pub is_draw_of : ℕ → ℕ → ℕ × ℕ → Bool
is_draw_of part k draw = nat_eq draw.0 part && nat_eq draw.1 k

-- how often block k of the part was drawn
abbrev pub times_drawn : ℕ → ℕ → List (ℕ × ℕ) → ℕ
times_drawn part k draws = count_by (is_draw_of part k) draws

-- each block of each part was drawn once, and nothing else
pub record EachOnce (counts : List ℕ) (draws : List (ℕ × ℕ)) : Type 0 where
  pub once : (part k : ℕ) → k < slice_index counts part → times_drawn part k draws ≡ 1
  pub nothing_else : (part k : ℕ) → slice_index counts part ≤ k → times_drawn part k draws ≡ 0

-- each block of each part was drawn at most once, and nothing else
pub record AtMostOnce (counts : List ℕ) (draws : List (ℕ × ℕ)) : Type 0 where
  pub once : (part k : ℕ) → times_drawn part k draws ≤ 1
  pub nothing_else : (part k : ℕ) → slice_index counts part ≤ k → times_drawn part k draws ≡ 0

-- all blocks, part after part from the one given, each as its part and its number there
abbrev pub blocks_from : ℕ → List ℕ → List (ℕ × ℕ)
blocks_from part [] = []
blocks_from part (count ∷ counts) = map (λ k. (part, k)) (range_with_len 0 count) ++ blocks_from (part + 1) counts

abbrev pub all_blocks : List ℕ → List (ℕ × ℕ)
all_blocks counts = blocks_from 0 counts
