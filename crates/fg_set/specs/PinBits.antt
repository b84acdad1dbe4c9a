-- The pin bits of an entry: for each worker, whether it has the entry's frame pinned.
use Rattle.std.specs.Prelude.{ℕ, ◌==◌, Bool, List, map}
use Rattle.std.specs.List.{list_any, range_with_len}
use Rattle.std.specs.Int.{bit_at}

-- the lowest bits of a word, the lowest first
abbrev pub bits_of : ℕ → ℕ → List Bool
bits_of count word = map (λ i. bit_at word i == 1) (range_with_len 0 count)

-- some worker has the entry pinned
abbrev pub is_any_set : List Bool → Bool
is_any_set pins = list_any (λ bit. bit) pins
