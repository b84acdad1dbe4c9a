-- Sets of numbers as words of 64 bits.
use Rattle.std.specs.Prelude.{◌≡◌, ℕ, ◌/◌, ◌%◌, ◌==◌, Bool, false, List, slice_index_or}
use Rattle.std.specs.Int.{bit_at}

-- the number is in the set
unfoldable pub is_in : List ℕ → ℕ → Bool
is_in words number = bit_at (slice_index_or words (number / 64) 0) (number % 64) == 1

-- of numbers in blocks of this size, none is in the set whose block has no flag
abbrev pub AreFlagged : ℕ → List Bool → List ℕ → Type 0
AreFlagged size flags words = (k : ℕ) → slice_index_or flags (k / size) false ≡ false → is_in words k ≡ false
