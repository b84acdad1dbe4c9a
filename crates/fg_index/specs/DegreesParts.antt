-- What the parts of kept degrees have to do with one another.
use Rattle.std.specs.Prelude.{◌≡◌, ℕ, ◌+◌, ◌*◌, ◌^◌, ◌<◌, ◌≤◌, List, length, take, sum, slice_index_or}
use Rattle.fg_index.specs.declared.below.Below.{Below}
use Rattle.fg_index.specs.Degrees.{longs_in, joined}

-- what stands below the first vertex
abbrev pub nothing : Below
nothing = record { degrees = 0; longs = 0 }

-- this stands below the vertex
pub record IsBelow (low long : List ℕ) (vertex : ℕ) (below : Below) : Type 0 where
  pub degrees : below.degrees ≡ sum (take vertex (joined low long))
  pub longs : below.longs ≡ longs_in (take vertex low)

-- The long degrees are as many as the bytes tell of, the total is that of all degrees, and there is a start for each 32 vertices
-- that are begun.
pub record IsDegrees (low long : List ℕ) (starts : List Below) (total : ℕ) : Type 0 where
  pub each_long : length long ≡ longs_in low
  pub total_is : total ≡ sum (joined low long)
  pub bounded : total ≤ length low * 2 ^ 32
  pub enough : length low ≤ 32 * length starts
  pub no_more : 32 * length starts < length low + 32
  pub starts_are : (j : ℕ) → j < length starts → IsBelow low long (32 * j) (slice_index_or starts j nothing)
