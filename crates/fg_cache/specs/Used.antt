-- How a cache was used.
use Rattle.std.specs.Prelude.{ℕ}

-- how often all passes together were answered `Hit`
pub record Used : Type 0 where
  pub hits : ℕ
