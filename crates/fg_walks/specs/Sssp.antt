-- Least weights from a source.
use Rattle.std.specs.Prelude.{ℕ}
use Rattle.fg_model.specs.Program.{Rules}
use Rattle.fg_walks.specs.Spread.{spread}

-- least weights from `source`: each entry adds its weight
unfoldable pub sssp : ℕ → Rules
sssp = spread (λ entry. entry.weight)
