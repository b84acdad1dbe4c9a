-- Levels from a source.
use Rattle.std.specs.Prelude.{ℕ}
use Rattle.fg_model.specs.Program.{Rules}
use Rattle.fg_walks.specs.Spread.{spread}

-- levels from `source`: each entry leads to the next level
unfoldable pub bfs : ℕ → Rules
bfs = spread (λ entry. 1)
