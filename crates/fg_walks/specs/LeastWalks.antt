-- Both programs that find the least walks from a source, by whether an entry adds its weight or 1.
use Rattle.std.specs.Prelude.{ℕ, Bool, true, false, if◌then◌else◌}
use Rattle.fg_base.specs.declared.plain.Entry.{Entry}
use Rattle.fg_model.specs.Program.{Rules}
use Rattle.fg_walks.specs.Bfs.{bfs}
use Rattle.fg_walks.specs.Sssp.{sssp}

-- what an entry adds
abbrev pub cost_by : Bool → Entry → ℕ
cost_by weighted entry = if weighted then entry.weight else 1

-- least weights, or levels
abbrev pub least_walks : Bool → ℕ → Rules
least_walks true source = sssp source
least_walks false source = bfs source
