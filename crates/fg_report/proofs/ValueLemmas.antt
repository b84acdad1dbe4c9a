-- The lines of the states from a place on begin with the line of that place.
use Rattle.std.proofs.Common.{◌≡◌, ℕ, ◌+◌, ◌<◌, ◌++◌, List, length, drop, slice_index_or}
use Rattle.std.proofs.lemmas.List.{at_drop_more}
use Rattle.fg_base.specs.declared.plain.Value.{Value}
use Rattle.fg_base.specs.declared.plain.VState.{VState}
use Rattle.fg_report.specs.Values.{value_line, value_lines_from}

pub next_line : (show : VState → Value) (v : ℕ) (states : List VState) (d : VState) → v < length states →
    value_lines_from show v (drop v states) ≡ value_line v (show (slice_index_or states v d)) ++ value_lines_from show (v + 1) (drop (v + 1) states)
next_line show v states d below = at_drop_more (value_lines_from show v) states v d below
