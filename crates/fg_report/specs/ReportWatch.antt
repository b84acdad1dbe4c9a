-- What is written of a finished iteration.
use Rattle.std.specs.Prelude.{ℕ, Bool, true, false, List, [], ◌++◌}
use Rattle.fg_base.specs.declared.plain.Value.{Value}
use Rattle.fg_base.specs.declared.plain.VState.{VState}
use Rattle.fg_model.specs.declared.watch.IterLine.{IterLine}
use Rattle.fg_report.specs.Lines.{iteration_line}
use Rattle.fg_report.specs.Values.{value_lines}

-- the value lines, where they are asked for after each iteration
abbrev pub each_lines : Bool → (VState → Value) → List VState → List ℕ
each_lines true show states = value_lines show states
each_lines false show states = []

-- the iteration's line, and behind it the value lines that are asked for
abbrev pub iteration_text : Bool → (VState → Value) → IterLine → List VState → List ℕ
iteration_text each show line states = iteration_line line ++ each_lines each show states
