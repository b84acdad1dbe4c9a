use Rattle.std.proofs.Common.{take}
use Rattle.std.specs.Prelude.{All}
use Rattle.fg_model.specs.Graph.{IsEntryOf}
use Rattle.fg_model.proofs.graph.are_entries.Given as goal

abbrev pub invariant-loop-entry : goal.invariant-loop-entry
invariant-loop-entry l = All (IsEntryOf l.weighted) (take l.entry-index l.entries)
