use Rattle.std.proofs.Common.{◌≡◌, ◌++◌, drop}
use Rattle.fg_image.specs.Made.{long_pairs}
use Rattle.fg_image.proofs.spell.with_pairs.Given as goal

abbrev pub invariant-loop-vertex : goal.invariant-loop-vertex
invariant-loop-vertex l = l.bytes.items ++ long_pairs l.vertex (drop l.vertex l.degrees) ≡ l.fn.bytes.items ++ long_pairs 0 l.degrees
