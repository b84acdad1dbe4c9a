use Rattle.std.proofs.Common.{◌≡◌, ◌++◌, take}
use Rattle.std.specs.List.{flat_map}
use Rattle.fg_image.specs.Made.{spelled_entry}
use Rattle.fg_image.specs.Making.{out_entry}
use Rattle.fg_image.proofs.spell.with_outs.Given as goal

abbrev pub invariant-loop-pair : goal.invariant-loop-pair
invariant-loop-pair l = l.bytes.items ≡ l.fn.bytes.items ++ flat_map (λ pair. spelled_entry l.weighted (out_entry pair)) (take l.pair-index l.pairs)
