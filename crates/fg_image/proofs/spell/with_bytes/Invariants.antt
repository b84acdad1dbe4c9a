use Rattle.std.proofs.Common.{◌≡◌, ◌++◌, map, take}
use Rattle.fg_image.specs.Making.{byte_of}
use Rattle.fg_image.proofs.spell.with_bytes.Given as goal

abbrev pub invariant-loop-degree : goal.invariant-loop-degree
invariant-loop-degree l = l.bytes.items ≡ l.fn.bytes.items ++ map byte_of (take l.degree-index l.degrees)
