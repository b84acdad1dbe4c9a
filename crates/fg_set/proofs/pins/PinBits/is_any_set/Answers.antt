use Rattle.std.proofs.Common.{rules, sym}
use Rattle.fg_set.proofs.PinBitsLemmas.{any-bits_of}
use Rattle.fg_set.proofs.pins.PinBits.is_any_set.Goals as goal

pub returns : goal.returns
returns c = rw (← c.self.view_is) (sym (any-bits_of 64 c.self.inside.word (search rules)))
