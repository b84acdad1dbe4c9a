use Rattle.std.proofs.Common.{w64}
use Rattle.fg_set.proofs.PinBitsLemmas.{bits_of-set}
use Rattle.fg_set.proofs.pins.PinBits.set.Goals as goal

pub returns : goal.returns
returns c = rw (← c.self.view_is) (bits_of-set w64 c.self.inside.word c.args.worker c.requires)
