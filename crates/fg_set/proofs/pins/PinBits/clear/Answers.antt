use Rattle.std.proofs.Common.{w64}
use Rattle.fg_set.proofs.PinBitsLemmas.{bits_of-clear}
use Rattle.fg_set.proofs.pins.PinBits.clear.Goals as goal

pub returns : goal.returns
returns c = rw (← c.self.view_is) (bits_of-clear w64 c.self.inside.word c.args.worker c.requires)
