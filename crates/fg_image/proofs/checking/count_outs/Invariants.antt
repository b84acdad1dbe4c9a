use Rattle.std.proofs.Common.{◌≡◌, sum, take}
use Rattle.fg_image.proofs.checking.count_outs.Given as goal

abbrev pub invariant-loop-v : goal.invariant-loop-v
invariant-loop-v l = record { count : l.count ≡ sum (take l.v l.index.outs) }
