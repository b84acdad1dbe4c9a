use Rattle.std.proofs.Common.{◌≡◌, ◌+◌, length}
use Rattle.fg_wave.specs.Cutting.{weight_of}
use Rattle.fg_wave.proofs.cutting.wave_end.Given as goal

abbrev pub invariant-loop-to : goal.invariant-loop-to
invariant-loop-to l = record {
  the_end : l.to-end ≡ length l.weights;
  weighed : l.left + weight_of l.weights l.from l.to ≡ l.bound;
}
