use Rattle.std.proofs.Common.{◌≡◌}
use Rattle.std.specs.Prelude.{None}
use Rattle.fg_base.specs.declared.plain.Dir.TheVariants.{Out, In}
use Rattle.fg_image.specs.Lists.{begin_of}
use Rattle.fg_image.proofs.TargetLaws.{found_below}
use Rattle.fg_image.proofs.targets.first_bad_edge.Given as goal

abbrev pub invariant-loop-v : goal.invariant-loop-v
invariant-loop-v l = record {
  none : found_below l.layout l.index l.image l.v ≡ None;
  out_begin : l.out_begin ≡ begin_of l.layout l.index Out l.v;
  in_begin : l.in_begin ≡ begin_of l.layout l.index In l.v;
}
