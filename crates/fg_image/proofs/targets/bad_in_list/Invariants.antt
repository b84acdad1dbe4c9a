use Rattle.std.proofs.Common.{◌≡◌, length}
use Rattle.std.specs.Prelude.{None, find}
use Rattle.fg_image.proofs.TargetLaws.{edges_to}
use Rattle.fg_model.specs.Iteration.{is_bad}
use Rattle.fg_image.proofs.targets.bad_in_list.Given as goal

abbrev pub invariant-loop-place : goal.invariant-loop-place
invariant-loop-place l = find (is_bad (length l.index.outs)) (edges_to l.index.weighted l.image l.begin (length l.index.outs) l.v l.dir l.place) ≡ None
