use Rattle.std.proofs.Common.{◌≡◌, map}
use Rattle.std.specs.List.{range_with_len}
use Rattle.fg_image.specs.Lists.{begin_of, list_of}
use Rattle.fg_image.proofs.cut.cut_rows.Given as goal

abbrev pub invariant-loop-v : goal.invariant-loop-v
invariant-loop-v l = record {
  rows : l.rows.items ≡ map (list_of l.layout l.index l.image l.dir) (range_with_len 0 l.v);
  place : l.place ≡ begin_of l.layout l.index l.dir l.v;
}
