use Rattle.std.proofs.Common.{◌≡◌, ℕ, ◌<◌, drop, length}
use Rattle.fg_base.specs.declared.plain.Dir.TheVariants.{In}
use Rattle.fg_image.specs.Lists.{begin_of, graph_by}
use Rattle.fg_image.specs.Checking.{IsMirrored}
use Rattle.fg_image.specs.Turned.{has_weights, numbers, pairs_in, turned_keys}
use Rattle.fg_image.proofs.PlaceLaws.{start_of}
use Rattle.fg_image.proofs.mirror.first_unlike_among.Given as goal

abbrev pub invariant-loop-v : goal.invariant-loop-v
invariant-loop-v l = record {
  mirrored : (u : ℕ) → u < l.v → IsMirrored (graph_by l.layout l.index l.image) u;
  start : l.start ≡ start_of (length l.index.outs) (pairs_in l.layout l.index l.image) l.v;
  begin : l.begin ≡ begin_of l.layout l.index In l.v;
  behind : drop l.start (numbers l.turned) ≡ drop l.start (turned_keys l.index.weighted (length l.index.outs) (pairs_in l.layout l.index l.image));
  count : length (numbers l.turned) ≡ length (turned_keys l.index.weighted (length l.index.outs) (pairs_in l.layout l.index l.image));
  weights : has_weights l.turned ≡ l.index.weighted;
  ins_weights : has_weights l.ins ≡ l.index.weighted;
  ins_count : length (numbers l.ins) ≡ l.room;
}
