use Rattle.std.proofs.Common.{◌≡◌, length, map, take}
use Rattle.fg_image.specs.Lists.{entries_at}
use Rattle.fg_image.specs.Turned.{has_weights, key_of, numbers}
use Rattle.fg_image.proofs.mirror.read_list.Given as goal

abbrev pub invariant-loop-i : goal.invariant-loop-i
invariant-loop-i l = record {
  read : take l.i (numbers l.keys) ≡ map (key_of l.index.weighted) (entries_at l.index.weighted l.image l.begin l.i);
  count : length (numbers l.keys) ≡ length (numbers l.fn.keys);
  weights : has_weights l.keys ≡ l.index.weighted;
}
