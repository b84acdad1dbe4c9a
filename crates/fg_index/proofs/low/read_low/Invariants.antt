use Rattle.std.proofs.Common.{◌≡◌, ◌*◌, ◌≤◌, length, take, drop}
use Rattle.fg_index.specs.Degrees.{longs_in}
use Rattle.fg_index.specs.Direction.{degrees_at, with_front}
use Rattle.fg_index.proofs.low.read_low.Given as goal

abbrev pub invariant-loop-vertex : goal.invariant-loop-vertex
invariant-loop-vertex l = record {
  longs : l.longs ≡ longs_in (take l.vertex l.low);
  few : l.longs ≤ l.vertex;
  fits : 8 * l.longs ≤ length l.pairs;
  each : length l.kept ≡ l.vertex;
  found : with_front l.kept (degrees_at l.vertex l.longs (drop l.vertex l.low) (drop (8 * l.longs) l.pairs)) ≡ degrees_at 0 0 l.low l.pairs;
}
