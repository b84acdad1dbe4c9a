use Rattle.std.proofs.Common.{◌≡◌, ◌+◌, ◌*◌, ◌^◌, ◌≤◌, drop, take, sum}
use Rattle.fg_index.specs.Degrees.{longs_in, joined}
use Rattle.fg_index.proofs.below.walk.Given as goal

abbrev pub invariant-loop-byte : goal.invariant-loop-byte
invariant-loop-byte l = record {
  degrees : l.here.degrees ≡ l.fn.below.degrees + sum (joined (take l.byte-index l.low) (drop l.fn.below.longs l.long));
  longs : l.here.longs ≡ l.fn.below.longs + longs_in (take l.byte-index l.low);
  few : l.here.degrees ≤ l.fn.below.degrees + l.byte-index * 2 ^ 32;
}
