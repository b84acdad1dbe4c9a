use Rattle.std.proofs.Common.{drop, sum, ap, arith}
use Rattle.fg_index.proofs.JoinedLemmas.{joined-nil, sum-more, longs_in-more}
use Rattle.fg_index.proofs.below.walk.Goals as goal

pub loop-byte-init : goal.loop-byte-init
loop-byte-init c = record {
  degrees = omega (arith, ap sum (joined-nil (drop c.args.below.longs c.args.long.now)));
  longs = omega arith;
  few = omega arith;
}

pub loop-byte-preserved : goal.loop-byte-preserved
loop-byte-preserved c =
    let low = c.args.low.now in
    let i = c.loop-byte.byte-index in
    let at = c.loop-byte.invariant in
    let stepped = rw at.longs at c.step-here.ensures.degrees in
    record {
      degrees = omega (arith, stepped, at.degrees, sum-more low c.args.long.now c.args.below.longs i c.loop-byte-test.true);
      longs = omega (arith, c.step-here.ensures.longs, at.longs, longs_in-more low i c.loop-byte-test.true);
      few = omega (arith, c.step-here.ensures.few, at.few);
    }
