use Rattle.std.proofs.Common.{arith}
use Rattle.fg_worker.proofs.CountLaws.{count-more, fits-all, fits-more}
use Rattle.fg_worker.proofs.result.count_mails.Goals as goal

pub returns-clause-fits : goal.returns-clause-fits
returns-clause-fits c = fits-all c.args.batches.now c.loop-batch.batch-index c.loop-batch-test.false c.loop-batch.invariant.fits

pub loop-batch-preserved : goal.loop-batch-preserved
loop-batch-preserved c =
    let more = count-more c.args.batches.now c.loop-batch.batch-index c.batch-item.result c.loop-batch-test.true c.batch-item.is in
    record {
      count = omega (arith, more, c.in-Some.ensures, c.loop-batch.invariant.count, c.len.ensures);
      fits = fits-more c.args.batches.now c.loop-batch.batch-index c.batch-item.result c.loop-batch-test.true c.batch-item.is c.loop-batch.invariant.fits c.numbers_fit.ensures;
    }
