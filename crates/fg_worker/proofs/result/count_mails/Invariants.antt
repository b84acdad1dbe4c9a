use Rattle.std.proofs.Common.{◌≡◌, length, take}
use Rattle.fg_batch.specs.Mails.{NumbersFit}
use Rattle.fg_batch.specs.Outbox.{mail_in}
use Rattle.fg_worker.proofs.result.count_mails.Given as goal

abbrev pub invariant-loop-batch : goal.invariant-loop-batch
invariant-loop-batch l = record {
  count : l.count ≡ length (mail_in (take l.batch-index l.batches));
  fits : NumbersFit (mail_in (take l.batch-index l.batches));
}
