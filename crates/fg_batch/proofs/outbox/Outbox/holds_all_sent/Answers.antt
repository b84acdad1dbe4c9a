use Rattle.fg_batch.proofs.DeliveredLaws.{all_delivered}
use Rattle.fg_batch.proofs.outbox.Outbox.holds_all_sent.Goals as goal

pub returns : goal.returns
returns c = all_delivered c.args.self.now c.args.sent.now
