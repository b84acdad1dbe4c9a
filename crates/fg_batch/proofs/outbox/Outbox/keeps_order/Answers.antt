use Rattle.fg_batch.proofs.SentLaws.{sent-along_another, sent-along_its_lane}
use Rattle.fg_batch.proofs.outbox.Outbox.keeps_order.Goals as goal

pub returns : goal.returns
returns c = record {
  own = λ v mails. sent-along_its_lane c.args.self.now.map v mails;
  other = λ v l mails away. sent-along_another c.args.self.now.map v l away mails;
}
