use Rattle.std.proofs.Common.{subst}
use Rattle.fg_batch.proofs.MailsLaws.{packed-fit}
use Rattle.fg_batch.specs.Mails.{MailList, NumbersFit}
use Rattle.fg_batch.proofs.mails.Mails.numbers_fit.Goals as goal

pub returns : goal.returns
returns c = subst (λ (mails : MailList). NumbersFit mails.items) c.self.view_is (packed-fit c.self.inside.words.items c.self.inside.wide.items c.self.invariant)
