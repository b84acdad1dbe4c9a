use Rattle.fg_batch.proofs.MailsLaws.{unpacked-word, unpacked-wide}
use Rattle.fg_batch.proofs.mails.Mails.push.Goals as goal

pub returns-then-mail-lt-BESIDE-clause-items : goal.returns-then-mail-lt-BESIDE-clause-items
returns-then-mail-lt-BESIDE-clause-items c =
    rw (c.push_reserved.ensures.items, c.new.ensures, ← c.self.view_is)
    (unpacked-word c.self.inside.words.items c.self.inside.wide.items c.args.mail c.self.invariant.beside c.if-mail-lt-BESIDE.true)

pub returns-else-mail-lt-BESIDE-clause-items : goal.returns-else-mail-lt-BESIDE-clause-items
returns-else-mail-lt-BESIDE-clause-items c =
    rw (c.push_reserved-else-mail-lt-BESIDE.ensures.items, c.push_reserved-else-mail-lt-BESIDE-2.ensures.items, c.new-else-mail-lt-BESIDE.ensures, ← c.self.view_is)
    (unpacked-wide c.self.inside.words.items c.self.inside.wide.items c.args.mail.target c.args.mail.message c.self.invariant.beside)
