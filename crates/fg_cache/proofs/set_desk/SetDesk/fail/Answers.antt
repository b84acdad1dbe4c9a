use Rattle.fg_cache.proofs.SetDeskLemmas.{keeps_fail}
use Rattle.fg_cache.proofs.set_desk.SetDesk.fail.Goals as goal

pub returns-clause-keeps : goal.returns-clause-keeps
returns-clause-keeps c = λ name fits. rw c.pay_entry.ensures.to (keeps_fail name c.args.self.now c.fail.new.self fits c.fail.ensures.sound c.fail.ensures.ways c.fail.ensures.workers
    c.args.way c.args.page c.fail.result c.requires.way c.fail.ensures.listed c.fail.ensures.tells)
