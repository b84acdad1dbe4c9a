use Rattle.fg_cache.proofs.SetDeskLemmas.{keeps_repair}
use Rattle.fg_cache.proofs.set_desk.SetDesk.repair.Goals as goal

pub returns-clause-keeps : goal.returns-clause-keeps
returns-clause-keeps c = λ name fits. rw c.pay_repair.ensures.to (keeps_repair name c.args.self.now c.repair.new.self fits c.repair.ensures.sound c.repair.ensures.ways c.repair.ensures.workers
    c.args.worker c.args.way c.requires.way c.repair.ensures.listed c.repair.ensures.becomes)
