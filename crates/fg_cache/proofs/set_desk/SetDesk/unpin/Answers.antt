use Rattle.fg_cache.proofs.SetDeskLemmas.{keeps_unpin}
use Rattle.fg_cache.proofs.set_desk.SetDesk.unpin.Goals as goal

pub returns-clause-keeps : goal.returns-clause-keeps
returns-clause-keeps c = λ name fits. keeps_unpin name c.args.self.now c.unpin.new.self fits c.unpin.ensures.sound c.unpin.ensures.ways c.unpin.ensures.workers
    c.args.worker c.args.way c.requires.way c.unpin.ensures.listed c.unpin.ensures.becomes
