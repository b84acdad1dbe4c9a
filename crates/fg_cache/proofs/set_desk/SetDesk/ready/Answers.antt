use Rattle.fg_cache.proofs.SetDeskLemmas.{keeps_ready}
use Rattle.fg_cache.proofs.set_desk.SetDesk.ready.Goals as goal

pub returns-clause-keeps : goal.returns-clause-keeps
returns-clause-keeps c = λ name fits. keeps_ready name c.args.self.now c.ready.new.self fits c.ready.ensures.sound c.ready.ensures.ways c.ready.ensures.workers
    c.args.way c.args.page c.ready.result c.requires c.ready.ensures.listed c.ready.ensures.tells
