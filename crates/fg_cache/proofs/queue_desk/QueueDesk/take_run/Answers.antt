use Rattle.std.proofs.Common.{ap}
use Rattle.fg_queue.specs.LoadQueue.{LoadQueue}
use Rattle.fg_cache.proofs.QueueDeskLemmas.{run_loads, keeps_taken}
use Rattle.fg_cache.proofs.queue_desk.QueueDesk.take_run.Goals as goal

pub returns-clause-loads : goal.returns-clause-loads
returns-clause-loads c = λ name fits. (run_loads name c.args.self.now c.take_run.new.self.loads c.in_ok-run.run'.loads fits c.in_ok-run.ensures.all).0

pub returns-clause-keeps : goal.returns-clause-keeps
returns-clause-keeps c = λ name fits.
    let depth = ap (λ (q : LoadQueue). q.depth) c.take_run.ensures.after in
    rw (c.pay_takes.ensures.from, c.count.ensures.count) (keeps_taken name c.args.self.now c.take_run.new.self c.in_ok-run.run'.loads fits c.in_ok-run.ensures.all depth)
