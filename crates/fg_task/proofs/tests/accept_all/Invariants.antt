use Rattle.std.proofs.Common.{◌≡◌}
use Rattle.fg_task.proofs.tests.accept_all.Given as goal

abbrev pub invariant-loop-batch : goal.invariant-loop-batch
invariant-loop-batch g l = l.inbox.map ≡ l.fn.inbox.map
