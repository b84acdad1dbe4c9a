use Rattle.std.proofs.Common.{◌≡◌}
use Rattle.fg_batch.specs.Inbox.{with_all}
use Rattle.fg_gather.specs.Deliver.{batches_in, mail_for}
use Rattle.fg_gather.proofs.deliver.deliver_part.Given as goal

abbrev pub invariant-loop-lane : goal.invariant-loop-lane
invariant-loop-lane g l = record {
  program : l.inbox.program ≡ l.fn.inbox.program;
  map : l.inbox.map ≡ l.fn.inbox.map;
  part : l.inbox.part ≡ l.fn.inbox.part;
  held : l.inbox.held ≡ with_all (g.P.Program.rules l.fn.inbox.program) l.fn.inbox.map l.fn.inbox.held (mail_for l.fn.inbox.part l.lane (batches_in l.wave));
}
