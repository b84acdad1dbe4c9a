use Rattle.std.proofs.Common.{◌≡◌, drop}
use Rattle.fg_batch.specs.Inbox.{with_all}
use Rattle.fg_gather.specs.Deliver.{mail_along}
use Rattle.fg_gather.proofs.deliver.deliver_along.Given as goal

abbrev pub invariant-loop-batch : goal.invariant-loop-batch
invariant-loop-batch g l =
    let P = g.P.Program.rules l.fn.inbox.program in
    record {
      program : l.inbox.program ≡ l.fn.inbox.program;
      map : l.inbox.map ≡ l.fn.inbox.map;
      part : l.inbox.part ≡ l.fn.inbox.part;
      held : with_all P l.fn.inbox.map l.inbox.held (mail_along l.fn.inbox.part (drop l.batch-index l.batches) l.lane) ≡ with_all P l.fn.inbox.map l.fn.inbox.held (mail_along l.fn.inbox.part (l.batches) l.lane);
    }
