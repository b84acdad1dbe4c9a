use Rattle.std.proofs.Common.{◌≡◌, drop}
use Rattle.fg_batch.specs.Inbox.{with_all}
use Rattle.fg_gather.specs.Deliver.{batches_in, mail_along}
use Rattle.fg_gather.proofs.deliver.deliver_lane.Given as goal

abbrev pub invariant-loop-batches : goal.invariant-loop-batches
invariant-loop-batches g l =
    let P = g.P.Program.rules l.fn.inbox.program in
    record {
      program : l.inbox.program ≡ l.fn.inbox.program;
      map : l.inbox.map ≡ l.fn.inbox.map;
      part : l.inbox.part ≡ l.fn.inbox.part;
      held : with_all P l.fn.inbox.map l.inbox.held (mail_along l.fn.inbox.part (batches_in (drop l.batches-index l.wave)) l.lane) ≡ with_all P l.fn.inbox.map l.fn.inbox.held (mail_along l.fn.inbox.part (batches_in l.wave) l.lane);
    }
