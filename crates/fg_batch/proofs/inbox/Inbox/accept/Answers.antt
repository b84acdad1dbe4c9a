use Rattle.std.proofs.Common.{suc, arith}
use Rattle.fg_batch.proofs.inbox.Inbox.accept.Goals as goal

pub loop-mail-preserved : goal.loop-mail-preserved
loop-mail-preserved g c =
    let kept = c.loop-mail.invariant in
    let held = rw c.in-Some.ensures.steps at kept.held in
    let fits = rw c.in-Some.ensures.steps at kept.fits in
    rw c.take_in.ensures (record {
      can = kept.can;
      finite = tt;
      program = kept.program;
      map = kept.map;
      part = kept.part;
      held = rw (kept.program, kept.map) held;
      fits = λ k d below. fits (suc k) d (omega (arith, below));
    })
