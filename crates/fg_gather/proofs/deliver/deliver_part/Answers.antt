use Rattle.fg_gather.proofs.DeliverLaws.{lanes-join}
use Rattle.fg_gather.specs.Deliver.{batches_in}
use Rattle.fg_gather.proofs.deliver.deliver_part.Goals as goal

pub loop-lane-preserved : goal.loop-lane-preserved
loop-lane-preserved g c =
    let kept = c.loop-lane.invariant in
    let old = c.args.inbox.now in
    rw c.deliver_lane.ensures (record {
      program = kept.program;
      map = kept.map;
      part = kept.part;
      held = rw (kept.program, kept.map, kept.part, kept.held)
          (lanes-join (g.P.Program.rules old.program) old.map old.held old.part c.loop-lane.lane (batches_in c.args.wave.now));
    })
