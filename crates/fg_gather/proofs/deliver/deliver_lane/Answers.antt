use Rattle.std.specs.Prelude.{All}
use Rattle.fg_batch.specs.Outbox.{IsForItsPart}
use Rattle.fg_gather.proofs.PieceLaws.{all-of_piece}
use Rattle.fg_gather.proofs.deliver.deliver_lane.Goals as goal

pub deliver_along-requires : goal.deliver_along-requires
deliver_along-requires g c =
    let map = c.args.inbox.now.map in
    let item = c.batches-item.result in
    let all = all-of_piece (IsForItsPart map) (λ batches. batches.items) c.args.wave.now c.loop-batches.batches-index item c.loop-batches-test.true c.requires in
    let mine : All (IsForItsPart map) item.items = rw c.batches-item.is all in
    rw (c.loop-batches.invariant.map, c.deref.ensures.value) mine
