use Rattle.std.proofs.Common.{◌≡◌, map as each}
use Rattle.std.specs.Prelude.{All, filter}
use Rattle.std.specs.List.{range_with_len}
use Rattle.fg_batch.specs.Outbox.{IsForItsPart, has_mail, lane_mail, told_by}
use Rattle.fg_batch.proofs.outbox.copies.Given as goal

abbrev pub invariant-loop-at : goal.invariant-loop-at
invariant-loop-at l = record {
  lanes : each told_by l.batches.items ≡ filter has_mail (each (lane_mail l.fn.block l.fn.lanes_of_part l.fn.lanes) (range_with_len 0 l.at));
  fit : All (IsForItsPart l.fn.map) l.batches.items;
}
