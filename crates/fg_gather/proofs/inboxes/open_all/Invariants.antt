use Rattle.std.proofs.Common.{◌≡◌, ℕ, ◌<◌, length, get_or}
use Rattle.std.specs.Prelude.{All}
use Rattle.fg_batch.specs.Inbox.{Holding}
use Rattle.fg_gather.specs.Arrivals.{HasNone, IsInboxOf}
use Rattle.fg_gather.proofs.inboxes.open_all.Given as goal

abbrev pub invariant-loop-part : goal.invariant-loop-part
invariant-loop-part g l = record {
  the_end : l.part-end ≡ l.map.parts;
  count : length l.boxes.items ≡ l.part;
  own : (part : ℕ) (d : Holding _) → part < l.part → IsInboxOf l.program l.map part (get_or l.boxes.items part d);
  none : All HasNone l.boxes.items;
}
