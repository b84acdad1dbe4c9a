use Rattle.std.proofs.Common.{◌≡◌, ◌+◌, length, ◌+ℤ◌, ◌-ℤ◌, ◌≤ℤ◌}
use Rattle.fg_cache.specs.Joining.{AreOf}
use Rattle.fg_cache.proofs.joining.join_queues.Given as goal

abbrev pub invariant-loop-lock : goal.invariant-loop-lock
invariant-loop-lock g l = record {
  books : l.all.books ≡ l.fn.ledgers;
  parts : l.all.parts + length l.queues.items ≡ l.fn.share.parts + length l.fn.queues.items;
  waits : (l.fn.share.pushes +ℤ l.fn.share.takes) ≤ℤ (l.all.pushes +ℤ l.all.takes);
  begun : l.all.entries -ℤ l.fn.share.entries ≡ l.all.pushes -ℤ l.fn.share.pushes;
  repairs : l.all.repairs ≡ l.fn.share.repairs;
  own : AreOf l.fn.ledgers l.queues.items;
}

abbrev pub decreases-loop-lock : goal.decreases-loop-lock
decreases-loop-lock g l = goal.left-loop-lock g l
