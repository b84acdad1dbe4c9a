use Rattle.std.proofs.Common.{◌≡◌, ◌+◌, length, pos, ◌+ℤ◌, ◌≤ℤ◌}
use Rattle.std.specs.List.{sum_by}
use Rattle.fg_cache.specs.Joining.{AreOf, AllRoomy, owned}
use Rattle.fg_cache.proofs.joining.join_sets.Given as goal

abbrev pub invariant-loop-lock : goal.invariant-loop-lock
invariant-loop-lock g l = record {
  books : l.all.books ≡ l.fn.ledgers;
  parts : l.all.parts + length l.sets.items ≡ l.fn.share.parts + length l.fn.sets.items;
  pushes : l.all.pushes ≡ l.fn.share.pushes;
  takes : l.all.takes ≡ l.fn.share.takes;
  own : AreOf l.fn.ledgers l.sets.items;
  roomy : AllRoomy l.fn.sets.items → AllRoomy l.sets.items;
  few : AllRoomy l.fn.sets.items → ((l.fn.share.entries +ℤ l.fn.share.repairs) +ℤ pos (sum_by owned l.sets.items)) ≤ℤ ((l.all.entries +ℤ l.all.repairs) +ℤ pos (sum_by owned l.fn.sets.items));
}

abbrev pub decreases-loop-lock : goal.decreases-loop-lock
decreases-loop-lock g l = goal.left-loop-lock g l
