use Rattle.std.proofs.Common.{◌≡◌, ◌-◌, ◌*◌, ◌<◌, ◌≤◌, true, length}
use Rattle.fg_batch.specs.Bits.{is_in}
use Rattle.fg_batch.specs.Inbox.{held_by}
use Rattle.fg_batch.proofs.InboxLaws.{IsFoldedBelow}
use Rattle.fg_batch.proofs.inbox.Inbox.fold_into.Given as goal

abbrev pub invariant-loop-place : goal.invariant-loop-place
invariant-loop-place g l = record {
  folded : IsFoldedBelow (g.P.Program.rules l.self-inside.program.now) l.self-inside.map l.self-inside.part l.place (held_by l.self-inside.numbers.items l.self-inside.came.items) l.fn.states l.states;
  within : l.place ≤ length l.self-inside.came.items * 64;
  found : l.place < length l.self-inside.came.items * 64 → is_in l.self-inside.came.items l.place ≡ true;
}

abbrev pub decreases-loop-place : goal.decreases-loop-place
decreases-loop-place g l = length l.self-inside.numbers.items - l.place
