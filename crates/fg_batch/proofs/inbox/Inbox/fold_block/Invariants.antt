use Rattle.std.proofs.Common.{◌≡◌, ◌-◌, ◌*◌, ◌<◌, ◌≤◌, true, length}
use Rattle.fg_batch.specs.Bits.{is_in}
use Rattle.fg_batch.specs.Inbox.{held_by}
use Rattle.fg_batch.proofs.BlockLaws.{IsBlockFoldedBelow}
use Rattle.fg_batch.proofs.inbox.Inbox.fold_block.Given as goal

abbrev pub invariant-loop-place : goal.invariant-loop-place
invariant-loop-place g l = record {
  folded : IsBlockFoldedBelow (g.P.Program.rules l.self-inside.program.now) l.first l.place (held_by l.self-inside.numbers.items l.self-inside.came.items) l.fn.states l.states;
  from : l.first ≤ l.place;
  within : l.place ≤ length l.came * 64;
  found : l.place < length l.came * 64 → is_in l.came l.place ≡ true;
}

abbrev pub decreases-loop-place : goal.decreases-loop-place
decreases-loop-place g l = l.end - l.place
