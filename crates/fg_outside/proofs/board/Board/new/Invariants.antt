use Rattle.std.proofs.Common.{◌≡◌, length}
use Rattle.fg_outside.proofs.board.Board.new.Given as goal

abbrev pub invariant-loop : goal.invariant-loop
invariant-loop l = record {
  count : length l.counts.items ≡ l.counter;
}
