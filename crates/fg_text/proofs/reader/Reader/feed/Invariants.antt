-- What reading on from here comes to is what it comes to with the whole piece, and the lines are counted.
use Rattle.std.proofs.Common.{◌≡◌, ◌+◌, ◌-◌, ◌≤◌, ◌++◌, ℕ, Bool, List, drop, length}
use Rattle.fg_text.specs.Reader.{line_ends, reads_on}
use Rattle.fg_text.proofs.reader.Reader.feed.Given as goal

abbrev pub invariant-loop-at : goal.invariant-loop-at
invariant-loop-at l = record {
  within : l.at ≤ length l.piece;
  number : l.self.number + line_ends (drop l.at l.piece) ≡ l.initial.self.number + line_ends l.piece;
  few : l.self.number ≤ l.initial.self.number + l.at;
  reads : (whole : Bool) (rest : List ℕ) → reads_on whole l.self (drop l.at l.piece ++ rest) ≡ reads_on whole l.initial.self (l.piece ++ rest);
}

abbrev pub decreases-loop-at : goal.decreases-loop-at
decreases-loop-at l = length l.piece - l.at
