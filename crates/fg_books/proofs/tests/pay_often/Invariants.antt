use Rattle.std.proofs.Common.{◌≡◌, ◌≤◌}
use lib.IntN.{pos, ◌-ℤ◌}
use Rattle.fg_books.specs.Shares.{parts_of, amount_of}
use Rattle.fg_books.proofs.tests.pay_often.Given as goal

abbrev pub invariant-loop-i : goal.invariant-loop-i
invariant-loop-i g l = record {
  own : l.lot.books ≡ g.P.Place.books;
  part : parts_of l.lot 0 ≡ 1;
  paid : amount_of l.lot 0 ≡ pos 0 -ℤ pos l.count;
  few : l.count ≤ l.i;
}
