use Rattle.fg_books.specs.Rules.{cut_left, cut_right}
use Rattle.fg_books.proofs.books.Books.cut.Given as goal

-- the halves are made from the account and the three numbers
abbrev pub ghosts-split_as : goal.ghosts-split_as
ghosts-split_as a = record {
  left = cut_left a.seat.now.me.0 a._about.now.0 a._about.now.1 a._about.now.2;
  right = cut_right a.seat.now.me.0 a._about.now.0 a._about.now.1 a._about.now.2;
}
