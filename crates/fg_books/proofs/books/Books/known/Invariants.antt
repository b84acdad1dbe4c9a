use Rattle.fg_books.specs.Shares.{account_of}
use Rattle.fg_books.proofs.books.Books.known.Given as goal

-- each lot gets its own account back
abbrev pub ghosts-split_as : goal.ghosts-split_as
ghosts-split_as a = record { left = account_of a._about.now.0.value.views; right = account_of a._about.now.1.value.views }
