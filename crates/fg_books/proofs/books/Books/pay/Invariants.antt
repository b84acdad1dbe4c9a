use Rattle.fg_books.specs.Shares.{account_of}
use Rattle.fg_books.specs.Rules.{payer, payee}
use Rattle.fg_books.proofs.books.Books.pay.Given as goal

-- each lot gets its own account back, with the payment
abbrev pub ghosts-split_as : goal.ghosts-split_as
ghosts-split_as a = record {
  left = payer (account_of a._about.now.0.value.views) a._about.now.2 a._about.now.3;
  right = payee (account_of a._about.now.1.value.views) a._about.now.2 a._about.now.3;
}
