use Rattle.fg_books.proofs.tests.the_till_has_what_four_threads_paid.Given as goal

-- the books that were just made
abbrev pub ghosts-all_agree : goal.ghosts-all_agree
ghosts-all_agree g a = record { books = a.books.now }
