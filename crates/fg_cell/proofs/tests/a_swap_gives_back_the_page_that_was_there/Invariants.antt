use Rattle.std.proofs.Common.{Some, [], ◌∷◌}
use Rattle.fg_cell.proofs.tests.a_swap_gives_back_the_page_that_was_there.Given as goal

-- the two pages at hand
abbrev pub ghosts-image_of : goal.ghosts-image_of
ghosts-image_of g a = record { pages = Some (a._first.now.bytes ∷ a._second.now.bytes ∷ []) }
