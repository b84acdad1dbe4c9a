use Rattle.std.proofs.Common.{None}
use Rattle.fg_cell.proofs.tests.a_frame_of_an_untold_image_shows_what_was_put_in.Given as goal

-- nothing is told
abbrev pub ghosts-of : goal.ghosts-of
ghosts-of g a = record { pages = None }
