use Rattle.std.proofs.Common.{None}
use Rattle.std.specs.List.{range_with_len}
use Rattle.fg_worker.proofs.tests.all_pages.Given as goal

-- nothing is told
abbrev pub ghosts-of : goal.ghosts-of
ghosts-of a = record { pages = None }

-- the pages of the image
abbrev pub ghosts-of-2 : goal.ghosts-of-2
ghosts-of-2 a = record { pages = range_with_len 0 40 }
