use Rattle.std.proofs.Common.{None, [], ◌∷◌}
use Rattle.fg_cache.proofs.tests.calls.pages_1_and_2.Given as goal

-- nothing is told
abbrev pub ghosts-of : goal.ghosts-of
ghosts-of a = record { pages = None }

-- the two pages
abbrev pub ghosts-of-2 : goal.ghosts-of-2
ghosts-of-2 a = record { pages = 1 ∷ 2 ∷ [] }
