use Rattle.fg_engine.specs.Naming.{image_held, pages_asked}
use Rattle.fg_outside.specs.Drives.{all_told}
use Rattle.fg_engine.proofs.naming.cache_name.Given as goal

-- the pages that the drives at hand tell
abbrev pub ghosts-image_of : goal.ghosts-image_of
ghosts-image_of g a = record { pages = image_held a._opened.now.layout (all_told g.D.Drive.held a._drives.now.items) }

-- the pages that the run at hand needs
abbrev pub ghosts-asked_by : goal.ghosts-asked_by
ghosts-asked_by g a =
    record { pages = pages_asked (g.P.Program.rules a._program.now) a._opened.now a._max (all_told g.D.Drive.held a._drives.now.items) }
