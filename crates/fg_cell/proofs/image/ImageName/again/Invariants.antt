use Rattle.fg_cell.proofs.image.ImageName.again.Given as goal

-- the pages of the name at hand
abbrev pub ghosts-same_as : goal.ghosts-same_as
ghosts-same_as a = record { pages = a._name.now.pages }
