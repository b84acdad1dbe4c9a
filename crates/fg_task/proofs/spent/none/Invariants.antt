use Rattle.fg_task.proofs.spent.none.Given as goal

-- nothing was sent yet
abbrev pub ghosts-picked : goal.ghosts-picked
ghosts-picked a = record { messages = 0 }
