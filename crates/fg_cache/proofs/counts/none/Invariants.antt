use Rattle.fg_cache.proofs.counts.none.Given as goal

-- nothing was asked yet
abbrev pub ghosts-picked : goal.ghosts-picked
ghosts-picked a = record { queued = 0; stale = 0; hits = 0 }
