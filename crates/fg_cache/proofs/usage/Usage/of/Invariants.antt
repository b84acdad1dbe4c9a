use Rattle.fg_cache.specs.Closing.{all_hits}
use Rattle.fg_cache.proofs.usage.Usage.of.Given as goal

-- the hits of the passes at hand
abbrev pub ghosts-picked_by : goal.ghosts-picked_by
ghosts-picked_by a = record { queued = 0; stale = 0; hits = all_hits a._passes.now.items }
