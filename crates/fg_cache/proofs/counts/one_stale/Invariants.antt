use Rattle.std.proofs.Common.{◌+◌}
use Rattle.fg_cache.proofs.counts.one_stale.Given as goal

-- one more
abbrev pub ghosts-picked_from : goal.ghosts-picked_from
ghosts-picked_from a = record { queued = a._counts.now.value.queued; stale = a._counts.now.value.stale + 1; hits = a._counts.now.value.hits }
