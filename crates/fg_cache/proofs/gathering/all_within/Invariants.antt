use Rattle.std.proofs.Common.{ℕ, ◌<◌, get_or}
use Rattle.fg_cache.specs.Slips.{FaultOf}
use Rattle.fg_cache.proofs.gathering.all_within.Given as goal

abbrev pub invariant-loop-share : goal.invariant-loop-share
invariant-loop-share l = (k : ℕ) (d : FaultOf) → k < l.share-index → (get_or l.shares.items k d).drive < (get_or l.shares.items k d).books.plan.loose
