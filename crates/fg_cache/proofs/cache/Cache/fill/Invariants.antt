use Rattle.fg_cache.specs.Shelf.{IsSpare}
use Rattle.fg_cache.proofs.cache.Cache.fill.Given as goal

abbrev pub invariant-loop-k : goal.invariant-loop-k
invariant-loop-k g l = IsSpare l.fn.self.site.image l.spare
