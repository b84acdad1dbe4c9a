use Rattle.fg_cache.specs.Pass.{IsPassOf}
use Rattle.fg_cache.proofs.tests.threads.visits.Given as goal

abbrev pub invariant-loop-round : goal.invariant-loop-round
invariant-loop-round g l = IsPassOf l.cache.site l.pass
