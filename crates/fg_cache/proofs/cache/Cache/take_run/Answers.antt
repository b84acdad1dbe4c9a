use Rattle.std.proofs.Common.{◌∙◌, All, IfOk, subst}
use Rattle.fg_cache.specs.Load.{IsLoad}
use Rattle.fg_cache.specs.Names.{LockOf}
use Rattle.fg_cache.proofs.cache.Cache.take_run.Goals as goal

pub give-requires : goal.give-requires
give-requires g c =
    c.take_run-taken.ensures.keeps c.take-held.result.name (rw (c.get.ensures.value, c.take-held.ensures.name) c.take-held.ensures.fits)

pub returns-clause-loads : goal.returns-clause-loads
returns-clause-loads g c =
    subst (λ (lock : LockOf). IfOk c.take_run-taken.result (λ run. All (IsLoad lock.site lock.number) run.loads)) (c.take-held.ensures.name ∙ c.queue-queue.ensures.name)
    (c.take_run-taken.ensures.loads c.take-held.result.name (rw (c.get.ensures.value, c.take-held.ensures.name) c.take-held.ensures.fits))
