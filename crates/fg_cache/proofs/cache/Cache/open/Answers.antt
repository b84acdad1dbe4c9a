use Rattle.fg_cache.proofs.cache.Cache.open.Goals as goal

pub returns-in-Ok-clause-passes : goal.returns-in-Ok-clause-passes
returns-in-Ok-clause-passes g c = rw (c.with_drives.ensures.site, c.with_drives.ensures.passes) c.in-Ok.ensures.ok.new_passes
