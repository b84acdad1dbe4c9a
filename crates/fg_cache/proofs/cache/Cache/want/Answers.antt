use Rattle.std.proofs.Common.{◌%◌, ap}
use Rattle.fg_cache.specs.declared.shape.Shape.{Shape}
use Rattle.fg_cache.proofs.SiteLemmas.{own_page}
use Rattle.fg_cache.proofs.cache.Cache.want.Goals as goal

pub give-requires : goal.give-requires
give-requires g c =
    c.want-answer.ensures.keeps c.take-held.result.name (rw (c.get.ensures.value, c.take-held.ensures.name) c.take-held.ensures.fits)
    (rw (c.take-held.ensures.name, c.set-lock.ensures.name) (own_page c.args.self.now.site (c.args.page % c.shape.result.sets) c.args.page
    (ap (λ (s : Shape). c.args.page % s.sets) c.shape.ensures.shape) c.requires.page))
