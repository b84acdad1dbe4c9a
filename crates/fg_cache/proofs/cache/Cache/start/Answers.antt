use Rattle.std.proofs.Common.{arith}
use Rattle.fg_cache.proofs.SiteLemmas.{asked_below}
use Rattle.fg_cache.proofs.cache.Cache.start.Goals as goal

pub place-at-requires-clause-page_within : goal.place-at-requires-clause-page_within
place-at-requires-clause-page_within g c =
    let below = asked_below c.args.self.now.site c.args.page c.requires.page in
    let few = c.layout.ensures.site.layout.few_pages in
    omega (arith, below, few)
