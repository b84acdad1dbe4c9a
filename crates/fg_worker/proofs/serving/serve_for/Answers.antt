-- A page that may be asked for is one of the image, of which there are few.
use Rattle.std.proofs.Common.{ap, arith}
use Rattle.fg_cache.proofs.SiteLemmas.{asked_below}
use Rattle.fg_stripe.specs.declared.layout.Layout.{Layout}
use Rattle.fg_worker.proofs.serving.serve_for.Goals as goal

pub place-own-requires-clause-page_within : goal.place-own-requires-clause-page_within
place-own-requires-clause-page_within g c =
    let below = asked_below c.args.cache.now.site c.args.page c.requires.asked in
    let same = ap (λ (layout : Layout). layout.pages) c.requires.layout in
    omega (arith, below, same, c.requires.striped.few_pages)
