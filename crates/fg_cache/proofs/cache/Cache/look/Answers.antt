use Rattle.std.proofs.Common.{◌≡◌, ◌∙◌, ap, arith}
use Rattle.fg_cell.specs.Pages.{Page}
use Rattle.fg_cache.proofs.SiteLemmas.{asked_below}
use Rattle.fg_cache.proofs.cache.Cache.look.Goals as goal

pub invariant_of-result : goal.invariant_of-result
invariant_of-result g c = λ none.
    let below = asked_below c.args.self.now.site c.args.page c.requires.page in
    let few = c.frame-place.ensures.site.layout.few_pages in
    let at : c.number-found.result ≡ c.pin-shown.result.page.number = c.number-found.ensures ∙ ap (λ (p : Page). p.number) c.page.ensures.page in
    omega (arith, below, few, none, at)
