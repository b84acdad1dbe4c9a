-- The pages that may be asked for.
use Rattle.std.proofs.Common.{◌≡◌, ◌∙◌, ℕ, ◌+◌, ◌%◌, ◌<◌, ◌==◌, length, get_or, sym, arith}
use Rattle.std.specs.List.{Contains, range_with_len}
use Rattle.std.proofs.lemmas.Bool.{eq-eqb}
use Rattle.std.proofs.lemmas.List.Folds.{list_any_at}
use Rattle.std.proofs.lemmas.List.FromFn.{length-range_with_len, get_or-range_with_len}
use Rattle.fg_cache.specs.Site.{Site, is_asked, asked_pages, own_pages}
use Rattle.fg_cache.proofs.CountLemmas.{contains_filter, filter_contains}

in_range : (count page : ℕ) → Contains (range_with_len 0 count) page → page < count
in_range count page has =
    let within : has.0 < count = omega (arith, has.1, length-range_with_len 0 count) in
    let at = get_or-range_with_len 0 count has.0 page within in
    omega (arith, at, has.2)

-- they are pages of the image
pub asked_below : (site : Site) (page : ℕ) → Contains (asked_pages site) page → page < site.layout.pages
unfolding asked_pages
asked_below site page has = in_range site.layout.pages page (filter_contains (is_asked site.asked) (range_with_len 0 site.layout.pages) page has).0

-- and each stands in the set of its number modulo the sets
pub own_page : (site : Site) (set page : ℕ) → set ≡ page % site.shape.sets → Contains (asked_pages site) page → Contains (own_pages site set) page
unfolding own_pages
own_page site set page at has = contains_filter (λ p. p % site.shape.sets == set) (asked_pages site) page has (eq-eqb (page % site.shape.sets) set (sym at))

-- a page of the image that was named may be asked for
pub may_ask : (site : Site) (page : ℕ) → page < site.layout.pages → Contains site.asked page → Contains (asked_pages site) page
unfolding asked_pages
may_ask site page below has =
    let long = length-range_with_len 0 site.layout.pages in
    let at = get_or-range_with_len 0 site.layout.pages page page below in
    let among : Contains (range_with_len 0 site.layout.pages) page = (page, omega (arith, below, long), omega (arith, at)) in
    contains_filter (is_asked site.asked) (range_with_len 0 site.layout.pages) page among
    (list_any_at (λ p. p == page) site.asked has.0 page has.1 (eq-eqb (get_or site.asked has.0 page) page has.2))
