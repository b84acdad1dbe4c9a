use Rattle.std.proofs.Common.{◌∙◌, sym, ap}
use Rattle.fg_cache.specs.Names.{LockOf}
use Rattle.fg_cache.specs.Site.{Site}
use Rattle.fg_cache.proofs.opening.with_drives.Goals as goal

pub invariant_of-cache : goal.invariant_of-cache
invariant_of-cache g c =
    let stock = c.requires.stock in
    let named = c.new.ensures ∙ c.of-name.ensures in
    let site = ap (λ (l : LockOf). l.site) named in
    rw site (
      stock.site,
      ap (λ (s : Site). s.layout) c.home.view_is,
      ap (λ (s : Site). s.shape) c.home.view_is,
      sym stock.books,
      ap (λ (l : LockOf). l.number) named ∙ ap (λ (s : Site). s.layout.drives) c.home.view_is,
      stock.set_count,
      stock.queue_count,
      c.make_shelves-shelves.ensures.count ∙ c.requires.count,
      stock.frame_count,
      stock.set_names,
      stock.queue_names,
      c.make_shelves-shelves.ensures.names,
      stock.frame_names,
    )
