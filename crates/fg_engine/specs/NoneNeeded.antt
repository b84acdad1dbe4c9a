-- The pages that no vertex needs are none.
use Rattle.std.specs.Prelude.{◌≡◌, ℕ, List, [], ◌∷◌, filter, length}
use Rattle.std.proofs.Common.{refl}
use Rattle.std.specs.List.{list_any, range_with_len}
use Rattle.fg_base.specs.declared.plain.Need.{Need}
use Rattle.fg_index.specs.ImageIndex.{ImageIndex}
use Rattle.fg_stripe.specs.declared.layout.Layout.{Layout}
use Rattle.fg_worker.specs.Visits.{is_needed_for, needed_pages}

pub none_needed : (layout : Layout) (index : ImageIndex) (need : Need) → length (needed_pages layout index need []) ≡ 0
unfolding needed_pages
none_needed layout index need = none_of (range_with_len 0 layout.pages)
  where
    none_of : (pages : List ℕ) → length (filter (λ page. list_any (is_needed_for layout index need page) []) pages) ≡ 0
    none_of [] = refl
    none_of (page ∷ pages) = none_of pages
