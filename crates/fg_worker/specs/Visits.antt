-- The pages that a block has to visit.
use Rattle.std.specs.Prelude.{ℕ, ◌+◌, ◌*◌, nat_lt, Bool, List, filter, max, min}
use Rattle.std.specs.List.{list_any, range_with_len}
use Rattle.fg_base.specs.declared.limits.TheConstants.{PAGE_BYTES}
use Rattle.fg_base.specs.declared.plain.Need.{Need}
use Rattle.fg_image.specs.Lists.{begin_of, end_of}
use Rattle.fg_image.specs.Needed.{dirs_of}
use Rattle.fg_index.specs.ImageIndex.{ImageIndex}
use Rattle.fg_stripe.specs.declared.layout.Layout.{Layout}

-- whether the page of the image holds some byte from this one on and before that one
abbrev pub holds_some : ℕ → ℕ → ℕ → Bool
holds_some begin end page = nat_lt (max begin (page * PAGE_BYTES)) (min end (page * PAGE_BYTES + PAGE_BYTES))

-- whether it holds some byte of a needed list of a vertex
abbrev pub is_needed_for : Layout → ImageIndex → Need → ℕ → ℕ → Bool
is_needed_for layout index need page v = list_any (λ dir. holds_some (begin_of layout index dir v) (end_of layout index dir v) page) (dirs_of need)

-- the pages of the image that hold some byte of a needed list of one of these vertices
unfoldable pub needed_pages : Layout → ImageIndex → Need → List ℕ → List ℕ
needed_pages layout index need vertices = filter (λ page. list_any (is_needed_for layout index need page) vertices) (range_with_len 0 layout.pages)
