-- That drives which told enough pages hold the pages of an image at their places.
use Rattle.std.proofs.Common.{◌≡◌, ◌∙◌, ℕ, zero, suc, ◌+◌, ◌<◌, ◌≤◌, true, Option, None, Some, IfSome, List, [], length, map, slice_get, slice_index_or, refl, sym, ap, arith}
use Rattle.std.proofs.lemmas.Bool.{false≢true}
use Rattle.std.specs.List.{range_with_len}
use Rattle.fg_build.specs.Answers.{HoldWhole}
use Rattle.fg_build.specs.Pages.{IsStriped}
use Rattle.fg_build.specs.ToldImage.{HoldsPages, image_told, is_told, pages_held}
use Rattle.fg_build.proofs.ImageLaws.{pages_whole}
use Rattle.fg_build.proofs.PageLaws.{page_read_is}
use Rattle.fg_outside.specs.Drives.{all_told}
use Rattle.fg_outside.specs.Pages.{page_count, pages_of}
use Rattle.fg_stripe.specs.declared.layout.Layout.{Layout}
use Rattle.fg_stripe.specs.declared.layout.Place.{Place}
use Rattle.fg_stripe.specs.Held.{page_of, page_on}
use Rattle.fg_stripe.specs.Striping.{local_of, place_of}
use Rattle.fg_stripe.proofs.HeldLaws.{page_of-image_on}

range_get : (page : ℕ → List ℕ) (from count k : ℕ) → k < count → slice_get (map page (range_with_len from count)) k ≡ Some (page (from + k))
range_get page from zero k within = absurd (omega (arith, within))
range_get page from (suc count) zero within = let here : from ≡ from + 0 = omega arith in ap (λ (n : ℕ). Some (page n)) here
range_get page from (suc count) (suc k) within =
    let there : from + 1 + k ≡ from + suc k = omega arith in range_get page (from + 1) count k (omega (arith, within)) ∙ ap (λ (n : ℕ). Some (page n)) there

length-range : (page : ℕ → List ℕ) (from count : ℕ) → length (map page (range_with_len from count)) ≡ count
length-range page from zero = refl
length-range page from (suc count) = ap suc (length-range page (from + 1) count)

-- each of drives that hold these bytes holds its own of the image's pages, each at its place
pub holds_pages : (unit pages : ℕ) (helds : List (List ℕ)) (drive : ℕ) → HoldsPages (length helds) unit (pages_held unit pages helds) drive (slice_index_or helds drive [])
holds_pages unit pages helds drive page within own =
    let count = length-range (page_on unit helds) 0 pages in
    let here : 0 + page ≡ page = omega arith in
    range_get (page_on unit helds) 0 pages page (omega (arith, within, count))
    ∙ ap (λ (n : ℕ). Some (page_on unit helds n)) here
    ∙ ap (λ (d : ℕ). Some (page_of (slice_index_or helds d []) (local_of page (length helds) unit))) own

image_page : (layout : Layout) (all : Option (List (List ℕ))) (into : List ℕ) (page : ℕ) → page < layout.pages
    → IfSome all (λ helds. (q : ℕ) → q < layout.pages → length (page_on layout.unit helds q) ≡ 4096) → IfSome all (λ helds. into ≡ page_on layout.unit helds page)
    → is_told all ≡ true → into ≡ page_of (image_told layout all) page
image_page layout None into page within whole is told = absurd (false≢true told)
image_page layout (Some helds) into page within whole is told = is ∙ sym (page_of-image_on layout.unit layout.pages helds page whole within)

-- what was read at the place of a page, from drives that told enough pages, is that page of the image
pub page_of_image : {D : Type 0} (held : D → Option (List ℕ)) (told : D → ℕ) → ((drive : D) → IfSome (held drive) (λ bytes. told drive ≤ page_count bytes)) → (layout : Layout) (drives : List D) (into : List ℕ) (page : ℕ) (place : Place)
    → IsStriped layout → HoldWhole told layout drives → page < layout.pages → place ≡ place_of page layout.drives layout.unit
    → IfSome (all_told held drives) (λ helds. into ≡ pages_of place.local 1 (slice_index_or helds place.drive []))
    → is_told (all_told held drives) ≡ true → into ≡ page_of (image_told layout (all_told held drives)) page
page_of_image held told law layout drives into page place striped whole within at read =
    image_page layout (all_told held drives) into page within (pages_whole held told law layout drives striped whole)
    (page_read_is held drives layout.drives layout.unit page place into whole.0 at read)
