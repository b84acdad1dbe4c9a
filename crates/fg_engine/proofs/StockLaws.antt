-- What drives and options tell a cache that is opened over them.
use Rattle.std.proofs.Common.{◌≡◌, ◌∙◌, ℕ, suc, ◌+◌, ◌<◌, ◌≤◌, Option, None, Some, IfSome, List, [], ◌∷◌, length, slice_index_or, refl, sym, ap, subst, arith}
use Rattle.std.proofs.lemmas.List.Elements.{All-nil}
use Rattle.std.proofs.lemmas.List.Folds.{flat_map-map}
use Rattle.std.proofs.lemmas.List.FromFn.{get_or-map-range_with_len, length-map-range_with_len}
use Rattle.std.proofs.lemmas.Option.{none-some, same_Some}
use Rattle.std.specs.List.{All, range_with_len}
use Rattle.std.specs.Prelude.{is_some, true}
use Rattle.fg_build.specs.Answers.{HoldWhole, OpenedFits}
use Rattle.fg_build.specs.Pages.{IsStriped}
use Rattle.fg_build.specs.ToldImage.{pages_held}
use Rattle.fg_build.specs.declared.opened.Opened.{Opened}
use Rattle.fg_build.proofs.HeldLaws.{all_told-all, image_bytes}
use Rattle.fg_build.proofs.ImageLaws.{pages_whole}
use Rattle.fg_build.proofs.PageLaws.{page_told}
use Rattle.fg_build.proofs.PlaceLaws.{holds_pages}
use Rattle.fg_cache.specs.Opening.{AreNew, AreStocked}
use Rattle.fg_cache.specs.Pass.{IsPassOf, Token}
use Rattle.fg_cache.specs.Shelf.{HoldsPages, IsStocked}
use Rattle.fg_cache.specs.Site.{IsLayout, IsShape, Site}
use Rattle.fg_outside.specs.Drives.{HasEachFrom, all_told}
use Rattle.fg_outside.specs.Pages.{page_count}
use Rattle.fg_outside.proofs.DriveLemmas.{all_told-index, all_told-length}
use Rattle.fg_stripe.specs.declared.layout.Layout.{Layout}
use Rattle.fg_stripe.specs.Held.{image_on, page_of, page_on}
use Rattle.fg_stripe.specs.Striping.{drive_of, local_of, place_of}
use Rattle.fg_worker.specs.Desk.{ArePages, image_of}
use Rattle.fg_engine.specs.declared.options.Options.{Options}
use Rattle.fg_engine.specs.Naming.{image_held}
use Rattle.fg_engine.specs.Options.{AreOptions, shape_of}
use Rattle.fg_engine.specs.Runner.{IsCacheOf}

pub layout-of : (opened : Opened) → OpenedFits opened → IsLayout opened.layout
layout-of opened fits = record {
  some_drive = fits.some_drives;
  few_drives = fits.few_drives;
  some_unit = fits.some_unit;
  small_unit = fits.small_unit;
  few_pages = fits.index.few_pages;
}

pub striped-of : (opened : Opened) → OpenedFits opened → IsStriped opened.layout
striped-of opened fits = record { some_drives = fits.some_drives; some_unit = fits.some_unit; few_pages = fits.index.few_pages }

pub shape-of : (options : Options) → AreOptions options → IsShape (shape_of options)
shape-of options are = record {
  some_set = are.some_set;
  few_sets = are.few_sets;
  some_way = are.some_way;
  few_ways = are.few_ways;
  few_frames = are.few_frames;
  few_loads = are.few_loads;
  some_pass = are.some_worker;
  few_passes = are.few_workers;
}

-- passes that are numbered are the cache's
pub passes-of : (site : Site) (passes : List Token) → length passes ≡ site.shape.passes → AreNew site passes → All (IsPassOf site) passes
passes-of site passes count new k d below =
    subst (IsPassOf site) (sym (new k d below)) (record { own = refl; worker_within = omega (arith, below, count) })

-- the bytes of the pages that are told are the image
pub image-held : (layout : Layout) (helds : List (List ℕ)) → image_of (image_held layout (Some helds)) ≡ image_on layout.unit layout.pages helds
unfolding image_on
image-held layout helds = flat_map-map (λ (page : List ℕ). page) (page_on layout.unit helds) (range_with_len 0 layout.pages)

-- what is known of the image of a cache where that is told, where the drives' bytes are told
pub told-at : (layout : Layout) (all : Option (List (List ℕ))) (image : Option (List (List ℕ))) (R : List ℕ → Type 0) → image ≡ image_held layout all
    → (is_some image ≡ true → R (image_of image)) → IfSome all (λ helds. R (image_on layout.unit layout.pages helds))
told-at layout None image R is known = tt
told-at layout (Some helds) image R is known = subst R (ap image_of is ∙ image-held layout helds) (known (ap is_some is))

-- the pages that are told are whole
held-pages : (layout : Layout) (all : Option (List (List ℕ))) → IfSome all (λ helds. (page : ℕ) → page < layout.pages → length (page_on layout.unit helds page) ≡ 4096)
    → (pages : List (List ℕ)) → image_held layout all ≡ Some pages → ArePages layout.pages pages
held-pages layout None whole pages is = absurd (none-some pages is)
held-pages layout (Some helds) whole pages is =
    let page : ℕ → List ℕ = page_on layout.unit helds in
    let count = length-map-range_with_len page 0 layout.pages in
    subst (ArePages layout.pages) (same_Some (pages_held layout.unit layout.pages helds) pages is) (record {
      page_count = count;
      whole = λ k d below.
          ap (λ (l : List ℕ). length l) (get_or-map-range_with_len page 0 layout.pages k k d (omega (arith, below, count)) (omega arith)) ∙ whole k (omega (arith, below, count));
    })

-- and bytes
held-bytes : (layout : Layout) (all : Option (List (List ℕ))) → IfSome all (All (λ bytes. All (λ byte. byte < 256) bytes)) → All (λ byte. byte < 256) (image_of (image_held layout all))
held-bytes layout None bytes = All-nil (λ byte. byte < 256)
held-bytes layout (Some helds) bytes =
    subst (λ (image : List ℕ). All (λ byte. byte < 256) image) (sym (image-held layout helds)) (image_bytes layout.unit layout.pages helds bytes)

-- where drives tell their bytes, each of them holds its own pages
holds-own : (layout : Layout) (all : Option (List (List ℕ))) (number : ℕ) (own : Option (List ℕ)) → IfSome all (λ helds. length helds ≡ layout.drives)
    → IfSome all (λ helds. own ≡ Some (slice_index_or helds number [])) → HoldsPages (image_held layout all) layout number own
holds-own layout None number own many at = tt
holds-own layout (Some helds) number own many at =
    let u = layout.unit in
    let pages = pages_held u layout.pages helds in
    subst (HoldsPages (Some pages) layout number) (sym at)
    (λ page below on.
    holds_pages u layout.pages helds number page (omega (arith, below, length-map-range_with_len (page_on u helds) 0 layout.pages)) (ap (λ (d : ℕ). drive_of page d u) many ∙ on)
    ∙ ap (λ (d : ℕ). Some (page_of (slice_index_or helds number []) (local_of page d u))) many)

-- a fact of each drive and its number
each-at : {D : Type 0} (first : ℕ) (P : ℕ → D → Type 0) (drives : List D) → ((k : ℕ) (other : D) → k < length drives → P (first + k) (slice_index_or drives k other))
    → HasEachFrom first P drives
each-at first P [] at = tt
each-at first P (drive ∷ drives) at = (
  (let here : first + 0 ≡ first = omega arith in subst (λ (n : ℕ). P n drive) here (at 0 drive (omega arith))),
  each-at (suc first) P drives (λ k other below.
      let there : first + suc k ≡ suc first + k = omega arith in
      subst (λ (n : ℕ). P n (slice_index_or drives k other)) there (at (suc k) other (omega (arith, below)))),
)

module _ {D : Type 0} (held : D → Option (List ℕ)) (told : D → ℕ) (held_bytes : (drive : D) → IfSome (held drive) (λ bytes. All (λ byte. byte < 256) bytes))
    (told_held : (drive : D) → IfSome (held drive) (λ bytes. told drive ≤ page_count bytes)) (opened : Opened) (fits : OpenedFits opened)
    (drives : List D) (whole : HoldWhole told opened.layout drives) where
  stocked-at : (number : ℕ) (other : D) → number < length drives
      → IsStocked held told (image_held opened.layout (all_told held drives)) opened.layout number (slice_index_or drives number other)
  stocked-at number other below =
      let layout = opened.layout in
      let all = all_told held drives in
      record {
        pages = holds-own layout all number (held (slice_index_or drives number other))
            (subst (λ (n : ℕ). IfSome all (λ helds. length helds ≡ n)) whole.0 (all_told-length held drives)) (all_told-index held drives number other [] below);
        all_told = λ page within on.
            let at = page_told told layout drives page (place_of page layout.drives layout.unit) (striped-of opened fits) whole within refl other in
            let has = subst (λ (d : ℕ). local_of page layout.drives layout.unit + 1 ≤ told (slice_index_or drives d other)) on at in
            omega (arith, has);
      }

  -- a cache can be opened over drives that hold the image
  pub stocked : AreStocked held told (image_held opened.layout (all_told held drives)) opened.layout drives
  stocked =
      let Stocked : ℕ → D → Type 0 = IsStocked held told (image_held opened.layout (all_told held drives)) opened.layout in
      each-at 0 Stocked drives (λ number other below.
      let same : number ≡ 0 + number = omega arith in
      subst (λ (n : ℕ). Stocked n (slice_index_or drives number other)) same (stocked-at number other below))

  -- and it is a cache of the image
  pub cache-of : (site : Site) → site.layout ≡ opened.layout → site.image ≡ image_held opened.layout (all_told held drives) → IsCacheOf opened.layout opened.index site
  cache-of site layout image = record {
    same_layout = sym layout;
    striped = layout-of opened fits;
    fits = fits.index;
    told = λ pages is.
        held-pages opened.layout (all_told held drives) (pages_whole held told told_held opened.layout drives (striped-of opened fits) whole) pages (sym image ∙ is);
    bytes = subst (λ (told_image : Option (List (List ℕ))). All (λ byte. byte < 256) (image_of told_image)) (sym image)
        (held-bytes opened.layout (all_told held drives) (all_told-all held (λ bytes. All (λ byte. byte < 256) bytes) held_bytes drives));
  }
