-- The pages that a cache is named by: those that a run asks for, and no others.
use Rattle.std.proofs.Common.{◌≡◌, ◌∙◌, ℕ, ◌+◌, ◌*◌, ◌^◌, ◌/◌, ◌<◌, inl, inr, Bool, true, false, Option, None, Some, List, [], ◌∷◌, length, get_or, max, min, refl, sym, ap, subst, arith}
use Rattle.std.proofs.lemmas.Bool.{cases_lt, eqb-true, lt-ltb}
use Rattle.std.proofs.lemmas.List.{get_or_past}
use Rattle.std.proofs.lemmas.List.Elements.{Contains-append_cases, Contains-append_left, Contains-append_right}
use Rattle.std.proofs.lemmas.List.Folds.{list_any_at}
use Rattle.std.specs.Int.{div_ceil}
use Rattle.std.specs.List.{Contains, filter, flat_map, list_any, range_with_len, sum_by}
use Rattle.std.specs.Prelude.{◌==◌, is_some}
use Rattle.fg_base.specs.declared.plain.Dir.{Dir}
use Rattle.fg_base.specs.declared.plain.Need.{Need}
use Rattle.fg_build.specs.Answers.{OpenedFits}
use Rattle.fg_build.specs.Asked.{IsAskedPage}
use Rattle.fg_build.specs.declared.opened.Opened.{Opened}
use Rattle.fg_build.specs.ToldImage.{graph_over}
use Rattle.fg_cache.proofs.CountLemmas.{contains_filter, filter_contains}
use Rattle.fg_cache.proofs.SiteLemmas.{may_ask}
use Rattle.fg_cache.specs.Site.{Site, asked_pages, is_asked}
use Rattle.fg_image.proofs.SpanLaws.{each_degree, end_within}
use Rattle.fg_image.specs.Image.{IndexFits}
use Rattle.fg_image.specs.Lists.{begin_of, end_of}
use Rattle.fg_image.specs.Needed.{HoldsSome, IsNeededBySome, dirs_of}
use Rattle.fg_index.specs.ImageIndex.{ImageIndex, degrees_in, entry_bytes}
use Rattle.fg_iter.specs.Engine.{visits_of_all}
use Rattle.fg_model.specs.Engine.{OfEachBegun, begun_in}
use Rattle.fg_model.specs.Iteration.{Begun}
use Rattle.fg_model.specs.Program.{Rules}
use Rattle.fg_part.specs.declared.part_map.PartMap.{PartMap}
use Rattle.fg_stripe.specs.declared.layout.Layout.{Layout}
use Rattle.fg_worker.specs.Desk.{image_of}
use Rattle.fg_worker.specs.Visits.{holds_some, is_needed_for, needed_pages}
use Rattle.fg_worker.proofs.ListLaws.{Contains-cases, Contains-first, Contains-later}
use Rattle.fg_worker.proofs.NeededLaws.{needed-is, stands_in}
use Rattle.fg_engine.specs.Naming.{image_held, pages_asked, pages_needed}
use Rattle.fg_engine.specs.Runner.{AllowsPages, lists_of}
use Rattle.fg_engine.specs.Told.{visits_by_blocks}
use Rattle.fg_engine.proofs.StockLaws.{image-held}

-- ---- pieces of a list

contains-piece : {X A : Type 0} (f : X → List A) (xs : List X) (x : X) (a : A) → Contains xs x → Contains (f x) a → Contains (flat_map f xs) a
contains-piece f [] x a has among = absurd (omega (arith, has.1))
contains-piece f (y ∷ xs) x a has among =
    elim (Contains-cases y xs x has) [
      | inl is ↦ Contains-append_left (f y) (flat_map f xs) a (subst (λ z. Contains (f z) a) (sym is) among)
      | inr later ↦ Contains-append_right (f y) (flat_map f xs) a (contains-piece f xs x a later among)
    ]

-- an item of the pieces is one of some piece
record InPiece {X A : Type 0} (f : X → List A) (xs : List X) (a : A) : Type 0 where
  piece : X
  has_piece : Contains xs piece
  among : Contains (f piece) a

piece-contains : {X A : Type 0} (f : X → List A) (xs : List X) (a : A) → Contains (flat_map f xs) a → InPiece f xs a
piece-contains f [] a has = absurd (omega (arith, has.1))
piece-contains f (y ∷ xs) a has =
    elim (Contains-append_cases (f y) (flat_map f xs) a has) [
      | inl first ↦ record { piece = y; has_piece = Contains-first y xs y refl; among = first }
      | inr later ↦
          let found = piece-contains f xs a later in
          record { piece = found.piece; has_piece = Contains-later y xs found.piece found.has_piece; among = found.among }
    ]

-- a page that some item is
named-has : (asked : List ℕ) (page : ℕ) → is_asked asked page ≡ true → Contains asked page
named-has [] page is = absurd (cc)
named-has (one ∷ asked) page is = by_test (one == page) refl is (named-has asked page)
  where
    by_test : (test : Bool) → (one == page) ≡ test → is_asked (one ∷ asked) page ≡ true → (is_asked asked page ≡ true → Contains asked page) → Contains (one ∷ asked) page
    by_test true test is rest = Contains-first one asked page (eqb-true one page test)
    by_test false test is rest = Contains-later one asked page (rest (rw test at is))

-- ---- pages of needed lists

module _ (layout : Layout) (index : ImageIndex) (fits : IndexFits layout index) (need : Need) (vertices : List ℕ) where
  -- they are pages of the image
  pub needed-below : (page : ℕ) → IsNeededBySome layout index need vertices page → page < layout.pages
  needed-below page is =
      let dir = is.is_for.dir in
      let v = is.vertex in
      let holds = is.is_for.holds in
      elim (cases_lt v (length index.outs)) [
        | inl within ↦ omega (arith, end_within layout index dir v fits within, holds.to_end, holds.is_page)
        | inr beyond ↦
            let none : get_or (degrees_in index dir) v 0 ≡ 0 = get_or_past (degrees_in index dir) v 0 (omega (arith, beyond, each_degree layout index dir fits)) in
            let empty : get_or (degrees_in index dir) v 0 * entry_bytes index.weighted ≡ 0 = ap (λ (n : ℕ). n * entry_bytes index.weighted) none ∙ omega arith in
            absurd (omega (arith, empty, holds.from_begin, holds.to_end))
      ]

  holds-true : (begin end page : ℕ) → HoldsSome begin end page → holds_some begin end page ≡ true
  holds-true begin end page holds =
      lt-ltb (max begin (page * 4096)) (min end (page * 4096 + 4096)) (omega (arith, holds.from_begin, holds.to_end, holds.is_page))

  -- and among those that are counted
  pub needed-in : (page : ℕ) → IsNeededBySome layout index need vertices page → Contains (needed_pages layout index need vertices) page
  unfolding needed_pages
  needed-in page is =
      let v = is.vertex in
      let dir = is.is_for.dir in
      let holds : Dir → Bool = λ dir. holds_some (begin_of layout index dir v) (end_of layout index dir v) page in
      let one : is_needed_for layout index need page v ≡ true =
      list_any_at holds (dirs_of need) is.is_for.is_needed.0 dir is.is_for.is_needed.1
      (ap holds is.is_for.is_needed.2 ∙ holds-true (begin_of layout index dir v) (end_of layout index dir v) page is.is_for.holds) in
      contains_filter (λ page. list_any (is_needed_for layout index need page) vertices) (range_with_len 0 layout.pages) page
      (stands_in 0 layout.pages page (omega arith) (omega (arith, needed-below page is)))
      (list_any_at (is_needed_for layout index need page) vertices is.is_one.0 v is.is_one.1 (ap (is_needed_for layout index need page) is.is_one.2 ∙ one))

  -- what is among them is needed
  pub in-needed : (page : ℕ) → Contains (needed_pages layout index need vertices) page → IsNeededBySome layout index need vertices page
  unfolding needed_pages
  in-needed page has =
      needed-is layout index need vertices page
      (filter_contains (λ page. list_any (is_needed_for layout index need page) vertices) (range_with_len 0 layout.pages) page has).1

-- ---- the cache of a run

module _ (opened : Opened) (fits : OpenedFits opened) (P : Rules) (max : ℕ) (site : Site) (same_layout : site.layout ≡ opened.layout) where
  may : (page : ℕ) → page < opened.layout.pages → Contains site.asked page → Contains (asked_pages site) page
  may page below has = may_ask site page (subst (λ (l : Layout). page < l.pages) (sym same_layout) below) has

  allowed-by : (all : Option (List (List ℕ))) → site.asked ≡ pages_asked P opened max all
      → OfEachBegun (is_some (image_held opened.layout all)) (begun_in P (graph_over opened (image_of (image_held opened.layout all))) max)
      (AllowsPages opened.layout opened.index site P)
  allowed-by None asked = λ begun among page is.
      let below = needed-below opened.layout opened.index fits.index P.need begun.active page is in
      may page below (subst (λ (pages : List ℕ). Contains pages page) (sym asked) (stands_in 0 opened.layout.pages page (omega arith) (omega (arith, below))))
  allowed-by (Some helds) asked = λ begun among page is.
      let below = needed-below opened.layout opened.index fits.index P.need begun.active page is in
      let has = subst (λ (image : List ℕ). Contains (begun_in P (graph_over opened image) max) begun) (image-held opened.layout helds) (among refl) in
      may page below (subst (λ (pages : List ℕ). Contains pages page) (sym asked)
      (contains-piece (λ (one : Begun). needed_pages opened.layout opened.index P.need one.active) _ begun page has
      (needed-in opened.layout opened.index fits.index P.need begun.active page is)))

  -- what the iterations of the run need may be asked for
  pub allowed : (all : Option (List (List ℕ))) → site.image ≡ image_held opened.layout all → site.asked ≡ pages_asked P opened max all
      → OfEachBegun (is_some site.image) (begun_in P (graph_over opened (image_of site.image)) max) (AllowsPages opened.layout opened.index site P)
  allowed all image asked =
      let Allowed : Option (List (List ℕ)) → Type 0 = λ pages.
      OfEachBegun (is_some pages) (begun_in P (graph_over opened (image_of pages)) max) (AllowsPages opened.layout opened.index site P) in
      subst Allowed (sym image) (allowed-by all asked)

  -- and what may be asked for is needed
  pub asked-page : (begun : List Begun) → site.asked ≡ pages_needed P opened begun → (page : ℕ) → Contains (asked_pages site) page
      → IsAskedPage opened.layout opened.index P begun page
  unfolding asked_pages
  asked-page begun asked page has =
      let test = (filter_contains (is_asked site.asked) (range_with_len 0 site.layout.pages) page has).1 in
      let named = subst (λ (pages : List ℕ). Contains pages page) asked (named-has site.asked page test) in
      let found = piece-contains (λ (one : Begun). needed_pages opened.layout opened.index P.need one.active) begun page named in
      record {
        iteration = found.piece;
        has_begun = found.has_piece;
        is_for_active = in-needed opened.layout opened.index fits.index P.need found.piece.active page found.among;
      }

-- ---- visits

-- the visits of iterations depend on the blocks alone
pub visits-same : (opened : Opened) (P : Rules) (site : Site) (map : PartMap) (shift : ℕ) (begun : List Begun) → map.n ≡ length opened.index.outs → map.shift ≡ shift
    → visits_of_all (lists_of opened.layout opened.index site) P map begun ≡ sum_by (λ (one : Begun). visits_by_blocks opened P shift one.active) begun
visits-same opened P site map shift begun vertices size =
    let on : ℕ → List ℕ → ℕ → ℕ = λ shift vertices block. length (needed_pages opened.layout opened.index P.need (filter (λ v. v / 2 ^ shift == block) vertices)) in
    let all : ℕ → ℕ → ℕ = λ n shift. sum_by (λ (one : Begun). sum_by (on shift one.active) (range_with_len 0 (div_ceil n (2 ^ shift)))) begun in
    ap (λ (n : ℕ). all n map.shift) vertices ∙ ap (all (length opened.index.outs)) size
