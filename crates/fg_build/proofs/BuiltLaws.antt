-- Drives that held nothing and on which an image was built open to that image.
use Rattle.std.proofs.Common.{◌≡◌, ◌∙◌, ℕ, zero, suc, ◌+◌, ◌-◌, ◌*◌, ◌/◌, ◌^◌, ◌<◌, ◌≤◌, ◌==◌, true, Option, None, Some, Result, Ok, Err, List, [], ◌∷◌, ◌++◌, length, take, drop, map, slice_index_or, refl, sym, ap, subst, arith, eq-eqb, take_at, drop_at}
use Rattle.std.proofs.lemmas.Bool.{cond-true, eqb-true, le-leb}
use Rattle.std.proofs.lemmas.List.{drop-drop, get_or-map, take_all}
use Rattle.std.proofs.lemmas.List.Elements.{All-filter, All-head, All-tail, filter_passes}
use Rattle.std.proofs.lemmas.List.FromFn.{get_or-map-range_with_len, get_or-range_with_len, length-map-range_with_len, length-range_with_len}
use Rattle.std.proofs.Math.Nat.{mod-lt}
use Rattle.std.proofs.Math.Seq.{take-add}
use Rattle.std.specs.Cmp.Derive.{both_true}
use Rattle.std.specs.Prelude.{nat_le}
use Rattle.std.specs.List.{All, flat_map, range_with_len}
use Rattle.fg_base.specs.declared.refusal.Refusal.{Refusal}
use Rattle.fg_build.specs.declared.opened.Opened.{Opened}
use Rattle.fg_build.specs.Labelled.{IsAllLabelled}
use Rattle.fg_build.specs.Labels.{agrees_with, label_on, label_refusal, labels_refusal, need_of, or_else}
use Rattle.fg_build.specs.Layouts.{Plan, all_drive_bytes, drive_bytes, label_for, layout_of, layout_pages}
use Rattle.fg_build.specs.Opening.{graph_on, image_of, opened_by, opening_of, striped}
use Rattle.fg_build.proofs.BuildLaws.{layout_length, length-label_bytes, page_of-image}
use Rattle.fg_build.proofs.FrontLaws.{sections_pages}
use Rattle.fg_build.proofs.RefusalLaws.{first_some, judged, opening_by}
use Rattle.fg_image.specs.declared.header.Header.{Header}
use Rattle.fg_image.specs.Front.{with_header, with_layout}
use Rattle.fg_image.specs.Header.{header_at, sections_of}
use Rattle.fg_image.specs.Image.{Parts, index_in, index_of, parts_in, with_front, with_index}
use Rattle.fg_image.specs.Lists.{graph_by}
use Rattle.fg_image.specs.Made.{graph_of_edges, image_bytes}
use Rattle.fg_image.proofs.MakingLaws.{made_image}
use Rattle.fg_index.specs.ImageIndex.{ImageIndex}
use Rattle.fg_model.specs.Edges.{AreEdges, EdgeList}
use Rattle.fg_model.specs.Graph.{IsWithinLimits}
use Rattle.fg_model.specs.Mirror.{IsMirror}
use Rattle.fg_stripe.specs.declared.layout.Layout.{Layout}
use Rattle.fg_stripe.specs.declared.label.Label.{Label}
use Rattle.fg_stripe.specs.declared.layout.Place.{Place}
use Rattle.fg_stripe.specs.Held.{image_on, page_of, page_on}
use Rattle.fg_stripe.specs.Label.{is_accepted, label_bytes, label_of}
use Rattle.fg_stripe.specs.Striping.{drive_of, local_of, page_at, pages_on, place_of}
use Rattle.fg_stripe.proofs.LabelLaws.{reads-back}
use Rattle.fg_stripe.proofs.StripingLaws.{in_a_row, page_at-place_of, stands-within}

-- a plan within the engine's limits
pub record PlanFits (plan : Plan) : Type 0 where
  pub some_drives : 1 ≤ plan.drives
  pub few_drives : plan.drives ≤ 16
  pub some_unit : 1 ≤ plan.unit
  pub small_unit : plan.unit ≤ 256
  pub number_fits : plan.number < 2 ^ 64

-- a page behind a page
page_behind : (first rest : List ℕ) (page : ℕ) → length first ≡ 4096 → page_of (first ++ rest) (1 + page) ≡ page_of rest page
page_behind first rest page whole =
    let place : (1 + page) * 4096 ≡ 4096 + page * 4096 = omega arith in
    ap (take 4096) (ap (λ (n : ℕ). drop n (first ++ rest)) place ∙ sym (drop-drop (page * 4096) 4096 (first ++ rest)) ∙ ap (drop (page * 4096)) (drop_at first rest 4096 whole))

page_first : (first rest : List ℕ) → length first ≡ 4096 → page_of (first ++ rest) 0 ≡ first
page_first first rest whole = take_at first rest 4096 whole

-- a page among whole pages
page_among : (page : ℕ → List ℕ) (numbers : List ℕ) (place : ℕ) → All (λ number. length (page number) ≡ 4096) numbers → place < length numbers
    → page_of (flat_map page numbers) place ≡ page (slice_index_or numbers place 0)
page_among page [] place whole within = absurd (omega (arith, within))
page_among page (number ∷ numbers) zero whole within =
    page_first (page number) (flat_map page numbers) (All-head (λ number. length (page number) ≡ 4096) number numbers whole)
page_among page (number ∷ numbers) (suc place) whole within =
    let next : suc place ≡ 1 + place = omega arith in
    ap (page_of (page number ++ flat_map page numbers)) next
    ∙ page_behind (page number) (flat_map page numbers) place (All-head (λ number. length (page number) ≡ 4096) number numbers whole)
    ∙ page_among page numbers place (All-tail (λ number. length (page number) ≡ 4096) number numbers whole) (omega (arith, within))

-- the pages of bytes, one after another, are the bytes
pages_back : (bytes : List ℕ) (a m : ℕ) → flat_map (page_of bytes) (range_with_len a m) ≡ take (m * 4096) (drop (a * 4096) bytes)
pages_back bytes a zero = refl
pages_back bytes a (suc m) =
    let tail = drop (a * 4096) bytes in
    let size : suc m * 4096 ≡ 4096 + m * 4096 = omega arith in
    let next : (a + 1) * 4096 ≡ a * 4096 + 4096 = omega arith in
    ap (λ (rest : List ℕ). page_of bytes a ++ rest)
    (pages_back bytes (a + 1) m ∙ ap (λ (n : ℕ). take (m * 4096) (drop n bytes)) next ∙ ap (take (m * 4096)) (sym (drop-drop 4096 (a * 4096) bytes)))
    ∙ sym (take-add 4096 (m * 4096) tail)
    ∙ ap (λ (n : ℕ). take n tail) (sym size)

pages_same : (one other : ℕ → List ℕ) (a m : ℕ) → ((p : ℕ) → p < a + m → one p ≡ other p) → flat_map one (range_with_len a m) ≡ flat_map other (range_with_len a m)
pages_same one other a zero same = refl
pages_same one other a (suc m) same =
    ap (λ (first : List ℕ). first ++ flat_map one (range_with_len (a + 1) m)) (same a (omega arith))
    ∙ ap (λ (rest : List ℕ). other a ++ rest) (pages_same one other (a + 1) m (λ p within. same p (omega (arith, within))))

module _ (plan : Plan) (image : List ℕ) (fits : PlanFits plan) (some : 2 ≤ length image / 4096) (few : length image / 4096 ≤ 524288) where
  abbrev pages : ℕ
  pages = length image / 4096

  abbrev helds : List (List ℕ)
  helds = map (layout_of plan image) (range_with_len 0 plan.drives)

  abbrev label : ℕ → Label
  label drive = label_for plan pages drive

  many : length helds ≡ plan.drives
  many = length-map-range_with_len (layout_of plan image) 0 plan.drives

  held_at : (drive : ℕ) → drive < plan.drives → slice_index_or helds drive [] ≡ layout_of plan image drive
  held_at drive own = get_or-map-range_with_len (layout_of plan image) 0 plan.drives drive drive [] own (omega arith)

  accepted : (drive : ℕ) → drive < plan.drives → is_accepted (label drive) ≡ true
  accepted drive own =
      both_true (both_true (both_true (both_true (both_true (le-leb (suc drive) plan.drives own) (le-leb plan.drives 16 fits.few_drives)) (le-leb 1 plan.unit fits.some_unit))
      (le-leb plan.unit 256 fits.small_unit)) (le-leb 2 pages some)) (le-leb pages 524288 few)

  label_here : (drive : ℕ) → drive < plan.drives → label_on (layout_of plan image drive) ≡ Some (label drive)
  label_here drive own =
      let rest = flat_map (page_of image) (pages_on drive plan.drives plan.unit pages) in
      let long = layout_length plan image drive in
      let whole : 4096 ≤ length (layout_of plan image drive) = omega (arith, long) in
      cond-true (nat_le 4096 (length (layout_of plan image drive))) _ _ (le-leb 4096 _ whole)
      ∙ ap label_of (page_first (label_bytes (label drive)) rest (length-label_bytes (label drive)))
      ∙ reads-back (label drive) (omega (arith, own, fits.few_drives)) (omega (arith, fits.few_drives)) (omega (arith, fits.small_unit)) (omega (arith, few)) fits.number_fits
      ∙ cond-true (is_accepted (label drive)) (Some (label drive)) None (accepted drive own)

  none_here : (drive : ℕ) → drive < plan.drives → label_refusal plan.drives (label 0) drive (layout_of plan image drive) (label_on (layout_of plan image drive)) ≡ None
  none_here drive own =
      let have : length (layout_of plan image drive) / 4096 ≡ layout_pages plan image drive = omega (arith, layout_length plan image drive) in
      let agrees : agrees_with plan.drives (label 0) (label drive) ≡ true =
      both_true (both_true (both_true (eq-eqb plan.drives plan.drives refl) (eq-eqb plan.unit plan.unit refl)) (eq-eqb pages pages refl)) (eq-eqb plan.number plan.number refl) in
      judged plan.drives (label 0) drive (layout_of plan image drive) (label drive) (layout_pages plan image drive) (label_here drive own) (sym have)
      ∙ cond-true (drive == drive) _ _ (eq-eqb drive drive refl)
      ∙ cond-true (agrees_with plan.drives (label 0) (label drive)) _ _ agrees
      ∙ cond-true (nat_le (need_of drive (label drive)) (layout_pages plan image drive)) _ _ (le-leb (need_of drive (label drive)) (layout_pages plan image drive) (omega arith))

  none_from : (a m : ℕ) → a + m ≤ plan.drives → labels_refusal plan.drives (label 0) a (map (layout_of plan image) (range_with_len a m)) ≡ None
  none_from a zero within = refl
  none_from a (suc m) within =
      ap (λ (here : Option _). or_else here (labels_refusal plan.drives (label 0) (a + 1) (map (layout_of plan image) (range_with_len (a + 1) m)))) (none_here a (omega (arith, within)))
      ∙ none_from (a + 1) m (omega (arith, within))

  -- the labels agree
  pub all_labelled : IsAllLabelled helds (Ok (label 0))
  all_labelled = (
    first_some helds (label 0) (omega (arith, many, fits.some_drives)) (ap label_on (held_at 0 fits.some_drives) ∙ label_here 0 fits.some_drives),
    ap (λ (n : ℕ). labels_refusal n (label 0) 0 helds) many ∙ none_from 0 plan.drives (omega arith),
  )

  place_is : (drive q p : ℕ) → drive_of q plan.drives plan.unit ≡ drive → drive_of p plan.drives plan.unit ≡ drive
      → local_of q plan.drives plan.unit ≡ local_of p plan.drives plan.unit → q ≡ p
  place_is drive q p on own at =
      let made : ℕ → ℕ → Place = λ drive local. record { drive = drive; local = local } in
      let same : place_of q plan.drives plan.unit ≡ place_of p plan.drives plan.unit =
      ap (λ (d : ℕ). made d (local_of q plan.drives plan.unit)) (on ∙ sym own) ∙ ap (made (drive_of p plan.drives plan.unit)) at in
      sym (page_at-place_of plan.drives plan.unit fits.some_drives fits.some_unit q) ∙ ap (λ (place : Place). page_at place plan.drives plan.unit) same
      ∙ page_at-place_of plan.drives plan.unit fits.some_drives fits.some_unit p

  all_whole : All (λ page. length (page_of image page) ≡ 4096) (range_with_len 0 pages)
  all_whole k default inside =
      let within : k < pages = omega (arith, inside, length-range_with_len 0 pages) in
      let is : slice_index_or (range_with_len 0 pages) k default ≡ 0 + k = get_or-range_with_len 0 pages k default within in
      page_of-image image (slice_index_or (range_with_len 0 pages) k default) (omega (arith, is, within))

  -- a page of the image stands at its place
  page_here : (p : ℕ) → p < pages → page_on plan.unit helds p ≡ page_of image p
  page_here p within =
      let n = plan.drives in
      let u = plan.unit in
      let drive = drive_of p n u in
      let local = local_of p n u in
      let own : drive < n = mod-lt (p / u) fits.some_drives in
      let numbers = pages_on drive n u pages in
      let place = local - 1 in
      let behind : local ≡ 1 + place = omega arith in
      let inside : place < length numbers = omega (arith, stands-within n u fits.some_drives fits.some_unit p pages within) in
      let q = slice_index_or numbers place 0 in
      let on : drive_of q n u ≡ drive = eqb-true (drive_of q n u) drive (filter_passes (λ page. drive_of page n u == drive) (range_with_len 0 pages) place 0 inside) in
      let at : local_of q n u ≡ local =
      sym (get_or-map (λ page. local_of page n u) numbers place 0 0 inside)
      ∙ ap (λ (l : List ℕ). slice_index_or l place 0) (in_a_row n u fits.some_drives fits.some_unit drive pages own)
      ∙ get_or-range_with_len 1 (length numbers) place 0 inside ∙ sym behind in
      let whole : All (λ page. length (page_of image page) ≡ 4096) numbers =
      All-filter (λ page. drive_of page n u == drive) (λ page. length (page_of image page) ≡ 4096) (range_with_len 0 pages) all_whole in
      ap (λ (count : ℕ). page_of (slice_index_or helds (drive_of p count u) []) (local_of p count u)) many
      ∙ ap (λ (held : List ℕ). page_of held local) (held_at drive own)
      ∙ ap (page_of (layout_of plan image drive)) behind
      ∙ page_behind (label_bytes (label drive)) (flat_map (page_of image) numbers) place (length-label_bytes (label drive))
      ∙ page_among (page_of image) numbers place whole inside
      ∙ ap (page_of image) (place_is drive q p on refl at)

  -- and so the whole image does
  pub image_here : length image ≡ pages * 4096 → image_on plan.unit pages helds ≡ image
  unfolding image_on
  image_here whole =
      pages_same (page_on plan.unit helds) (page_of image) 0 pages (λ p within. page_here p (omega (arith, within)))
      ∙ pages_back image 0 pages
      ∙ take_all (pages * 4096) image (omega (arith, whole))

-- the parts of an image are of its pages
front_pages : (pages : ℕ) (image : List ℕ) (header : Header) (parts : Parts) → (placed : Result Layout Refusal) → placed ≡ sections_of header pages
    → with_front image (with_layout header placed) ≡ Ok parts → parts.layout.pages ≡ pages
front_pages pages image header parts (Err refusal) is found = absurd (cc)
front_pages pages image header parts (Ok layout) is found =
    index_pages (index_of header (index_in header image)) found
  where
    index_pages : (index : Result ImageIndex Refusal) → with_index (record { header = header; layout = layout }) index ≡ Ok parts → parts.layout.pages ≡ pages
    index_pages (Err refusal) found = absurd (cc)
    index_pages (Ok index) found =
        let made : Parts = record { header = header; layout = layout; index = index } in
        let same : made ≡ parts = cc in
        ap (λ (p : Parts). p.layout.pages) (sym same) ∙ sections_pages header pages layout is

parts_pages : (pages : ℕ) (image : List ℕ) (parts : Parts) → parts_in pages image ≡ Ok parts → parts.layout.pages ≡ pages
unfolding parts_in
parts_pages pages image parts found = header_pages (header_at (page_of image 0)) found where
  header_pages : (header : Result Header Refusal) → with_front image (with_header pages header) ≡ Ok parts → parts.layout.pages ≡ pages
  header_pages (Err refusal) found = absurd (cc)
  header_pages (Ok header) found = front_pages pages image header parts (sections_of header pages) refl found

-- drives on which an image was built, and which held nothing before, open to it, and its graph is that of the edges
pub record BuiltOpens (plan : Plan) (edges : EdgeList) (opened : Opened) : Type 0 where
  pub opens : opening_of (all_drive_bytes plan edges) ≡ Ok opened
  pub graph : graph_on opened (all_drive_bytes plan edges) ≡ graph_of_edges edges
  pub image : image_of opened (all_drive_bytes plan edges) ≡ image_bytes edges
  pub drives : opened.layout.drives ≡ plan.drives
  pub unit : opened.layout.unit ≡ plan.unit
  pub pages : opened.layout.pages ≡ length (image_bytes edges) / 4096
  pub vertices : opened.header.n ≡ edges.n
  pub weighted : opened.index.weighted ≡ edges.weighted
  pub out_entries : opened.header.out_entries ≡ length edges.pairs
  pub in_entries : opened.header.in_entries ≡ length edges.pairs
  pub limits : IsWithinLimits (graph_of_edges edges)
  pub mirror : IsMirror (graph_of_edges edges)

-- how an image is striped says nothing of its graph
graph_striped : (label : Label) (layout : Layout) (index : ImageIndex) (image : List ℕ) → graph_by (striped label layout) index image ≡ graph_by layout index image
unfolding graph_by
graph_striped label layout index image = refl

drive_bytes-are : (plan : Plan) (edges : EdgeList) → all_drive_bytes plan edges ≡ map (layout_of plan (image_bytes edges)) (range_with_len 0 plan.drives)
unfolding drive_bytes
drive_bytes-are plan edges = refl

pub built_opens : (plan : Plan) (edges : EdgeList) → AreEdges edges → PlanFits plan → (opened : Opened) × BuiltOpens plan edges opened
built_opens plan edges are fits =
    let image = image_bytes edges in
    let pages = length image / 4096 in
    let made = made_image edges are in
    let parts = made.0 in
    let is = made.1.is_image in
    let few : pages ≤ 524288 = is.few_pages in
    let whole : length image ≡ pages * 4096 = omega (arith, is.whole) in
    let helds = map (layout_of plan image) (range_with_len 0 plan.drives) in
    let first = label_for plan pages 0 in
    let there : image_on plan.unit pages helds ≡ image = image_here plan image fits is.some_pages few whole in
    let labelled = all_labelled plan image fits is.some_pages few in
    let opened : Opened = record { layout = striped first parts.layout; header = parts.header; index = parts.index } in
    let same_pages : parts.layout.pages ≡ pages = parts_pages pages image parts is.accepted in
    let opens : opening_of helds ≡ Ok opened =
    opening_by helds (Some first) None labelled.0 labelled.1
    ∙ ap (λ (found : Result Parts Refusal). opened_by first found) (ap (parts_in pages) there ∙ is.accepted) in
    let holds : image_on plan.unit parts.layout.pages helds ≡ image = ap (λ (n : ℕ). image_on plan.unit n helds) same_pages ∙ there in
    let graph : graph_on opened helds ≡ graph_of_edges edges =
    ap (λ (bytes : List ℕ). graph_by (striped first parts.layout) parts.index bytes) holds ∙ graph_striped first parts.layout parts.index image ∙ made.1.graph in
    let O : List (List ℕ) → Type 0 = λ helds. opening_of helds ≡ Ok opened in
    let G : List (List ℕ) → Type 0 = λ helds. graph_on opened helds ≡ graph_of_edges edges in
    let I : List (List ℕ) → Type 0 = λ helds. image_of opened helds ≡ image in
    let back = sym (drive_bytes-are plan edges) in (
      opened,
      record {
        opens = subst O back opens;
        graph = subst G back graph;
        image = subst I back holds;
        drives = refl;
        unit = refl;
        pages = same_pages;
        vertices = made.1.vertices;
        weighted = made.1.weighted;
        out_entries = made.1.out_entries;
        in_entries = made.1.in_entries;
        limits = made.1.limits;
        mirror = made.1.mirror;
      },
    )
