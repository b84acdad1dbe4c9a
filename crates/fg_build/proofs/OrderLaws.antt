-- The appends of a build, one after another.
use Rattle.std.proofs.Common.{◌≡◌, ◌≢◌, ◌∙◌, ℕ, ◌+◌, ◌/◌, ◌<◌, ◌≤◌, ◌==◌, cond, Bool, true, false, Option, Err, List, [], ◌∷◌, ◌++◌, length, map, take, drop, refl, sym, ap, subst, arith, append-nil, append_assoc, eq-eqb, slice_index_or, slice_set}
use Rattle.std.proofs.lemmas.Bool.{cond-true, cond-false, ne_eqb}
use Rattle.std.proofs.lemmas.Grind.{flat_map-append}
use Rattle.std.proofs.lemmas.List.{take-append-drop}
use Rattle.std.proofs.lemmas.List.Elements.{filter-append}
use Rattle.std.proofs.lemmas.List.FromFn.{map-range_with_len_more, take-map-range_with_len}
use Rattle.std.specs.List.{filter, flat_map, range_with_len}
use Rattle.fg_base.specs.declared.refusal.Refusal.{Refusal}
use Rattle.fg_base.specs.Told.{grown, GrewByFirst}
use Rattle.fg_base.proofs.ToldLemmas.{grown-grown, grown-nil}
use Rattle.fg_build.specs.Appends.{AppendsInOrder, BuildsInOrder, HoldAfter, PageAppend, StopsAmong, added_to, append_of, build_appends, image_appends, label_appends, page_appends}
use Rattle.fg_build.specs.Layouts.{Plan, drive_bytes, label_for, plan_of}
use Rattle.fg_build.proofs.AppendLaws.{own_dealt}
use Rattle.fg_image.specs.Made.{image_bytes}
use Rattle.fg_model.specs.Edges.{EdgeList}
use Rattle.fg_outside.proofs.DriveLemmas.{EachDriveFrom-more, EachDriveFrom-same, EachDriveFrom-set}
use Rattle.fg_stripe.specs.declared.label.Label.{Label}
use Rattle.fg_stripe.specs.Held.{page_of}
use Rattle.fg_stripe.specs.Label.{label_bytes}
use Rattle.fg_stripe.specs.Striping.{drive_of}

abbrev own : ℕ → PageAppend → Bool
own drive one = one.drive == drive

abbrev page : PageAppend → List ℕ
page one = one.page

-- one list of appends behind another
pub added_to-append : (drive : ℕ) (first second : List PageAppend) → added_to drive (first ++ second) ≡ added_to drive first ++ added_to drive second
added_to-append drive first second =
    ap (flat_map page) (filter-append (own drive) first second) ∙ flat_map-append page (filter (own drive) first) (filter (own drive) second)

-- one append is its drive's alone
added_to-own : (drive : ℕ) (bytes : List ℕ) → added_to drive (append_of drive bytes ∷ []) ≡ bytes
added_to-own drive bytes =
    ap (flat_map page) (cond-true (drive == drive) (append_of drive bytes ∷ []) [] (eq-eqb drive drive refl)) ∙ append-nil bytes

added_to-other : (drive other : ℕ) (bytes : List ℕ) → other ≢ drive → added_to other (append_of drive bytes ∷ []) ≡ []
added_to-other drive other bytes differs =
    ap (flat_map page) (cond-false (drive == other) (append_of drive bytes ∷ []) [] (ne_eqb drive other (λ same. differs (sym same))))

module _ {D : Type 0} (held : D → Option (List ℕ)) where
  pub HoldAfter-none : (drives : List D) → HoldAfter held [] drives drives
  HoldAfter-none drives = EachDriveFrom-same 0 (λ drive old new. held new ≡ grown (held old) (added_to drive [])) (λ number one at. sym (grown-nil (held one))) drives

  pub HoldAfter-more : (first second : List PageAppend) (olds mids news : List D) → HoldAfter held first olds mids → HoldAfter held second mids news
      → HoldAfter held (first ++ second) olds news
  HoldAfter-more first second olds mids news one two =
      EachDriveFrom-more 0 (λ drive old new. held new ≡ grown (held old) (added_to drive first)) (λ drive old new. held new ≡ grown (held old) (added_to drive second))
      (λ drive old new. held new ≡ grown (held old) (added_to drive (first ++ second)))
      (λ drive old mid new came more. more ∙ ap (λ told. grown told (added_to drive second)) came
      ∙ grown-grown (held old) (added_to drive first) (added_to drive second) ∙ ap (grown (held old)) (sym (added_to-append drive first second)))
      olds mids news one two

  -- a drive was given a page
  pub HoldAfter-one : (drives : List D) (drive : ℕ) (bytes : List ℕ) (default new : D) → drive < length drives
      → held new ≡ grown (held (slice_index_or drives drive default)) bytes → HoldAfter held (append_of drive bytes ∷ []) drives (slice_set drives drive new)
  HoldAfter-one drives drive bytes default new within grew =
      EachDriveFrom-set (λ number before after. held after ≡ grown (held before) (added_to number (append_of drive bytes ∷ []))) drives drive default new
      (λ other one differs. sym (grown-nil (held one)) ∙ ap (grown (held one)) (sym (added_to-other drive other bytes differs)))
      within (grew ∙ ap (grown (held (slice_index_or drives drive default))) (sym (added_to-own drive bytes)))

  -- or some first bytes of it
  pub StopsAmong-one : (drives : List D) (drive : ℕ) (bytes : List ℕ) (default new : D) → drive < length drives
      → GrewByFirst bytes (held (slice_index_or drives drive default)) (held new) → StopsAmong held (append_of drive bytes ∷ []) drive drives (slice_set drives drive new)
  StopsAmong-one drives drive bytes default new within (k, grew) = record {
    before = [];
    next = append_of drive bytes;
    behind = [];
    order = refl;
    own = refl;
    bytes = k;
    holds = HoldAfter-one drives drive (take k bytes) default new within grew;
  }

  -- a stop behind others, and among the first of more
  pub StopsAmong-behind : (first second : List PageAppend) (failed : ℕ) (olds mids news : List D) → HoldAfter held first olds mids → StopsAmong held second failed mids news
      → StopsAmong held (first ++ second) failed olds news
  StopsAmong-behind first second failed olds mids news came stops =
      let last : List PageAppend = append_of failed (take stops.bytes stops.next.page) ∷ [] in
      let P : List PageAppend → Type 0 = λ appends. HoldAfter held appends olds news in
      record {
        before = first ++ stops.before;
        next = stops.next;
        behind = stops.behind;
        order = ap (λ (rest : List PageAppend). first ++ rest) stops.order ∙ sym (append_assoc first stops.before (stops.next ∷ stops.behind));
        own = stops.own;
        bytes = stops.bytes;
        holds = subst P (sym (append_assoc first stops.before last)) (HoldAfter-more first (stops.before ++ last) olds mids news came stops.holds);
      }

  pub StopsAmong-before : (first rest : List PageAppend) (failed : ℕ) (olds news : List D) → StopsAmong held first failed olds news → StopsAmong held (first ++ rest) failed olds news
  StopsAmong-before first rest failed olds news stops = record {
    before = stops.before;
    next = stops.next;
    behind = stops.behind ++ rest;
    order = ap (λ (some : List PageAppend). some ++ rest) stops.order ∙ append_assoc stops.before (stops.next ∷ stops.behind) rest;
    own = stops.own;
    bytes = stops.bytes;
    holds = stops.holds;
  }

  StopsAmong-within : (appends : List PageAppend) (k failed : ℕ) (olds news : List D) → StopsAmong held (take k appends) failed olds news → StopsAmong held appends failed olds news
  StopsAmong-within appends k failed olds news stops =
      let P : List PageAppend → Type 0 = λ some. StopsAmong held some failed olds news in
      subst P (take-append-drop k appends) (StopsAmong-before (take k appends) (drop k appends) failed olds news stops)

  -- appends one by one: one more of them, and a stop among them
  pub order_more : (append : ℕ → PageAppend) (k : ℕ) (olds mids news : List D) → HoldAfter held (map append (range_with_len 0 k)) olds mids
      → HoldAfter held (append k ∷ []) mids news → HoldAfter held (map append (range_with_len 0 (k + 1))) olds news
  order_more append k olds mids news came one =
      let P : List PageAppend → Type 0 = λ some. HoldAfter held some olds news in
      subst P (sym (map-range_with_len_more append 0 k k (omega arith))) (HoldAfter-more (map append (range_with_len 0 k)) (append k ∷ []) olds mids news came one)

  pub order_stops : (append : ℕ → PageAppend) (count k : ℕ) (refusal : Refusal) (olds mids news : List D) → k + 1 ≤ count → HoldAfter held (map append (range_with_len 0 k)) olds mids
      → AppendsInOrder held (append k ∷ []) mids news (Err refusal) → AppendsInOrder held (map append (range_with_len 0 count)) olds news (Err refusal)
  order_stops append count k (Refusal.DriveFault failed) olds mids news within came stops =
      let P : List PageAppend → Type 0 = λ some. StopsAmong held some failed olds news in
      StopsAmong-within (map append (range_with_len 0 count)) (k + 1) failed olds news
      (subst P (sym (map-range_with_len_more append 0 k k (omega arith)) ∙ sym (take-map-range_with_len append 0 count (k + 1) within))
      (StopsAmong-behind (map append (range_with_len 0 k)) (append k ∷ []) failed olds mids news came stops))
  order_stops append count k refusal olds mids news within came never = absurd never

  -- the first of two lists of appends stopped, or the second behind it
  pub stopped_first : (first rest : List PageAppend) (refusal : Refusal) (olds news : List D) → AppendsInOrder held first olds news (Err refusal)
      → AppendsInOrder held (first ++ rest) olds news (Err refusal)
  stopped_first first rest (Refusal.DriveFault failed) olds news stops = StopsAmong-before first rest failed olds news stops
  stopped_first first rest refusal olds news never = absurd never

  pub stopped_behind : (first second : List PageAppend) (refusal : Refusal) (olds mids news : List D) → HoldAfter held first olds mids → AppendsInOrder held second mids news (Err refusal)
      → AppendsInOrder held (first ++ second) olds news (Err refusal)
  stopped_behind first second (Refusal.DriveFault failed) olds mids news came stops = StopsAmong-behind first second failed olds mids news came stops
  stopped_behind first second refusal olds mids news came never = absurd never

  -- appends that are said otherwise
  pub builds_as : (one other : List PageAppend) (refusal : Refusal) (olds news : List D) → one ≡ other → AppendsInOrder held one olds news (Err refusal)
      → BuildsInOrder held other olds news (Err refusal)
  builds_as one other (Refusal.DriveFault failed) olds news is stops = let P : List PageAppend → Type 0 = λ some. StopsAmong held some failed olds news in subst P is stops
  builds_as one other refusal olds news is never = absurd never

-- the appends of an image with this label
pub image_appends-is : (label : Label) (image : List ℕ) → label.pages ≡ length image / 4096
    → label_appends label.drives label ++ page_appends label.drives label.unit image label.pages ≡ image_appends (plan_of label.drives label.unit label.number) image
image_appends-is label image counted =
    let all : ℕ → List PageAppend = λ pages. label_appends label.drives (record label { drive = 0; pages = pages }) ++ page_appends label.drives label.unit image pages in ap all counted

-- those of the image of these edges
pub build_appends-is : (plan : Plan) (edges : EdgeList) (image : List ℕ) → image ≡ image_bytes edges → image_appends plan image ≡ build_appends plan edges
unfolding build_appends
build_appends-is plan edges image is = ap (image_appends plan) is

-- appends made of numbers, as a drive is given them
added_to-map : (append : ℕ → PageAppend) (drive : ℕ) (numbers : List ℕ)
    → added_to drive (map append numbers) ≡ flat_map (λ k. (append k).page) (filter (λ k. (append k).drive == drive) numbers)
added_to-map append drive [] = refl
added_to-map append drive (k ∷ numbers) = one_more ((append k).drive == drive) (filter (own drive) (map append numbers)) (filter (λ k. (append k).drive == drive) numbers) (added_to-map append drive numbers)
  where
    one_more : (test : Bool) (given : List PageAppend) (rest : List ℕ) → flat_map page given ≡ flat_map (λ k. (append k).page) rest
        → flat_map page (cond test (append k ∷ given) given) ≡ flat_map (λ k. (append k).page) (cond test (k ∷ rest) rest)
    one_more true given rest same = ap (λ (behind : List ℕ). (append k).page ++ behind) same
    one_more false given rest same = same

-- all appends together give each drive its part of the image
pub added_to-build : (plan : Plan) (edges : EdgeList) (drive : ℕ) → drive < plan.drives → added_to drive (build_appends plan edges) ≡ drive_bytes plan edges drive
unfolding build_appends drive_bytes
added_to-build plan edges drive within =
    let image = image_bytes edges in
    let pages = length image / 4096 in
    let labels : ℕ → List ℕ = λ drive. label_bytes (label_for plan pages drive) in
    let paged : ℕ → PageAppend = λ page. append_of (drive_of page plan.drives plan.unit) (page_of image page) in
    let labelled : ℕ → PageAppend = λ drive. append_of drive (labels drive) in
    added_to-append drive (map labelled (range_with_len 0 plan.drives)) (map paged (range_with_len 0 pages))
    ∙ ap (λ (first : List ℕ). first ++ added_to drive (map paged (range_with_len 0 pages)))
    (added_to-map labelled drive (range_with_len 0 plan.drives) ∙ own_dealt labels plan.drives drive within)
    ∙ ap (λ (rest : List ℕ). labels drive ++ rest) (added_to-map paged drive (range_with_len 0 pages))
