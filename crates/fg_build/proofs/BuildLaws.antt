-- What building leaves on drives, and how many pages that is.
use Rattle.std.proofs.Common.{◌≡◌, ◌∙◌, ℕ, zero, suc, ◌+◌, ◌-◌, ◌*◌, ◌/◌, ◌<◌, ◌≤◌, ◌==◌, Bool, true, false, cond, Option, Err, List, [], ◌∷◌, ◌++◌, length, drop, refl, sym, ap, subst, arith, append-nil, length-append, length-take, length-drop}
use Rattle.std.specs.List.{filter, flat_map, range_with_len}
use Rattle.fg_base.specs.declared.refusal.Refusal.{Refusal}
use Rattle.fg_base.specs.Told.{grown, GrewByFirst}
use Rattle.fg_build.specs.Appending.{Appends, IsAppended, IsBegun, RoomyKeptFor, dealt, dealt_count}
use Rattle.fg_build.specs.Building.{Builds, HoldFirst, HoldImage, RoomyKeptForImage}
use Rattle.fg_build.specs.Layouts.{Plan, drive_bytes, label_for, layout_of, layout_pages, plan_of}
use Rattle.fg_build.proofs.AppendLaws.{Appends-stopped, IsAppended-as, IsAppended-more, IsBegun-before, kept_behind, kept_more}
use Rattle.fg_image.specs.Made.{image_bytes}
use Rattle.fg_model.specs.Edges.{EdgeList}
use Rattle.fg_outside.proofs.DriveLemmas.{EachDriveFrom-weaker}
use Rattle.fg_stripe.specs.declared.label.Label.{Label}
use Rattle.fg_stripe.specs.Held.{page_of}
use Rattle.fg_stripe.specs.Label.{label_bytes, zeros}
use Rattle.fg_stripe.specs.Striping.{drive_of, pages_on}

-- a label's page is one
pub length-label_bytes : (label : Label) → length (label_bytes label) ≡ 4096
unfolding label_bytes zeros
length-label_bytes label = refl

-- each page of an image of whole pages is whole
pub page_of-image : (image : List ℕ) (page : ℕ) → page < length image / 4096 → length (page_of image page) ≡ 4096
page_of-image image page within =
    let behind : length (drop (page * 4096) image) ≡ length image - page * 4096 = length-drop (page * 4096) image in
    let enough : 4096 ≤ length image - page * 4096 = omega (arith, within) in
    length-take 4096 (drop (page * 4096) image) ∙ omega (arith, behind, enough)

filtered_length : (test : ℕ → Bool) (page : ℕ → List ℕ) (a m : ℕ) → ((p : ℕ) → p < a + m → length (page p) ≡ 4096)
    → length (flat_map page (filter test (range_with_len a m))) ≡ length (filter test (range_with_len a m)) * 4096
filtered_length test page a zero whole = refl
filtered_length test page a (suc m) whole =
    let rest = filtered_length test page (a + 1) m (λ p within. whole p (omega (arith, within))) in
    one_more (test a) (filter test (range_with_len (a + 1) m)) rest
  where
    one_more : (taken : Bool) (pages : List ℕ) → length (flat_map page pages) ≡ length pages * 4096
        → length (flat_map page (cond taken (a ∷ pages) pages)) ≡ length (cond taken (a ∷ pages) pages) * 4096
    one_more true pages rest = let first : length (page a) ≡ 4096 = whole a (omega arith) in length-append (page a) (flat_map page pages) ∙ omega (arith, first, rest)
    one_more false pages rest = rest

-- a drive's part is so many pages
pub layout_length : (plan : Plan) (image : List ℕ) (drive : ℕ) → length (layout_of plan image drive) ≡ layout_pages plan image drive * 4096
layout_length plan image drive =
    let pages = length image / 4096 in
    let label = length-label_bytes (label_for plan pages drive) in
    let rest = filtered_length (λ page. drive_of page plan.drives plan.unit == drive) (page_of image) 0 pages (λ page within. page_of-image image page (omega (arith, within))) in
    length-append (label_bytes (label_for plan pages drive)) (flat_map (page_of image) (pages_on drive plan.drives plan.unit pages)) ∙ omega (arith, label, rest)

module _ (plan : Plan) (edges : EdgeList) (image : List ℕ) (is : image ≡ image_bytes edges) where
  drive_bytes-is : (drive : ℕ) → layout_of plan image drive ≡ drive_bytes plan edges drive
  unfolding drive_bytes
  drive_bytes-is drive = ap (λ (image : List ℕ). layout_of plan image drive) is

  module _ {D : Type 0} (held : D → Option (List ℕ)) (room : D → Option ℕ) (faults : D → ℕ) (olds news : List D) where
    pub holds_image : IsAppended held room faults (layout_of plan image) (layout_pages plan image) olds news → HoldImage held plan edges olds news
    holds_image all = EachDriveFrom-weaker 0 _ _ (λ drive old new grew. grew ∙ ap (grown (held old)) (drive_bytes-is drive)) olds news all.grew

    holds_first : (failed : ℕ) → IsBegun held faults (layout_of plan image) failed olds news → HoldFirst held plan edges olds news
    holds_first failed begun =
        EachDriveFrom-weaker 0 _ _
        (λ drive old new came. let P : List ℕ → Type 0 = λ part. GrewByFirst part (held old) (held new) in subst P (drive_bytes-is drive) came) olds news begun.grew

    pub builds_first : (refusal : Refusal) → Appends held room faults (layout_of plan image) (layout_pages plan image) olds news (Err refusal) → Builds held plan edges olds news (Err refusal)
    builds_first (Refusal.DriveFault failed) begun = holds_first failed begun
    builds_first refusal never = absurd never

    -- room for the parts is room for their pages
    pub kept_for_image : RoomyKeptFor room faults (layout_pages plan image) olds news → RoomyKeptForImage room faults plan edges olds news
    kept_for_image kept =
        kept_more held room faults (layout_pages plan image) (λ drive. length (drive_bytes plan edges drive) / 4096) olds news
        (λ drive.
        let long : length (drive_bytes plan edges drive) ≡ layout_pages plan image drive * 4096 = ap length (sym (drive_bytes-is drive)) ∙ layout_length plan image drive in
        omega (arith, long))
        kept

module _ (label : Label) (image : List ℕ) (counted : label.pages ≡ length image / 4096) where
  abbrev labels : ℕ → List ℕ
  labels drive = label_bytes (record label { drive = drive })

  abbrev taker : ℕ → ℕ
  taker page = drive_of page label.drives label.unit

  abbrev plan : Plan
  plan = plan_of label.drives label.unit label.number

  layout-is : (drive : ℕ) → layout_of plan image drive ≡ labels drive ++ dealt taker (page_of image) label.pages drive
  layout-is drive =
      let part : ℕ → List ℕ = λ pages. label_bytes (record label { drive = drive; pages = pages }) ++ dealt taker (page_of image) pages drive in
      ap part (sym counted)

  pages-are : (drive : ℕ) → layout_pages plan image drive ≡ 1 + dealt_count taker label.pages drive
  pages-are drive = ap (λ (pages : ℕ). 1 + dealt_count taker pages drive) (sym counted)

  module _ {D : Type 0} (held : D → Option (List ℕ)) (room : D → Option ℕ) (faults : D → ℕ) (olds mids news : List D) where
    pub labels_stop_it : (refusal : Refusal) → Appends held room faults labels (λ drive. 1) olds news (Err refusal)
        → Appends held room faults (layout_of plan image) (layout_pages plan image) olds news (Err refusal)
    labels_stop_it (Refusal.DriveFault failed) begun =
        IsBegun-before held room faults labels (dealt taker (page_of image) label.pages) (layout_of plan image) failed olds news layout-is begun
    labels_stop_it refusal never = absurd never

    module _ (labelled : IsAppended held room faults labels (λ drive. 1) olds mids) where
      pub pages_stop_it : (refusal : Refusal) → Appends held room faults (dealt taker (page_of image) label.pages) (dealt_count taker label.pages) mids news (Err refusal)
          → Appends held room faults (layout_of plan image) (layout_pages plan image) olds news (Err refusal)
      pages_stop_it refusal stopped =
          Appends-stopped held room faults labels (dealt taker (page_of image) label.pages) (λ drive. []) (layout_of plan image) (λ drive. 1) (dealt_count taker label.pages)
          (layout_pages plan image) refusal olds mids news (λ drive. layout-is drive ∙ sym (append-nil (labels drive ++ dealt taker (page_of image) label.pages drive))) labelled stopped

      pub image_whole : IsAppended held room faults (dealt taker (page_of image) label.pages) (dealt_count taker label.pages) mids news
          → IsAppended held room faults (layout_of plan image) (layout_pages plan image) olds news
      image_whole paged =
          IsAppended-as held room faults (λ drive. labels drive ++ dealt taker (page_of image) label.pages drive) (layout_of plan image)
          (λ drive. 1 + dealt_count taker label.pages drive) (layout_pages plan image) olds news (λ drive. sym (layout-is drive)) (λ drive. sym (pages-are drive))
          (IsAppended-more held room faults labels (dealt taker (page_of image) label.pages) (λ drive. 1) (dealt_count taker label.pages) olds mids news labelled paged)

      pub pages_kept : RoomyKeptFor room faults (dealt_count taker label.pages) mids news → RoomyKeptFor room faults (layout_pages plan image) olds news
      pages_kept kept =
          kept_behind held room faults (λ drive. 1) (dealt_count taker label.pages) (layout_pages plan image) labels olds mids news
          (λ drive. omega (arith, pages-are drive)) labelled kept

    pub labels_kept : RoomyKeptFor room faults (λ drive. 1) olds news → RoomyKeptFor room faults (layout_pages plan image) olds news
    labels_kept kept = kept_more held room faults (λ drive. 1) (layout_pages plan image) olds news (λ drive. omega arith) kept
