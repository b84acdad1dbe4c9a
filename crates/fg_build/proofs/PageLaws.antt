-- Pages of an image on drives that told enough pages.
use Rattle.std.proofs.Common.{◌≡◌, ◌∙◌, ℕ, ◌+◌, ◌*◌, ◌/◌, ◌<◌, ◌≤◌, Option, IfSome, List, [], ◌∷◌, ◌++◌, length, take, map, slice_index_or, refl, sym, ap, subst, arith, append-nil}
use Rattle.std.proofs.lemmas.Grind.{flat_map-append}
use Rattle.std.proofs.lemmas.List.FromFn.{map-range_with_len_more}
use Rattle.std.proofs.lemmas.Slice.{take-put_mid}
use borrow.Rule.Slice.PartMut.{put_mid}
use Rattle.std.proofs.Math.Nat.{mod-lt}
use Rattle.std.specs.List.{flat_map, range_with_len}
use Rattle.fg_build.specs.Answers.{HoldWhole}
use Rattle.fg_build.specs.Pages.{IsStriped, pages_at}
use Rattle.fg_build.proofs.CallLaws.{IfSome-both}
use Rattle.fg_outside.specs.Drives.{EachSame, all_told}
use Rattle.fg_outside.specs.Pages.{pages_of}
use Rattle.fg_outside.proofs.DriveLemmas.{EachDrive-length, EachTold-same, HasEach-index, all_told-length}
use Rattle.fg_stripe.specs.declared.layout.Layout.{Layout}
use Rattle.fg_stripe.specs.declared.layout.Place.{Place}
use Rattle.fg_stripe.specs.Held.{page_on}
use Rattle.fg_stripe.specs.Striping.{drive_of, local_of, pages_on, place_of}
use Rattle.fg_stripe.proofs.StripingLaws.{stands-within}

-- each page of the image is among those that its drive told
pub page_told : {D : Type 0} (told : D → ℕ) (layout : Layout) (drives : List D) (page : ℕ) (place : Place) → IsStriped layout → HoldWhole told layout drives → page < layout.pages
    → place ≡ place_of page layout.drives layout.unit → (other : D) → place.local + 1 ≤ told (slice_index_or drives place.drive other)
page_told {D} told layout drives page place striped whole within at other =
    let d = layout.drives in
    let u = layout.unit in
    let own : drive_of page d u < d = mod-lt (page / u) striped.some_drives in
    let inside : drive_of page d u < length drives = omega (arith, own, whole.0) in
    let enough : 1 + length (pages_on (drive_of page d u) d u layout.pages) ≤ told (slice_index_or drives (drive_of page d u) other) =
    HasEach-index (λ number one. 1 + length (pages_on number d u layout.pages) ≤ told one) drives (drive_of page d u) other inside whole.1 in
    let stands = stands-within d u striped.some_drives striped.some_unit page layout.pages within in
    let here : local_of page d u + 1 ≤ told (slice_index_or drives (drive_of page d u) other) = omega (arith, stands, enough) in
    let P : Place → Type 0 = λ place. place.local + 1 ≤ told (slice_index_or drives place.drive other) in
    subst P (sym at) here

-- what was read of its place is the page
pub page_read_is : {D : Type 0} (held : D → Option (List ℕ)) (drives : List D) (count unit page : ℕ) (place : Place) (into : List ℕ) → length drives ≡ count
    → place ≡ place_of page count unit → IfSome (all_told held drives) (λ helds. into ≡ pages_of place.local 1 (slice_index_or helds place.drive []))
    → IfSome (all_told held drives) (λ helds. into ≡ page_on unit helds page)
page_read_is held drives count unit page place into many at read =
    IfSome-both (all_told held drives) _ _ _
    (λ helds all is.
    let P : Place → Type 0 = λ place. into ≡ pages_of place.local 1 (slice_index_or helds place.drive []) in
    let Q : ℕ → Type 0 = λ count. into ≡ pages_of (local_of page count unit) 1 (slice_index_or helds (drive_of page count unit) []) in
    let here : count ≡ length helds = sym many ∙ sym all in
    subst Q here (subst P at is))
    (all_told-length held drives) read

-- drives that told enough still did after calls that changed nothing of it
pub HoldWhole-same : {D : Type 0} (told : D → ℕ) (layout : Layout) (olds news : List D) → EachSame told olds news → HoldWhole told layout olds → HoldWhole told layout news
HoldWhole-same told layout olds news same whole = (
  EachDrive-length _ olds news same ∙ whole.0,
  EachTold-same told (λ drive. 1 + length (pages_on drive layout.drives layout.unit layout.pages)) olds news same whole.1,
)

-- one number more
pub range_more : (a n : ℕ) → range_with_len a (n + 1) ≡ range_with_len a n ++ (a + n) ∷ []
range_more a n = sym (map_same (range_with_len a (n + 1))) ∙ map-range_with_len_more (λ x. x) a n (a + n) refl ∙ ap (λ (l : List ℕ). l ++ (a + n) ∷ []) (map_same (range_with_len a n))
  where
    map_same : (l : List ℕ) → map (λ x. x) l ≡ l
    map_same [] = refl
    map_same (x ∷ l) = ap (λ (l : List ℕ). x ∷ l) (map_same l)

-- one more page
pub pages_more : (unit : ℕ) (helds : List (List ℕ)) (first count page : ℕ) → page ≡ first + count → pages_at unit helds first (count + 1) ≡ pages_at unit helds first count ++ page_on unit helds page
pages_more unit helds first count page at =
    ap (flat_map (page_on unit helds)) (range_more first count)
    ∙ flat_map-append (page_on unit helds) (range_with_len first count) ((first + count) ∷ [])
    ∙ ap (λ (last : List ℕ). pages_at unit helds first count ++ last) (append-nil (page_on unit helds (first + count)) ∙ ap (page_on unit helds) (sym at))

-- the pages so far with one more in its place
pub filled_more : (told : Option (List (List ℕ))) (unit first count page at size : ℕ) (into new : List ℕ) → page ≡ first + count → at ≡ count * 4096 → length new ≡ 4096 → at ≤ length into
    → IfSome told (λ helds. take (count * 4096) into ≡ pages_at unit helds first count) → IfSome told (λ helds. new ≡ page_on unit helds page)
    → IfSome told (λ helds. take ((count + 1) * 4096) (put_mid at size into new) ≡ pages_at unit helds first (count + 1))
filled_more told unit first count page at size into new next place whole within had read =
    IfSome-both told _ _ _
    (λ helds before is.
    take-put_mid at size into new ((count + 1) * 4096) (omega (arith, place, whole)) within
    ∙ ap (λ (n : ℕ). take n into ++ new) place
    ∙ ap (λ (front : List ℕ). front ++ new) before
    ∙ ap (λ (last : List ℕ). pages_at unit helds first count ++ last) is
    ∙ sym (pages_more unit helds first count page next))
    had read
