-- The image that drives hold: whose pages are whole, and whose parts are its pages.
use Rattle.std.proofs.Common.{◌≡◌, ◌∙◌, ℕ, ◌+◌, ◌*◌, ◌/◌, ◌<◌, ◌≤◌, Option, None, Some, IfSome, List, [], ◌∷◌, length, drop, slice_index_or, refl, sym, ap, subst, arith, length-drop, length-take, ◌-◌}
use Rattle.std.proofs.Math.Nat.{mod-lt}
use Rattle.fg_build.specs.Answers.{HoldWhole}
use Rattle.fg_build.specs.Pages.{IsStriped, pages_at}
use Rattle.fg_build.proofs.CallLaws.{IfSome-both}
use Rattle.fg_build.proofs.PageLaws.{page_told}
use Rattle.fg_outside.specs.Drives.{all_told}
use Rattle.fg_outside.specs.Pages.{page_count}
use Rattle.fg_outside.proofs.DriveLemmas.{all_told-holds, all_told-length}
use Rattle.fg_stripe.specs.declared.layout.Layout.{Layout}
use Rattle.fg_stripe.specs.Held.{image_on, page_of, page_on}
use Rattle.fg_stripe.proofs.HeldLaws.{drop-image_on}
use Rattle.fg_stripe.specs.Striping.{drive_of, local_of, place_of}

-- a page of a list of pages is whole where there are more pages
page_of-whole : (bytes : List ℕ) (page told : ℕ) → page + 1 ≤ told → told ≤ page_count bytes → length (page_of bytes page) ≡ 4096
page_of-whole bytes page told within held =
    let behind : length (drop (page * 4096) bytes) ≡ length bytes - page * 4096 = length-drop (page * 4096) bytes in
    let enough : 4096 ≤ length bytes - page * 4096 = omega (arith, within, held) in
    length-take 4096 (drop (page * 4096) bytes) ∙ omega (arith, behind, enough)

IfSome-each : {A : Type 0} (told : Option A) (pages : ℕ) (P : ℕ → A → Type 0) → ((page : ℕ) → page < pages → IfSome told (P page)) → IfSome told (λ x. (page : ℕ) → page < pages → P page x)
IfSome-each None pages P each = tt
IfSome-each (Some x) pages P each = each

module _ {D : Type 0} (held : D → Option (List ℕ)) (told : D → ℕ) (law : (drive : D) → IfSome (held drive) (λ bytes. told drive ≤ page_count bytes)) where
  page_whole : (layout : Layout) (drives : List D) (page : ℕ) → IsStriped layout → HoldWhole told layout drives → page < layout.pages
      → IfSome (all_told held drives) (λ helds. length (page_on layout.unit helds page) ≡ 4096)
  page_whole layout [] page striped whole within = absurd (omega (arith, striped.some_drives, whole.0))
  page_whole layout (one ∷ drives) page striped whole within =
      let d = layout.drives in
      let u = layout.unit in
      let all = one ∷ drives in
      let own : drive_of page d u < d = mod-lt (page / u) striped.some_drives in
      let has = page_told told layout all page (place_of page d u) striped whole within refl one in
      let drive : D = slice_index_or all (drive_of page d u) one in
      IfSome-both (all_told held all) _ _ _
      (λ helds whole_there many.
      let Q : ℕ → Type 0 = λ count. length (page_of (slice_index_or helds (drive_of page count u) []) (local_of page count u)) ≡ 4096 in
      subst Q (sym whole.0 ∙ sym many) whole_there)
      (all_told-holds held all (drive_of page d u) one [] (λ bytes. length (page_of bytes (local_of page d u)) ≡ 4096) (omega (arith, own, whole.0))
      (IfSome-both (held drive) _ _ _ (λ bytes enough same. page_of-whole bytes (local_of page d u) (told drive) has enough) (law drive) (law drive)))
      (all_told-length held all)

  -- each page of the image is whole on drives that told enough pages
  pub pages_whole : (layout : Layout) (drives : List D) → IsStriped layout → HoldWhole told layout drives
      → IfSome (all_told held drives) (λ helds. (page : ℕ) → page < layout.pages → length (page_on layout.unit helds page) ≡ 4096)
  pages_whole layout drives striped whole =
      IfSome-each (all_told held drives) layout.pages (λ page helds. length (page_on layout.unit helds page) ≡ 4096)
      (λ page within. page_whole layout drives page striped whole within)

-- the pages from one on, of the bytes of the image
pub image_behind : (unit pages : ℕ) (helds : List (List ℕ)) → ((page : ℕ) → page < pages → length (page_on unit helds page) ≡ 4096) → (first count : ℕ) → pages ≡ first + count
    → drop (first * 4096) (image_on unit pages helds) ≡ pages_at unit helds first count
image_behind unit pages helds whole first count all =
    ap (λ (n : ℕ). drop (first * 4096) (image_on unit n helds)) all ∙ drop-image_on unit first count helds (λ page within. whole page (omega (arith, all, within)))

-- all pages of an image, from its first on
pub image_all : (unit pages : ℕ) (helds : List (List ℕ)) → pages_at unit helds 0 pages ≡ image_on unit pages helds
unfolding image_on
image_all unit pages helds = refl
