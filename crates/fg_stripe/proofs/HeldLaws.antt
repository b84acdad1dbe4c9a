-- The pages of an image that drives hold: where each page is whole, the image has just those pages, one behind the other.
use Rattle.std.proofs.Common.{◌≡◌, ℕ, zero, suc, ◌+◌, ◌*◌, ◌<◌, ◌≤◌, List, ◌++◌, length, take, drop, refl, sym, ap, ◌∙◌, append_assoc, append-nil, arith, subst, take_at, drop_at}
use Rattle.std.proofs.lemmas.List.{drop-drop, length-append}
use Rattle.std.specs.List.{flat_map, range_with_len}
use Rattle.fg_stripe.specs.Held.{image_on, page_of, page_on}

-- each of these pages is whole
pub record AreWhole (page : ℕ → List ℕ) (from count : ℕ) : Type 0 where
  pub each : (q : ℕ) → from ≤ q → q < from + count → length (page q) ≡ 4096

module _ (page : ℕ → List ℕ) where
  behind : (from count : ℕ) → AreWhole page from (suc count) → AreWhole page (from + 1) count
  behind from count whole = record { each = λ q above below. whole.each q (omega arith) (omega arith) }

  length-pages : (from count : ℕ) → AreWhole page from count → length (flat_map page (range_with_len from count)) ≡ count * 4096
  length-pages from zero whole = refl
  length-pages from (suc count) whole =
      let first = whole.each from (omega arith) (omega arith) in
      let rest = length-pages (from + 1) count (behind from count whole) in
      length-append (page from) (flat_map page (range_with_len (from + 1) count)) ∙ omega (arith, first, rest)

  page_of-pages : (from count p : ℕ) → AreWhole page from count → p < count → page_of (flat_map page (range_with_len from count)) p ≡ page (from + p)
  page_of-pages from zero p whole within = absurd (omega arith)
  page_of-pages from (suc count) zero whole within =
      let first = whole.each from (omega arith) (omega arith) in
      let here : from ≡ from + 0 = omega arith in
      take_at (page from) (flat_map page (range_with_len (from + 1) count)) 4096 first ∙ ap page here
  page_of-pages from (suc count) (suc p) whole within =
      let first = whole.each from (omega arith) (omega arith) in
      let rest = flat_map page (range_with_len (from + 1) count) in
      let place : suc p * 4096 ≡ 4096 + p * 4096 = omega arith in
      let there : from + 1 + p ≡ from + suc p = omega arith in
      let dropped : drop (suc p * 4096) (page from ++ rest) ≡ drop (p * 4096) rest =
      ap (λ (n : ℕ). drop n (page from ++ rest)) place ∙ sym (drop-drop (p * 4096) 4096 (page from ++ rest)) ∙ ap (drop (p * 4096)) (drop_at (page from) rest 4096 first) in
      ap (take 4096) dropped ∙ page_of-pages (from + 1) count p (behind from count whole) (omega arith) ∙ ap page there

  pages-more : (from count : ℕ) → flat_map page (range_with_len from (count + 1)) ≡ flat_map page (range_with_len from count) ++ page (from + count)
  pages-more from zero = append-nil (page from) ∙ ap page (let here : from ≡ from + 0 = omega arith in here)
  pages-more from (suc count) =
      let next : suc count + 1 ≡ suc (count + 1) = omega arith in
      let there : from + 1 + count ≡ from + suc count = omega arith in
      ap (λ (n : ℕ). flat_map page (range_with_len from n)) next
      ∙ ap (λ (rest : List ℕ). page from ++ rest) (pages-more (from + 1) count ∙ ap (λ (p : ℕ). flat_map page (range_with_len (from + 1) count) ++ page p) there)
      ∙ sym (append_assoc (page from) (flat_map page (range_with_len (from + 1) count)) (page (from + suc count)))

  drop-pages : (from front count : ℕ) → AreWhole page from (front + count)
      → drop (front * 4096) (flat_map page (range_with_len from (front + count))) ≡ flat_map page (range_with_len (from + front) count)
  drop-pages from zero count whole =
      let all : 0 + count ≡ count = omega arith in
      let here : from ≡ from + 0 = omega arith in
      ap (λ (n : ℕ). flat_map page (range_with_len from n)) all ∙ ap (λ (p : ℕ). flat_map page (range_with_len p count)) here
  drop-pages from (suc front) count whole =
      let all : suc front + count ≡ suc (front + count) = omega arith in
      let P : ℕ → Type 0 = λ n. AreWhole page from n in
      let rest = flat_map page (range_with_len (from + 1) (front + count)) in
      let first = whole.each from (omega arith) (omega arith) in
      let place : suc front * 4096 ≡ 4096 + front * 4096 = omega arith in
      let there : from + 1 + front ≡ from + suc front = omega arith in
      ap (λ (n : ℕ). drop (suc front * 4096) (flat_map page (range_with_len from n))) all
      ∙ ap (λ (n : ℕ). drop n (page from ++ rest)) place
      ∙ sym (drop-drop (front * 4096) 4096 (page from ++ rest))
      ∙ ap (drop (front * 4096)) (drop_at (page from) rest 4096 first)
      ∙ drop-pages (from + 1) front count (behind from (front + count) (subst P all whole))
      ∙ ap (λ (p : ℕ). flat_map page (range_with_len p count)) there

-- an image of whole pages is as long as they are
pub length-image_on : (unit pages : ℕ) (helds : List (List ℕ)) → ((q : ℕ) → q < pages → length (page_on unit helds q) ≡ 4096)
    → length (image_on unit pages helds) ≡ pages * 4096
unfolding image_on
length-image_on unit pages helds whole = length-pages (page_on unit helds) 0 pages (record { each = λ q above below. whole q (omega arith) })

-- its pages are those at their places on the drives
pub page_of-image_on : (unit pages : ℕ) (helds : List (List ℕ)) (p : ℕ) → ((q : ℕ) → q < pages → length (page_on unit helds q) ≡ 4096)
    → p < pages → page_of (image_on unit pages helds) p ≡ page_on unit helds p
unfolding image_on
page_of-image_on unit pages helds p whole within =
    let there : 0 + p ≡ p = omega arith in
    page_of-pages (page_on unit helds) 0 pages p (record { each = λ q above below. whole q (omega arith) }) within ∙ ap (page_on unit helds) there

-- an image with one page more
pub image_on-more : (unit pages : ℕ) (helds : List (List ℕ)) → image_on unit (pages + 1) helds ≡ image_on unit pages helds ++ page_on unit helds pages
unfolding image_on
image_on-more unit pages helds =
    let there : 0 + pages ≡ pages = omega arith in
    pages-more (page_on unit helds) 0 pages ∙ ap (λ (p : ℕ). flat_map (page_on unit helds) (range_with_len 0 pages) ++ page_on unit helds p) there

-- an image's bytes behind its first pages are those of the pages that are left
pub drop-image_on : (unit front count : ℕ) (helds : List (List ℕ)) → ((q : ℕ) → q < front + count → length (page_on unit helds q) ≡ 4096)
    → drop (front * 4096) (image_on unit (front + count) helds) ≡ flat_map (page_on unit helds) (range_with_len front count)
unfolding image_on
drop-image_on unit front count helds whole =
    let there : 0 + front ≡ front = omega arith in
    drop-pages (page_on unit helds) 0 front count (record { each = λ q above below. whole q (omega arith) })
    ∙ ap (λ (p : ℕ). flat_map (page_on unit helds) (range_with_len p count)) there
