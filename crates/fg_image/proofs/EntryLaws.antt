-- Runs of entries, and what one page of an image tells of those that stand on it.
use Rattle.std.proofs.Common.{◌≡◌, ℕ, zero, suc, ◌+◌, ◌-◌, ◌*◌, ◌/◌, ◌%◌, ◌≤◌, Bool, true, false, List, [], ◌∷◌, ◌++◌, length, take, drop, refl, sym, ap, ◌∙◌, arith}
use Rattle.std.proofs.lemmas.List.{drop-drop, drop-take}
use Rattle.std.proofs.lemmas.Nat.{div-add-mod'}
use Rattle.byteorder.specs.Endian.{little_number}
use Rattle.byteorder.specs.Numbers.{little_from-take}
use Rattle.fg_base.specs.declared.plain.Entry.{Entry}
use Rattle.fg_image.specs.Lists.{entries_at, entry_at}
use Rattle.fg_index.specs.ImageIndex.{entry_bytes}
use Rattle.fg_stripe.specs.Held.{page_of}
use Rattle.fg_stripe.specs.Label.{number_at}

-- a run of a + b entries is a run of a and, behind it, one of b
pub entries_at-append : (weighted : Bool) (bytes : List ℕ) (place a b : ℕ)
    → entries_at weighted bytes place (a + b) ≡ entries_at weighted bytes place a ++ entries_at weighted bytes (place + a * entry_bytes weighted) b
entries_at-append weighted bytes place zero b =
    let count : 0 + b ≡ b = omega arith in
    let here : place ≡ place + 0 * entry_bytes weighted = omega arith in
    ap (entries_at weighted bytes place) count ∙ ap (λ (at : ℕ). entries_at weighted bytes at b) here
entries_at-append weighted bytes place (suc a) b =
    let size = entry_bytes weighted in
    let count : suc a + b ≡ suc (a + b) = omega arith in
    let behind : (place + size) + a * size ≡ place + suc a * size = omega arith in
    ap (entries_at weighted bytes place) count
    ∙ ap (λ (rest : List Entry). entry_at weighted bytes place ∷ rest)
    (entries_at-append weighted bytes (place + size) a b ∙ ap (λ (at : ℕ). entries_at weighted bytes (place + size) a ++ entries_at weighted bytes at b) behind)

-- a run with one entry more
pub entries_at-more : (weighted : Bool) (bytes : List ℕ) (place i : ℕ)
    → entries_at weighted bytes place (i + 1) ≡ entries_at weighted bytes place i ++ entry_at weighted bytes (place + i * entry_bytes weighted) ∷ []
entries_at-more weighted bytes place i = entries_at-append weighted bytes place i 1

pub length-entries_at : (weighted : Bool) (bytes : List ℕ) (place count : ℕ) → length (entries_at weighted bytes place count) ≡ count
length-entries_at weighted bytes place zero = refl
length-entries_at weighted bytes place (suc count) = ap suc (length-entries_at weighted bytes (place + entry_bytes weighted) count)

-- a number within a page
pub number_on-page : (image : List ℕ) (page offset : ℕ) → offset + 4 ≤ 4096 → number_at image (page * 4096 + offset) ≡ number_at (page_of image page) offset
number_on-page image page offset within =
    let behind = drop (page * 4096) image in
    let all : offset + (4096 - offset) ≡ 4096 = omega arith in
    let cut : drop offset (page_of image page) ≡ take (4096 - offset) (drop offset behind) =
    ap (λ (n : ℕ). drop offset (take n behind)) (sym all) ∙ drop-take offset (4096 - offset) behind in
    ap (little_number 4) (sym (drop-drop offset (page * 4096) image))
    ∙ sym (ap (little_number 4) cut ∙ little_from-take 0 4 (4096 - offset) (drop offset behind) (omega arith))

-- an entry within a page
pub entry_on-page : (weighted : Bool) (image : List ℕ) (page offset : ℕ) → offset + entry_bytes weighted ≤ 4096
    → entry_at weighted image (page * 4096 + offset) ≡ entry_at weighted (page_of image page) offset
entry_on-page true image page offset within =
    let target = number_on-page image page offset (omega arith) in
    let there : (page * 4096 + offset) + 4 ≡ page * 4096 + (offset + 4) = omega arith in
    let weight : number_at image ((page * 4096 + offset) + 4) ≡ number_at (page_of image page) (offset + 4) =
    ap (number_at image) there ∙ number_on-page image page (offset + 4) (omega arith) in
    made _ _ _ _ target weight
  where
    made : (t u w x : ℕ) → t ≡ u → w ≡ x → (let one : Entry = record { target = t; weight = w } in one ≡ record { target = u; weight = x })
    made t u w x p q = rw (p, q) refl
entry_on-page false image page offset within = ap (λ (target : ℕ). plain target) (number_on-page image page offset within)
  where
    plain : ℕ → Entry
    plain target = record { target = target; weight = 1 }

-- a run within a page
pub entries_on-page : (weighted : Bool) (image : List ℕ) (page offset count : ℕ) → offset + count * entry_bytes weighted ≤ 4096
    → entries_at weighted image (page * 4096 + offset) count ≡ entries_at weighted (page_of image page) offset count
entries_on-page weighted image page offset zero within = refl
entries_on-page weighted image page offset (suc count) within =
    let size = entry_bytes weighted in
    let first : offset + size ≤ 4096 = omega arith in
    let next : (page * 4096 + offset) + size ≡ page * 4096 + (offset + size) = omega arith in
    let rest : entries_at weighted image ((page * 4096 + offset) + size) count ≡ entries_at weighted (page_of image page) (offset + size) count =
    ap (λ (at : ℕ). entries_at weighted image at count) next ∙ entries_on-page weighted image page (offset + size) count (omega arith) in
    ap (λ (entry : Entry). entry ∷ entries_at weighted image ((page * 4096 + offset) + size) count) (entry_on-page weighted image page offset first)
    ∙ ap (λ (entries : List Entry). entry_at weighted (page_of image page) offset ∷ entries) rest

-- the same of a place of the image
pub entry_at-page : (weighted : Bool) (image : List ℕ) (place : ℕ) → place % 4096 + entry_bytes weighted ≤ 4096
    → entry_at weighted image place ≡ entry_at weighted (page_of image (place / 4096)) (place % 4096)
entry_at-page weighted image place within =
    ap (entry_at weighted image) (sym (div-add-mod' place 4096)) ∙ entry_on-page weighted image (place / 4096) (place % 4096) within

pub entries_at-page : (weighted : Bool) (image : List ℕ) (place count : ℕ) → place % 4096 + count * entry_bytes weighted ≤ 4096
    → entries_at weighted image place count ≡ entries_at weighted (page_of image (place / 4096)) (place % 4096) count
entries_at-page weighted image place count within =
    ap (λ (at : ℕ). entries_at weighted image at count) (sym (div-add-mod' place 4096))
    ∙ entries_on-page weighted image (place / 4096) (place % 4096) count within

-- no entry straddles two pages
pub entry_whole : (weighted : Bool) (place : ℕ) → place % entry_bytes weighted ≡ 0 → place % 4096 + entry_bytes weighted ≤ 4096
entry_whole true place whole = omega arith
entry_whole false place whole = omega arith
