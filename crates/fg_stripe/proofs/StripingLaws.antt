-- The laws of striping, for the crates above: a page and its place determine each other, and the pages of a drive stand
-- at its local pages 1, 2, .. without a gap.
use Rattle.std.proofs.Common.{◌≡◌, ◌≢◌, ℕ, zero, suc, ◌+◌, ◌-◌, ◌*◌, ◌/◌, ◌%◌, ◌<◌, ◌≤◌, ◌⊎◌, inl, inr, cond, List, [], ◌∷◌, ◌++◌, length, map, min, refl, sym, ap, subst, ◌∙◌, arith, eq-eqb, zero-add, append-nil}
use Rattle.std.proofs.Math.Nat.{mod-lt, mul-le-mul_right}
use Rattle.std.proofs.lemmas.Nat.{div-add-mod', div-mul-add, mod-mul-add, mul-add-lt}
use Rattle.std.proofs.lemmas.Bool.{cases_lt, cases_order, cases_eq, ne_eqb, cond-true, cond-false}
use Rattle.std.proofs.lemmas.List.{map-append, length-map}
use Rattle.std.proofs.lemmas.List.Elements.{filter-append}
use Rattle.std.proofs.lemmas.List.FromFn.{length-range_with_len}
use Rattle.std.specs.Prelude.{◌==◌}
use Rattle.std.specs.List.{filter, range_with_len}
use Rattle.fg_stripe.specs.declared.layout.Place.{Place}
use Rattle.fg_stripe.specs.Striping.{drive_of, local_of, place_of, page_at, pages_on}

-- quotient and rest of the next number
div_next : (n size : ℕ) → 0 < size
    → ((suc n / size ≡ n / size) × (suc n % size ≡ suc (n % size)) × (suc (n % size) < size))
    ⊎ ((suc n / size ≡ suc (n / size)) × (suc n % size ≡ 0) × (suc (n % size) ≡ size))
div_next n size some =
    let parts = div-add-mod' n size in
    let rest : n % size < size = mod-lt n some in
    elim (cases_lt (suc (n % size)) size) [
      | inl lt ↦
          let e : n / size * size + suc (n % size) ≡ suc n = omega arith in
          inl (
            ap (λ (m : ℕ). m / size) (sym e) ∙ div-mul-add (n / size) size (suc (n % size)) lt,
            ap (λ (m : ℕ). m % size) (sym e) ∙ mod-mul-add (n / size) size (suc (n % size)) lt,
            lt,
          )
      | inr ge ↦
          let e : suc (n / size) * size + 0 ≡ suc n = omega arith in
          inr (
            ap (λ (m : ℕ). m / size) (sym e) ∙ div-mul-add (suc (n / size)) size 0 some,
            ap (λ (m : ℕ). m % size) (sym e) ∙ mod-mul-add (suc (n / size)) size 0 some,
            omega arith,
          )
    ]

range-more : (a n : ℕ) → range_with_len a (suc n) ≡ range_with_len a n ++ (a + n) ∷ []
range-more a zero = let e : a + 0 ≡ a = omega arith in rw e refl
range-more a (suc n) =
    let e : a + 1 + n ≡ a + suc n = omega arith in
    ap (λ (l : List ℕ). a ∷ l) (range-more (a + 1) n ∙ ap (λ (m : ℕ). range_with_len (a + 1) n ++ m ∷ []) e)

below_all : (place before next all len : ℕ) → place ≡ 1 + before → next ≡ suc before → next ≤ all → len ≡ all → place < 1 + len
below_all place before next all len a b d e = omega arith

module _ (drives unit : ℕ) (some_drives : 0 < drives) (some_unit : 0 < unit) where
  -- the page at a page's place is that page
  pub page_at-place_of : (page : ℕ) → page_at (place_of page drives unit) drives unit ≡ page
  page_at-place_of page =
      let units = page / unit in
      let inner = page % unit in
      let inside : inner < unit = mod-lt page some_unit in
      let behind : local_of page drives unit - 1 ≡ units / drives * unit + inner = omega arith in
      let row : (local_of page drives unit - 1) / unit ≡ units / drives =
      ap (λ (m : ℕ). m / unit) behind ∙ div-mul-add (units / drives) unit inner inside in
      let column : (local_of page drives unit - 1) % unit ≡ inner =
      ap (λ (m : ℕ). m % unit) behind ∙ mod-mul-add (units / drives) unit inner inside in
      rw (row, column, div-add-mod' units drives) (div-add-mod' page unit)

  -- different pages have different places
  pub places-differ : (page other : ℕ) → page ≢ other → place_of page drives unit ≢ place_of other drives unit
  places-differ page other differ same =
      differ (sym (page_at-place_of page) ∙ ap (λ (place : Place). page_at place drives unit) same ∙ page_at-place_of other)

  -- each page behind a label is the place of a page
  pub place_of-page_at : (place : Place) → place.drive < drives → 0 < place.local → place_of (page_at place drives unit) drives unit ≡ place
  place_of-page_at place own behind =
      let units = (place.local - 1) / unit * drives + place.drive in
      let inner = (place.local - 1) % unit in
      let inside : inner < unit = mod-lt (place.local - 1) some_unit in
      let u : page_at place drives unit / unit ≡ units = div-mul-add units unit inner inside in
      let i : page_at place drives unit % unit ≡ inner = mod-mul-add units unit inner inside in
      let d : units % drives ≡ place.drive = mod-mul-add _ drives place.drive own in
      let r : units / drives ≡ (place.local - 1) / unit = div-mul-add _ drives place.drive own in
      let l : 1 + (place.local - 1) / unit * unit + inner ≡ place.local = omega (arith, div-add-mod' (place.local - 1) unit) in
      rw (u, i, d, r, l) refl

  -- how many of the first so many pages stand on a drive: a unit of each whole round, and its share of the last round
  abbrev pub count_on : ℕ → ℕ → ℕ
  count_on drive pages = pages / (drives * unit) * unit + min (pages % (drives * unit) - drive * unit) unit

  some_round : 0 < drives * unit
  some_round = let one : 1 * unit ≤ drives * unit = mul-le-mul_right unit some_drives in omega arith

  -- a page in its round
  in_round : (page : ℕ) → (page / (drives * unit) ≡ page / unit / drives) × (page % (drives * unit) ≡ drive_of page drives unit * unit + page % unit)
  in_round page =
      let units = page / unit in
      let inside : page % unit < unit = mod-lt page some_unit in
      let within : units % drives * unit + page % unit < unit * drives = mul-add-lt _ unit _ drives (mod-lt units some_drives) inside in
      let short : units % drives * unit + page % unit < drives * unit = omega arith in
      let whole = div-add-mod' page unit in
      let turns = div-add-mod' units drives in
      let whole' : (units / drives * drives + units % drives) * unit + page % unit ≡ page = rw turns whole in
      let e : units / drives * (drives * unit) + (units % drives * unit + page % unit) ≡ page = omega arith in (
        ap (λ (m : ℕ). m / (drives * unit)) (sym e) ∙ div-mul-add _ (drives * unit) _ short,
        ap (λ (m : ℕ). m % (drives * unit)) (sym e) ∙ mod-mul-add _ (drives * unit) _ short,
      )

  -- the next page counts where it stands on the drive, and not elsewhere
  step-on : (drive page : ℕ) → drive < drives → drive_of page drives unit ≡ drive → count_on drive (suc page) ≡ suc (count_on drive page)
  step-on drive page own on =
      let last : suc drive * unit ≤ drives * unit = mul-le-mul_right unit own in
      let round = in_round page in
      let inside : page % unit < unit = mod-lt page some_unit in
      let here : page % (drives * unit) ≡ drive * unit + page % unit = round.1 ∙ ap (λ (d : ℕ). d * unit + page % unit) on in
      elim (div_next page (drives * unit) some_round) [
        | inl next ↦ rw (next.0, next.1) (omega arith)
        | inr next ↦ rw (next.0, next.1) (omega arith)
      ]

  step-off : (drive page : ℕ) → drive < drives → (drive_of page drives unit ≡ drive → ⊥) → count_on drive (suc page) ≡ count_on drive page
  step-off drive page own off =
      let round = in_round page in
      let inside : page % unit < unit = mod-lt page some_unit in
      let last : suc drive * unit ≤ drives * unit = mul-le-mul_right unit own in
      elim (cases_order (drive_of page drives unit) drive) [
        | inl same ↦ absurd (off same)
        | inr (inl below) ↦
            let far : suc (drive_of page drives unit) * unit ≤ drive * unit = mul-le-mul_right unit below in
            elim (div_next page (drives * unit) some_round) [
              | inl next ↦ rw (next.0, next.1) (omega arith)
              | inr next ↦ absurd (omega arith)
            ]
        | inr (inr above) ↦
            let far : suc drive * unit ≤ drive_of page drives unit * unit = mul-le-mul_right unit above in
            elim (div_next page (drives * unit) some_round) [
              | inl next ↦ rw (next.0, next.1) (omega arith)
              | inr next ↦ rw (next.0, next.1) (omega arith)
            ]
      ]

  -- a page stands behind those of its drive that come before it
  local-count : (page : ℕ) → local_of page drives unit ≡ 1 + count_on (drive_of page drives unit) page
  local-count page =
      let round = in_round page in
      let inside : page % unit < unit = mod-lt page some_unit in
      rw (round.0, round.1) (omega arith)

  -- the local pages of the drive's pages are 1, 2, .. up to the count
  numbered : (drive pages : ℕ) → drive < drives
      → map (λ page. local_of page drives unit) (pages_on drive drives unit pages) ≡ range_with_len 1 (count_on drive pages)
  numbered drive zero own =
      let none : count_on drive 0 ≡ 0 =
      let whole : 0 / (drives * unit) ≡ 0 = ap (λ (m : ℕ). m / (drives * unit)) (omega arith) ∙ div-mul-add 0 (drives * unit) 0 some_round in
      let rest = div-add-mod' 0 (drives * unit) in
      rw whole (omega arith) in
      rw none refl
  numbered drive (suc page) own =
      let test = λ (p : ℕ). drive_of p drives unit == drive in
      let local = λ (p : ℕ). local_of p drives unit in
      let before = pages_on drive drives unit page in
      let grown : pages_on drive drives unit (suc page) ≡ before ++ cond (test page) (page ∷ []) [] =
      ap (filter test) (range-more 0 page ∙ ap (λ (m : ℕ). range_with_len 0 page ++ m ∷ []) (zero-add page))
      ∙ filter-append test (range_with_len 0 page) (page ∷ []) in
      elim (cases_eq (drive_of page drives unit) drive) [
        | inl on ↦
            let here : local page ≡ 1 + count_on drive page = local-count page ∙ ap (λ (d : ℕ). 1 + count_on d page) on in
            ap (map local) (grown ∙ ap (λ (l : List ℕ). before ++ l) (cond-true (test page) (page ∷ []) [] (eq-eqb _ _ on)))
            ∙ map-append local before (page ∷ [])
            ∙ ap (λ (l : List ℕ). l ++ local page ∷ []) (numbered drive page own)
            ∙ ap (λ (m : ℕ). range_with_len 1 (count_on drive page) ++ m ∷ []) here
            ∙ sym (range-more 1 (count_on drive page))
            ∙ ap (range_with_len 1) (sym (step-on drive page own on))
        | inr off ↦
            ap (map local) (grown ∙ ap (λ (l : List ℕ). before ++ l) (cond-false (test page) (page ∷ []) [] (ne_eqb _ _ off)) ∙ append-nil before)
            ∙ numbered drive page own
            ∙ ap (range_with_len 1) (sym (step-off drive page own off))
      ]

  pub length-pages_on : (drive pages : ℕ) → drive < drives → length (pages_on drive drives unit pages) ≡ count_on drive pages
  length-pages_on drive pages own =
      sym (length-map (pages_on drive drives unit pages) (λ (page : ℕ). local_of page drives unit))
      ∙ ap length (numbered drive pages own)
      ∙ length-range_with_len 1 (count_on drive pages)

  -- the local pages of a drive's pages are 1, 2, .. without a gap
  pub in_a_row : (drive pages : ℕ) → drive < drives
      → map (λ page. local_of page drives unit) (pages_on drive drives unit pages) ≡ range_with_len 1 (length (pages_on drive drives unit pages))
  in_a_row drive pages own = numbered drive pages own ∙ ap (range_with_len 1) (sym (length-pages_on drive pages own))

  count-grows : (drive page more : ℕ) → drive < drives → count_on drive page ≤ count_on drive (page + more)
  count-grows drive page zero own = let e : page + 0 ≡ page = omega arith in rw e (omega arith)
  count-grows drive page (suc more) own =
      let e : page + suc more ≡ suc (page + more) = omega arith in
      let before = count-grows drive page more own in
      elim (cases_eq (drive_of (page + more) drives unit) drive) [
        | inl on ↦ rw (e, step-on drive (page + more) own on) (omega (arith, before))
        | inr off ↦ rw (e, step-off drive (page + more) own off) before
      ]

  -- a page of the image stands among the pages that its drive needs: the label and the drive's pages
  pub stands-within : (page pages : ℕ) → page < pages → local_of page drives unit < 1 + length (pages_on (drive_of page drives unit) drives unit pages)
  stands-within page pages below =
      let drive = drive_of page drives unit in
      let own : drive < drives = mod-lt (page / unit) some_drives in
      let e : suc page + (pages - suc page) ≡ pages = omega arith in
      let grown : count_on drive (suc page) ≤ count_on drive pages =
      subst (λ (m : ℕ). count_on drive (suc page) ≤ count_on drive m) e (count-grows drive (suc page) (pages - suc page) own) in
      let here : local_of page drives unit ≡ 1 + count_on drive page = local-count page in
      let next : count_on drive (suc page) ≡ suc (count_on drive page) = step-on drive page own refl in
      below_all _ _ _ _ _ here next grown (length-pages_on drive pages own)
