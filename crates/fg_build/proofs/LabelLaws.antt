-- What labels say, and what refuses drives by them.
use Rattle.std.proofs.Common.{◌≡◌, ◌≢◌, ◌∙◌, ℕ, ◌<◌, ◌≤◌, Bool, true, false, ◌&&◌, Option, None, Some, IfSome, List, [], length, take, drop, slice_index_or, refl, sym, ap, subst, arith, inl, inr, eq-eqb}
use Rattle.std.proofs.lemmas.Bool.{cases_Bool, cond-true, cond-false, leb-true, le-leb}
use Rattle.std.specs.Prelude.{nat_le, ◌==◌, if◌then◌else◌}
use Rattle.fg_build.specs.Labels.{label_on}
use Rattle.fg_build.specs.Labelled.{LabelFits}
use Rattle.fg_build.proofs.CallLaws.{IfSome-both, all_told-before}
use Rattle.fg_outside.specs.Drives.{EachSame, ToldBy, all_told}
use Rattle.fg_outside.proofs.DriveLemmas.{EachDrive-numbered, EachDriveFrom-index, EachDriveFrom-more}
use Rattle.fg_outside.specs.Pages.{page_count, pages_of}
use Rattle.fg_stripe.specs.declared.label.Label.{Label}
use Rattle.fg_stripe.specs.Label.{fields_of, is_accepted, is_label, label_of}

-- both tests hold
pub both : (a b : Bool) → (a && b) ≡ true → (a ≡ true) × (b ≡ true)
both true b h = (refl, h)
both false b h = absurd (cc)

accepted_fits : (label : Label) → is_accepted label ≡ true → LabelFits label
accepted_fits label accepted =
    let few_pages = both _ _ accepted in
    let some_pages = both _ _ few_pages.0 in
    let small_unit = both _ _ some_pages.0 in
    let some_unit = both _ _ small_unit.0 in
    let few_drives = both _ _ some_unit.0 in
    record {
      own = leb-true _ _ few_drives.0;
      few_drives = leb-true _ _ few_drives.1;
      some_unit = leb-true _ _ some_unit.1;
      small_unit = leb-true _ _ small_unit.1;
      some_pages = leb-true _ _ some_pages.1;
      few_pages = leb-true _ _ few_pages.1;
    }

-- a label that was read has its fields within their ranges
pub label_fits : (page : List ℕ) (label : Label) → Some label ≡ label_of page → LabelFits label
label_fits page label read =
    elim (cases_Bool (is_label page)) [
      | inl is_so ↦
          let same : Some label ≡ Some (fields_of page) = read ∙ cond-true (is_label page) (Some (fields_of page)) None is_so in
          let is : label ≡ fields_of page = cc in
          let tests = both _ _ is_so in
          let accepted = both _ _ tests.0 in
          subst LabelFits (sym is) (accepted_fits (fields_of page) accepted.1)
      | inr is_not ↦
          let never : Some label ≡ None = read ∙ cond-false (is_label page) (Some (fields_of page)) None is_not in
          absurd (cc)
    ]

-- the label of a drive with a page is what its page 0 is
label_on-read : (held page : List ℕ) (pages : ℕ) → pages ≢ 0 → pages ≡ page_count held → page ≡ pages_of 0 1 held → label_on held ≡ label_of page
label_on-read held page pages some count read =
    let whole : 4096 ≤ length held = omega (arith, some, count) in
    cond-true (nat_le 4096 (length held)) (label_of (take 4096 (drop 0 held))) None (le-leb _ _ whole) ∙ ap label_of (sym read)

-- a drive with no page has no label
pub label_on-none : (held : List ℕ) → 0 ≡ page_count held → label_on held ≡ None
label_on-none held none =
    elim (cases_Bool (nat_le 4096 (length held))) [
      | inl is_so ↦ let whole : 4096 ≤ length held = leb-true _ _ is_so in absurd (omega (arith, none))
      | inr is_not ↦ cond-false (nat_le 4096 (length held)) (label_of (take 4096 (drop 0 held))) None is_not
    ]

-- what was counted and read of a drive, as its label
pub label_on-told : {D : Type 0} (held : D → Option (List ℕ)) (olds mids : List D) (drive pages : ℕ) (page : List ℕ) → EachSame held olds mids → pages ≢ 0
    → IfSome (all_told held olds) (λ helds. pages ≡ page_count (slice_index_or helds drive []))
    → IfSome (all_told held mids) (λ helds. page ≡ pages_of 0 1 (slice_index_or helds drive []))
    → IfSome (all_told held olds) (λ helds. label_on (slice_index_or helds drive []) ≡ label_of page)
label_on-told held olds mids drive pages page same some count read =
    IfSome-both (all_told held olds) _ _ _ (λ helds counted bytes. label_on-read (slice_index_or helds drive []) page pages some counted bytes)
    count (all_told-before held olds mids _ same read)

-- what a drive told is what it told when it was asked
pub told_here : {D : Type 0} (told : D → ℕ) (drive answer : ℕ) (olds news : List D) → drive < length olds → ToldBy told drive answer olds news
    → (other : D) → told (slice_index_or news drive other) ≡ answer
told_here told drive answer olds news within by other =
    EachDriveFrom-index (λ number old new. told new ≡ (if number == drive then answer else told old)) olds news drive other other within by
    ∙ cond-true (drive == drive) answer _ (eq-eqb drive drive refl)

-- and stays so where no drive is asked
pub told_then : {D : Type 0} (told : D → ℕ) (drive answer : ℕ) (olds mids news : List D) → ToldBy told drive answer olds mids → EachSame told mids news
    → ToldBy told drive answer olds news
told_then {D} told drive answer olds mids news by same =
    let R : ℕ → D → D → Type 0 = λ number old new. told new ≡ (if number == drive then answer else told old) in
    let S : D → D → Type 0 = λ old new. told new ≡ told old in
    EachDriveFrom-more 0 R (λ number. S) R (λ number old between new first second. second ∙ first) olds mids news by (EachDrive-numbered 0 S mids news same)
