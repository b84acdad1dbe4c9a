-- What refuses drives by their labels, one after another.
use Rattle.std.proofs.Common.{◌≡◌, ◌≢◌, ◌∙◌, ℕ, suc, ◌+◌, ◌/◌, ◌<◌, ◌≤◌, Bool, true, false, cond, Option, None, Some, IfSome, Result, Ok, Err, List, [], ◌∷◌, length, drop, slice_index_or, refl, sym, ap, subst, arith, inl, inr, eq-eqb}
use Rattle.std.proofs.lemmas.Bool.{cond-true, cond-false, eqb-true, leb-true}
use Rattle.std.proofs.lemmas.Bool.{cases_eq, ne_eqb}
use Rattle.std.proofs.lemmas.List.{drop_more, drop_all}
use Rattle.std.specs.Prelude.{nat_le, ◌==◌, if◌then◌else◌}
use Rattle.fg_base.specs.declared.refusal.Refusal.{Refusal}
use Rattle.fg_base.specs.declared.refusal.Refusal.TheVariants.{LabelDiffers, NoLabel, ShortDrive, WrongDrive}
use Rattle.fg_build.specs.declared.opened.Opened.{Opened}
use Rattle.fg_build.specs.Calls.{IsContent, SaysOf}
use Rattle.fg_build.specs.Labels.{agrees_with, drives_refusal, first_label, label_on, label_refusal, labels_refusal, need_of, or_else, refusal_by}
use Rattle.fg_build.specs.Labelled.{IsAllLabelled, IsFirst, IsPassed, ToldEnough, first_refusal}
use Rattle.fg_build.proofs.CallLaws.{IfSome-all, SaysOf-weaker, all_told-before}
use Rattle.fg_build.specs.Opening.{opened_with, opening_of}
use Rattle.fg_build.proofs.LabelLaws.{both}
use Rattle.fg_outside.specs.Drives.{EachSame, HasEach, HasEachFrom, ToldBy, all_told}
use Rattle.fg_outside.proofs.DriveLemmas.{EachDriveFrom-weaker, HasEachFrom-after, all_told-length}
use Rattle.fg_stripe.specs.declared.label.Label.{Label}

some_content : (one refusal : Refusal) → IsContent one → Some one ≡ Some refusal → IsContent refusal
some_content one refusal content is = let same : one ≡ refusal = cc in subst IsContent same content

none_content : (refusal : Refusal) → None ≡ Some refusal → IsContent refusal
none_content refusal never = absurd (cc)

if_content : (test : Bool) (x y : Option Refusal) (refusal : Refusal) → (x ≡ Some refusal → IsContent refusal) → (y ≡ Some refusal → IsContent refusal)
    → cond test x y ≡ Some refusal → IsContent refusal
if_content true x y refusal one other is = one is
if_content false x y refusal one other is = other is

-- what refuses a drive by its label says something of what drives hold
pub refusal_by-content : (drives : ℕ) (first : Label) (drive have : ℕ) (label : Label) (refusal : Refusal) → refusal_by drives first drive have label ≡ Some refusal → IsContent refusal
refusal_by-content drives first drive have label refusal is =
    if_content (label.drive == drive) _ _ refusal
    (λ own. if_content (agrees_with drives first label) _ _ refusal
    (λ agrees. if_content (nat_le (need_of drive label) have) _ _ refusal (none_content refusal) (some_content (ShortDrive drive have (need_of drive label)) refusal tt) agrees)
    (some_content (LabelDiffers drive) refusal tt) own)
    (some_content (WrongDrive drive label.drive) refusal tt) is

if_none : (test : Bool) (x : Option Refusal) (refusal : Refusal) → cond test x (Some refusal) ≡ None → (test ≡ true) × (x ≡ None)
if_none true x refusal is = (refl, is)
if_none false x refusal is = absurd (cc)

pub needs_same : (drive : ℕ) (first label : Label) → label.drives ≡ first.drives → label.unit ≡ first.unit → label.pages ≡ first.pages → need_of drive label ≡ need_of drive first
needs_same drive first label drives unit pages = rw (drives, unit, pages) refl

-- a drive that nothing refuses has the pages that drive 0's label asks of it
pub passed_need : (drives : ℕ) (first : Label) (drive have : ℕ) (label : Label) → first.drives ≡ drives → refusal_by drives first drive have label ≡ None → need_of drive first ≤ have
passed_need drives first drive have label same is =
    let own = if_none (label.drive == drive) _ _ is in
    let agrees = if_none (agrees_with drives first label) _ _ own.1 in
    let enough = if_none' (nat_le (need_of drive label) have) _ agrees.1 in
    let number = both _ _ agrees.0 in
    let pages = both _ _ number.0 in
    let unit = both _ _ pages.0 in
    let need = needs_same drive first label (eqb-true _ _ unit.0 ∙ sym same) (eqb-true _ _ unit.1) (eqb-true _ _ pages.1) in
    let fits : need_of drive label ≤ have = leb-true _ _ enough in
    subst (λ (need : ℕ). need ≤ have) need fits
  where
    if_none' : (test : Bool) (refusal : Refusal) → cond test None (Some refusal) ≡ None → test ≡ true
    if_none' true refusal is = refl
    if_none' false refusal is = absurd (cc)

-- drive 0's label is of an image on so many drives
pub passed_drives : (drives : ℕ) (first : Label) (drive have : ℕ) (label : Label) → refusal_by drives first drive have label ≡ None → label.drives ≡ drives
passed_drives drives first drive have label is =
    let own = if_none (label.drive == drive) _ _ is in
    let agrees = if_none (agrees_with drives first label) _ _ own.1 in
    let number = both _ _ agrees.0 in
    let pages = both _ _ number.0 in
    let unit = both _ _ pages.0 in
    eqb-true _ _ unit.0

-- no label refuses a drive
pub refused_none : (drives : ℕ) (first : Label) (drive : ℕ) (held : List ℕ) (refusal : Refusal) → label_on held ≡ None → refusal ≡ NoLabel drive
    → label_refusal drives first drive held (label_on held) ≡ Some refusal
refused_none drives first drive held refusal none is = ap (label_refusal drives first drive held) none ∙ ap Some (sym is)

-- a label that was found judges its drive
pub judged : (drives : ℕ) (first : Label) (drive : ℕ) (held : List ℕ) (label : Label) (pages : ℕ) → label_on held ≡ Some label → pages ≡ length held / 4096
    → label_refusal drives first drive held (label_on held) ≡ refusal_by drives first drive pages label
judged drives first drive held label pages on count =
    ap (label_refusal drives first drive held) on ∙ ap (λ (have : ℕ). refusal_by drives first drive have label) (sym count)

-- pages that a drive told are enough
pub told_enough : {D : Type 0} (told : D → ℕ) (drive answer need : ℕ) (olds news : List D) → need ≤ answer → ToldBy told drive answer olds news → ToldEnough told drive need olds news
told_enough {D} told drive answer need olds news enough by =
    let R : ℕ → D → D → Type 0 = λ number old new. told new ≡ (if number == drive then answer else told old) in
    let S : ℕ → D → D → Type 0 = λ number old new. (number ≡ drive → need ≤ told new) × (number ≢ drive → told new ≡ told old) in
    EachDriveFrom-weaker 0 R S (λ number old new is. (
      λ own. let here : told new ≡ answer = is ∙ cond-true (number == drive) answer (told old) (eq-eqb number drive own) in omega (arith, here, enough),
      λ other. is ∙ cond-false (number == drive) answer (told old) (ne_eqb number drive other),
    )) olds news by

-- what the opening of drives comes to, by the label of drive 0 and what refuses them
pub opening_by : (helds : List (List ℕ)) (first : Option Label) (refusal : Option Refusal) → first_label helds ≡ first → drives_refusal helds first ≡ refusal
    → opening_of helds ≡ opened_with helds first refusal
unfolding opening_of
opening_by helds first refusal has refuses =
    ap (λ (label : Option Label). opened_with helds label (drives_refusal helds label)) has ∙ ap (opened_with helds first) refuses

first_at : (helds : List (List ℕ)) → 1 ≤ length helds → first_label helds ≡ label_on (slice_index_or helds 0 [])
first_at [] some = absurd (omega (arith, some))
first_at (held ∷ rest) some = refl

-- drive 0 has no label
pub first_none : (helds : List (List ℕ)) (refusal : Refusal) → 1 ≤ length helds → label_on (slice_index_or helds 0 []) ≡ None → refusal ≡ NoLabel 0 → opening_of helds ≡ Err refusal
first_none helds refusal some none is =
    let R : Refusal → Result Opened Refusal = Err in
    opening_by helds None (Some (NoLabel 0)) (first_at helds some ∙ none) refl ∙ ap R (sym is)

-- drive 0 has this label
pub first_some : (helds : List (List ℕ)) (label : Label) → 1 ≤ length helds → label_on (slice_index_or helds 0 []) ≡ Some label → first_label helds ≡ Some label
first_some helds label some on = first_at helds some ∙ on

-- its refusal is that of the drives
pub first_refused : (helds : List (List ℕ)) (label : Label) (refusal : Refusal) → 1 ≤ length helds → first_label helds ≡ Some label → first_refusal helds label ≡ Some refusal
    → opening_of helds ≡ Err refusal
first_refused [] label refusal some has refuses = absurd (omega (arith, some))
first_refused (held ∷ rest) label refusal some has refuses =
    opening_by (held ∷ rest) (Some label) (Some refusal) has
    (ap (λ (first : Option Refusal). or_else first (labels_refusal (length (held ∷ rest)) label 1 rest)) refuses)

-- the drives behind a drive that nothing refuses
pub passed_more : (drives : ℕ) (first : Label) (helds : List (List ℕ)) (drive : ℕ) → drive < length helds
    → label_refusal drives first drive (slice_index_or helds drive []) (label_on (slice_index_or helds drive [])) ≡ None
    → labels_refusal drives first drive (drop drive helds) ≡ labels_refusal drives first (drive + 1) (drop (drive + 1) helds)
passed_more drives first helds drive within passed =
    ap (labels_refusal drives first drive) (drop_more helds drive [] within)
    ∙ ap (λ (here : Option Refusal). or_else here (labels_refusal drives first (drive + 1) (drop (drive + 1) helds))) passed

-- the first drive that something refuses
pub refused_here : (drives : ℕ) (first : Label) (helds : List (List ℕ)) (drive : ℕ) (refusal : Refusal) → drive < length helds
    → label_refusal drives first drive (slice_index_or helds drive []) (label_on (slice_index_or helds drive [])) ≡ Some refusal
    → labels_refusal drives first drive (drop drive helds) ≡ Some refusal
refused_here drives first helds drive refusal within refused =
    ap (labels_refusal drives first drive) (drop_more helds drive [] within)
    ∙ ap (λ (here : Option Refusal). or_else here (labels_refusal drives first (drive + 1) (drop (drive + 1) helds))) refused

-- one more drive told enough
pub enough_more : {D : Type 0} (told : D → ℕ) (need : ℕ → ℕ) (drive : ℕ) (olds news : List D) → ToldEnough told drive (need drive) olds news
    → HasEach (λ number one. number < drive → need number ≤ told one) olds → HasEach (λ number one. number < drive + 1 → need number ≤ told one) news
enough_more {D} told need drive olds news enough has =
    let R : ℕ → D → D → Type 0 = λ number old new. (number ≡ drive → need drive ≤ told new) × (number ≢ drive → told new ≡ told old) in
    let P : ℕ → D → Type 0 = λ number one. number < drive → need number ≤ told one in
    let Q : ℕ → D → Type 0 = λ number one. number < drive + 1 → need number ≤ told one in
    HasEachFrom-after 0 P Q R (λ number old new did was below.
    elim (cases_eq number drive) [
      | inl own ↦ subst (λ (n : ℕ). need n ≤ told new) (sym own) (did.0 own)
      | inr other ↦ let kept : told new ≡ told old = did.1 other in let before : need number ≤ told old = was (omega (arith, other, below)) in omega (arith, kept, before)
    ]) olds news enough has

-- no drive of those below 0 told anything
each_by : {D : Type 0} (first : ℕ) (P : ℕ → D → Type 0) → ((number : ℕ) (one : D) → P number one) → (drives : List D) → HasEachFrom first P drives
each_by first P holds [] = tt
each_by first P holds (one ∷ drives) = (holds first one, each_by (suc first) P holds drives)

pub enough_first : {D : Type 0} (told : D → ℕ) (need : ℕ → ℕ) (olds news : List D) → ToldEnough told 0 (need 0) olds news
    → HasEach (λ number one. number < 1 → need number ≤ told one) news
enough_first {D} told need olds news enough =
    enough_more told need 0 olds news enough (each_by 0 (λ (number : ℕ) (one : D). number < 0 → need number ≤ told one) (λ number one below. absurd (omega (arith, below))) olds)

-- a fact of each drive, where its number is known to be one of a drive
pub each_within : {D : Type 0} (first : ℕ) (P Q : ℕ → D → Type 0) (drives : List D) → ((number : ℕ) (one : D) → number < first + length drives → P number one → Q number one)
    → HasEachFrom first P drives → HasEachFrom first Q drives
each_within first P Q [] holds has = tt
each_within first P Q (one ∷ drives) holds has =
    (holds first one (omega arith) has.0, each_within (suc first) P Q drives (λ number other below. holds number other (omega (arith, below))) has.1)

-- all drives told enough
pub enough_all : {D : Type 0} (told : D → ℕ) (need : ℕ → ℕ) (count : ℕ) (drives : List D) → length drives ≤ count
    → HasEach (λ number one. number < count → need number ≤ told one) drives → HasEach (λ number one. need number ≤ told one) drives
enough_all {D} told need count drives all has =
    each_within 0 (λ number one. number < count → need number ≤ told one) (λ number one. need number ≤ told one) drives
    (λ number one below enough. enough (omega (arith, below, all))) has

module _ {D : Type 0} (held : D → Option (List ℕ)) (olds : List D) (first : Label) (was : IfSome (all_told held olds) (λ helds. IsFirst helds (Ok first))) where
  -- nothing refuses drive 0
  pub labels_begin : 1 ≤ length olds → IfSome (all_told held olds) (λ helds. labels_refusal (length helds) first 0 helds ≡ labels_refusal (length helds) first 1 (drop 1 helds))
  labels_begin some =
      IfSome-all (all_told held olds) _ _ _ _ _ (λ helds is many more last. passed_more (length helds) first helds 0 (omega (arith, some, many)) is.1)
      was (all_told-length held olds) was was

  module _ (drive : ℕ) (currents : List D) (same : EachSame held olds currents) (count : length currents ≡ length olds)
      (so_far : IfSome (all_told held olds) (λ helds. labels_refusal (length helds) first 0 helds ≡ labels_refusal (length helds) first drive (drop drive helds))) where
    -- nothing refuses one more
    pub labels_more : drive < length olds → IfSome (all_told held currents) (λ helds. IsPassed (length currents) first drive (slice_index_or helds drive []) (Ok tt))
        → IfSome (all_told held olds) (λ helds. labels_refusal (length helds) first 0 helds ≡ labels_refusal (length helds) first (drive + 1) (drop (drive + 1) helds))
    labels_more within passed =
        IfSome-all (all_told held olds) _ _ _ _ _
        (λ helds many before here last.
        let n : length currents ≡ length helds = omega (arith, many, count) in
        let own : label_refusal (length helds) first drive (slice_index_or helds drive []) (label_on (slice_index_or helds drive [])) ≡ None =
        ap (λ (n : ℕ). label_refusal n first drive (slice_index_or helds drive []) (label_on (slice_index_or helds drive []))) (sym n) ∙ here in
        before ∙ passed_more (length helds) first helds drive (omega (arith, within, many)) own)
        (all_told-length held olds) so_far (all_told-before held olds currents _ same passed) was

    -- this refuses one
    pub labels_stop : (refusal : Refusal) → drive < length olds → IfSome (all_told held currents) (λ helds. IsPassed (length currents) first drive (slice_index_or helds drive []) (Err refusal))
        → IfSome (all_told held olds) (λ helds. SaysOf refusal (opening_of helds ≡ Err refusal))
    labels_stop refusal within refused =
        IfSome-all (all_told held olds) _ _ _ _ _
        (λ helds many before here is.
        let n : length currents ≡ length helds = omega (arith, many, count) in
        SaysOf-weaker refusal _ (opening_of helds ≡ Err refusal)
        (λ (says : label_refusal (length currents) first drive (slice_index_or helds drive []) (label_on (slice_index_or helds drive [])) ≡ Some refusal).
        let own : label_refusal (length helds) first drive (slice_index_or helds drive []) (label_on (slice_index_or helds drive [])) ≡ Some refusal =
        ap (λ (n : ℕ). label_refusal n first drive (slice_index_or helds drive []) (label_on (slice_index_or helds drive []))) (sym n) ∙ says in
        opening_by helds (Some first) (Some refusal) is.0
        (before ∙ refused_here (length helds) first helds drive refusal (omega (arith, within, many)) own))
        here)
        (all_told-length held olds) so_far (all_told-before held olds currents _ same refused) was

    -- nothing refuses any
    pub labels_end : length olds ≤ drive → IfSome (all_told held olds) (λ helds. IsAllLabelled helds (Ok first))
    labels_end all =
        IfSome-all (all_told held olds) _ _ _ _ _
        (λ helds many before is last. (
          is.0,
          before ∙ ap (labels_refusal (length helds) first drive) (drop_all drive helds (omega (arith, all, many))),
        ))
        (all_told-length held olds) so_far was was
