-- What drives told of their pages: asked one by one, up to the first that ends the asking.
use Rattle.std.proofs.Common.{◌≡◌, ◌≢◌, ◌∙◌, ℕ, ◌+◌, ◌<◌, ◌≤◌, Bool, true, false, cond, Option, Some, List, length, refl, sym, subst, arith, eq-eqb, inl, inr}
use Rattle.std.proofs.lemmas.Bool.{cases_eq, cond-true, cond-false, eqb-true, leb-false, ne_eqb}
use Rattle.std.specs.Prelude.{nat_le, ◌==◌, if◌then◌else◌}
use Rattle.fg_base.specs.declared.refusal.Refusal.{Refusal}
use Rattle.fg_base.specs.declared.refusal.Refusal.TheVariants.{BadIndex, LabelDiffers, Memory, NoLabel, ShortDrive, WrongDrive}
use Rattle.fg_build.specs.Answers.{HoldWhole}
use Rattle.fg_build.specs.Labelled.{ToldEnough, striping_of}
use Rattle.fg_build.specs.Labels.{agrees_with, need_of, refusal_by}
use Rattle.fg_build.specs.PagesTold.{IsBehindLabels, IsOf, IsRefusedAt, IsUnlabelled, RefusedTold, ToldAlone, ToldFirst, ToldFor, ToldHere, ToldNeeds, ToldNone}
use Rattle.fg_build.proofs.LabelLaws.{both}
use Rattle.fg_build.proofs.RefusalLaws.{needs_same}
use Rattle.fg_outside.specs.Drives.{EachDriveFrom, EachSame, ToldBy}
use Rattle.fg_outside.proofs.DriveLemmas.{EachDrive-numbered, EachDriveFrom-more, EachDriveFrom-same, EachDriveFrom-weaker}
use Rattle.fg_stripe.specs.declared.label.Label.{Label}

-- a number is this one, or another
split : (number drive : ℕ) (P : Type 0) → (number ≡ drive → P) → (number ≢ drive → P) → P
split number drive P own other = elim (cases_eq number drive) [ inl is ↦ own is | inr differs ↦ other differs ]

module _ {D : Type 0} (told : D → ℕ) where
  -- an answer is its drive's alone
  abbrev Answered : ℕ → ℕ → ℕ → D → D → Type 0
  Answered drive answer number old new = (number ≡ drive → told new ≡ answer) × (number ≢ drive → told new ≡ told old)

  answered : (drive answer : ℕ) (olds news : List D) → ToldBy told drive answer olds news → EachDriveFrom 0 (Answered drive answer) olds news
  answered drive answer olds news by =
      EachDriveFrom-weaker 0 (λ number old new. told new ≡ (if number == drive then answer else told old)) (Answered drive answer)
      (λ number old new is. (
        λ own. is ∙ cond-true (number == drive) answer (told old) (eq-eqb number drive own),
        λ other. is ∙ cond-false (number == drive) answer (told old) (ne_eqb number drive other),
      )) olds news by

  pub ToldBy-alone : (drive answer : ℕ) (olds news : List D) → ToldBy told drive answer olds news → ToldAlone told drive olds news
  ToldBy-alone drive answer olds news by =
      EachDriveFrom-weaker 0 (Answered drive answer) (λ number old new. number ≢ drive → told new ≡ told old) (λ number old new is. is.1) olds news (answered drive answer olds news by)

  pub EachSame-alone : (drive : ℕ) (olds news : List D) → EachSame told olds news → ToldAlone told drive olds news
  EachSame-alone drive olds news same =
      EachDriveFrom-weaker 0 (λ number old new. told new ≡ told old) (λ number old new. number ≢ drive → told new ≡ told old) (λ number old new is other. is) olds news
      (EachDrive-numbered 0 (λ old new. told new ≡ told old) olds news same)

  pub ToldAlone-then : (drive : ℕ) (olds mids news : List D) → ToldAlone told drive olds mids → EachSame told mids news → ToldAlone told drive olds news
  ToldAlone-then drive olds mids news alone same =
      let R : ℕ → D → D → Type 0 = λ number old new. number ≢ drive → told new ≡ told old in
      EachDriveFrom-more 0 R (λ number old new. told new ≡ told old) R (λ number old mid new first second other. second ∙ first other) olds mids news alone
      (EachDrive-numbered 0 (λ old new. told new ≡ told old) mids news same)

  -- no drive was asked yet
  pub ToldNone-begin : (drives : List D) → ToldNone told 0 drives drives
  ToldNone-begin drives =
      EachDriveFrom-same 0 (λ number old new. (number < 0 → told new ≡ 0) × (0 ≤ number → told new ≡ told old))
      (λ number one from. (λ below. absurd (omega (arith, below)), λ all. refl)) drives

  -- one more told no page
  pub ToldNone-more : (drive answer : ℕ) (olds mids news : List D) → ToldNone told drive olds mids → ToldBy told drive answer mids news → answer ≡ 0 → ToldNone told (drive + 1) olds news
  ToldNone-more drive answer olds mids news none by is =
      EachDriveFrom-more 0 (λ number old new. (number < drive → told new ≡ 0) × (drive ≤ number → told new ≡ told old)) (Answered drive answer)
      (λ number old new. (number < drive + 1 → told new ≡ 0) × (drive + 1 ≤ number → told new ≡ told old))
      (λ number old mid new first second. (
        λ below. split number drive (told new ≡ 0) (λ own. second.0 own ∙ is) (λ other. second.1 other ∙ first.0 (omega (arith, below, other))),
        λ behind. second.1 (λ own. omega (arith, own, behind)) ∙ first.1 (omega (arith, behind)),
      )) olds mids news none (answered drive answer mids news by)

  -- one told a page
  pub ToldNone-ends : (drive answer : ℕ) (olds mids news : List D) → ToldNone told drive olds mids → ToldBy told drive answer mids news → answer ≢ 0 → ToldFirst told drive olds news
  ToldNone-ends drive answer olds mids news none by some =
      EachDriveFrom-more 0 (λ number old new. (number < drive → told new ≡ 0) × (drive ≤ number → told new ≡ told old)) (Answered drive answer)
      (λ number old new. (number < drive → told new ≡ 0) × (number ≡ drive → 1 ≤ told new) × (drive < number → told new ≡ told old))
      (λ number old mid new first second. (
        λ below. second.1 (λ own. omega (arith, own, below)) ∙ first.0 below,
        λ own. (let is = second.0 own in omega (arith, is, some)),
        λ behind. second.1 (λ own. omega (arith, own, behind)) ∙ first.1 (omega (arith, behind)),
      )) olds mids news none (answered drive answer mids news by)

  -- one failed
  pub ToldNone-fails : (drive : ℕ) (olds mids news : List D) → ToldNone told drive olds mids → EachSame told mids news → ToldNone told drive olds news
  ToldNone-fails drive olds mids news none same =
      let R : ℕ → D → D → Type 0 = λ number old new. (number < drive → told new ≡ 0) × (drive ≤ number → told new ≡ told old) in
      EachDriveFrom-more 0 R (λ number old new. told new ≡ told old) R
      (λ number old mid new first second. (λ below. second ∙ first.0 below, λ behind. second ∙ first.1 behind)) olds mids news none
      (EachDrive-numbered 0 (λ old new. told new ≡ told old) mids news same)

  -- a drive without a label is refused so, whatever the label that the others agree with
  pub ToldHere-none : (label : Label) (drive : ℕ) (refusal : Refusal) (olds news : List D) → IsUnlabelled drive refusal → ToldAlone told drive olds news
      → ToldHere told label drive refusal olds news
  ToldHere-none label drive refusal olds news is alone =
      EachDriveFrom-weaker 0 (λ number old new. number ≢ drive → told new ≡ told old) (λ number old new. (number ≡ drive → ToldFor label drive refusal (told new)) × (number ≢ drive → told new ≡ told old))
      (λ number old new other. (λ own. nothing label drive refusal (told new) is, other)) olds news alone
    where
      nothing : (label : Label) (drive : ℕ) (refusal : Refusal) (pages : ℕ) → IsUnlabelled drive refusal → ToldFor label drive refusal pages
      nothing label drive (NoLabel named) pages is = tt
      nothing label drive (Refusal.DriveFault named) pages is = tt
      nothing label drive refusal pages is = absurd is

  -- one that told so many pages
  pub ToldHere-some : (label : Label) (drive answer : ℕ) (refusal : Refusal) (olds news : List D) → ToldFor label drive refusal answer → ToldBy told drive answer olds news
      → ToldHere told label drive refusal olds news
  ToldHere-some label drive answer refusal olds news holds by =
      EachDriveFrom-weaker 0 (Answered drive answer) (λ number old new. (number ≡ drive → ToldFor label drive refusal (told new)) × (number ≢ drive → told new ≡ told old))
      (λ number old new is. (λ own. subst (ToldFor label drive refusal) (sym (is.0 own)) holds, is.1)) olds news (answered drive answer olds news by)

  -- drive 0 told the pages that it needs, and then one more each time
  pub ToldNeeds-first : (label : Label) (olds news : List D) → ToldEnough told 0 (need_of 0 label) olds news → ToldNeeds told label 1 olds news
  ToldNeeds-first label olds news enough =
      EachDriveFrom-weaker 0 (λ number old new. (number ≡ 0 → need_of 0 label ≤ told new) × (number ≢ 0 → told new ≡ told old))
      (λ number old new. (number < 1 → need_of number label ≤ told new) × (1 ≤ number → told new ≡ told old))
      (λ number old new is. (
        λ below. let own : number ≡ 0 = omega (arith, below) in subst (λ (n : ℕ). need_of n label ≤ told new) (sym own) (is.0 own),
        λ behind. is.1 (λ own. omega (arith, own, behind)),
      )) olds news enough

  pub ToldNeeds-more : (label : Label) (drive : ℕ) (olds mids news : List D) → ToldNeeds told label drive olds mids → ToldEnough told drive (need_of drive label) mids news
      → ToldNeeds told label (drive + 1) olds news
  ToldNeeds-more label drive olds mids news needs enough =
      EachDriveFrom-more 0 (λ number old new. (number < drive → need_of number label ≤ told new) × (drive ≤ number → told new ≡ told old))
      (λ number old new. (number ≡ drive → need_of drive label ≤ told new) × (number ≢ drive → told new ≡ told old))
      (λ number old new. (number < drive + 1 → need_of number label ≤ told new) × (drive + 1 ≤ number → told new ≡ told old))
      (λ number old mid new first second. (
        λ below. split number drive (need_of number label ≤ told new)
            (λ own. subst (λ (n : ℕ). need_of n label ≤ told new) (sym own) (second.0 own))
            (λ other. let kept = second.1 other in let had = first.0 (omega (arith, below, other)) in omega (arith, kept, had)),
        λ behind. second.1 (λ own. omega (arith, own, behind)) ∙ first.1 (omega (arith, behind)),
      )) olds mids news needs enough

  -- drive 0 is refused
  pub IsRefusedAt-first : (label : Label) (refusal : Refusal) (olds news : List D) → label.drives ≡ length olds → 0 < length olds → ToldHere told label 0 refusal olds news
      → IsRefusedAt told 0 refusal olds news
  IsRefusedAt-first label refusal olds news same some here =
      let R : ℕ → D → D → Type 0 = λ number old new. (number ≡ 0 → ToldFor label 0 refusal (told new)) × (number ≢ 0 → told new ≡ told old) in
      record {
        label = label;
        drives = same;
        within = some;
        before = EachDriveFrom-weaker 0 R (λ number old new. number < 0 → need_of number label ≤ told new) (λ number old new is below. absurd (omega (arith, below))) olds news here;
        here = EachDriveFrom-weaker 0 R (λ number old new. number ≡ 0 → ToldFor label 0 refusal (told new)) (λ number old new is. is.0) olds news here;
        behind = EachDriveFrom-weaker 0 R (λ number old new. 0 < number → told new ≡ told old) (λ number old new is behind. is.1 (λ own. omega (arith, own, behind))) olds news here;
      }

  -- a drive is refused behind those that told what they need
  pub IsRefusedAt-behind : (label : Label) (drive : ℕ) (refusal : Refusal) (olds mids news : List D) → label.drives ≡ length olds → drive < length olds → ToldNeeds told label drive olds mids
      → ToldHere told label drive refusal mids news → IsRefusedAt told drive refusal olds news
  IsRefusedAt-behind label drive refusal olds mids news same within needs here =
      let N : ℕ → D → D → Type 0 = λ number old new. (number < drive → need_of number label ≤ told new) × (drive ≤ number → told new ≡ told old) in
      let H : ℕ → D → D → Type 0 = λ number old new. (number ≡ drive → ToldFor label drive refusal (told new)) × (number ≢ drive → told new ≡ told old) in
      record {
        label = label;
        drives = same;
        within = within;
        before =
            EachDriveFrom-more 0 N H (λ number old new. number < drive → need_of number label ≤ told new)
            (λ number old mid new first second below. let kept = second.1 (λ own. omega (arith, own, below)) in let had = first.0 below in omega (arith, kept, had)) olds mids news needs here;
        here = EachDriveFrom-more 0 N H (λ number old new. number ≡ drive → ToldFor label drive refusal (told new)) (λ number old mid new first second. second.0) olds mids news needs here;
        behind =
            EachDriveFrom-more 0 N H (λ number old new. drive < number → told new ≡ told old)
            (λ number old mid new first second behind. second.1 (λ own. omega (arith, own, behind)) ∙ first.1 (omega (arith, behind))) olds mids news needs here;
      }

  -- the drive that a refusal names is the refused one
  pub RefusedTold-at : (drive : ℕ) (refusal : Refusal) (olds news : List D) → IsOf drive refusal → IsRefusedAt told drive refusal olds news → RefusedTold told olds news refusal
  RefusedTold-at drive (NoLabel named) olds news is at = let P : ℕ → Type 0 = λ n. IsRefusedAt told n (NoLabel named) olds news in subst P (sym is) at
  RefusedTold-at drive (WrongDrive named found) olds news is at = let P : ℕ → Type 0 = λ n. IsRefusedAt told n (WrongDrive named found) olds news in subst P (sym is) at
  RefusedTold-at drive (LabelDiffers named) olds news is at = let P : ℕ → Type 0 = λ n. IsRefusedAt told n (LabelDiffers named) olds news in subst P (sym is) at
  RefusedTold-at drive (ShortDrive named have need) olds news is at = let P : ℕ → Type 0 = λ n. IsRefusedAt told n (ShortDrive named have need) olds news in subst P (sym is) at
  RefusedTold-at drive (Refusal.DriveFault named) olds news is at = tt
  RefusedTold-at drive refusal olds news is at = absurd is

  -- what refuses an image behind its labels comes where all drives told what they need
  pub RefusedTold-behind : (label : Label) (refusal : Refusal) (olds news : List D) → IsBehindLabels refusal → HoldWhole told (striping_of label) news → RefusedTold told olds news refusal
  RefusedTold-behind label Refusal.BadHeader olds news is hold = (label, hold)
  RefusedTold-behind label (Refusal.BadVersion found) olds news is hold = (label, hold)
  RefusedTold-behind label Refusal.BadSections olds news is hold = (label, hold)
  RefusedTold-behind label (BadIndex dir place) olds news is hold = (label, hold)
  RefusedTold-behind label Memory olds news is hold = tt
  RefusedTold-behind label (Refusal.DriveFault drive) olds news is hold = tt
  RefusedTold-behind label refusal olds news is hold = absurd is

-- a drive without a label is refused as one of its own
pub IsUnlabelled-of : (drive : ℕ) (refusal : Refusal) → IsUnlabelled drive refusal → IsOf drive refusal
IsUnlabelled-of drive (NoLabel named) is = is
IsUnlabelled-of drive (Refusal.DriveFault named) is = is
IsUnlabelled-of drive refusal is = absurd is

-- which case of a choice is a refusal
if_some : (test : Bool) (x y : Option Refusal) (refusal : Refusal) (P : Type 0) → (test ≡ true → x ≡ Some refusal → P) → (test ≡ false → y ≡ Some refusal → P)
    → cond test x y ≡ Some refusal → P
if_some true x y refusal P one other is = one refl is
if_some false x y refusal P one other is = other refl is

some_is : (one refusal : Refusal) (P : Refusal → Type 0) → P one → Some one ≡ Some refusal → P refusal
some_is one refusal P holds is = let same : one ≡ refusal = cc in subst P same holds

-- what a label refuses a drive for, by the pages that the drive told
module _ (drives : ℕ) (first : Label) (drive have : ℕ) (label : Label) (refusal : Refusal) (some : 1 ≤ have) (by : refusal_by drives first drive have label ≡ Some refusal) where
  short_by : (P : Refusal → Type 0) → P (WrongDrive drive label.drive) → P (LabelDiffers drive)
      → (agrees_with drives first label ≡ true → have < need_of drive label → P (ShortDrive drive have (need_of drive label))) → P refusal
  short_by P wrong differs short =
      if_some (label.drive == drive) _ _ refusal (P refusal)
      (λ own. if_some (agrees_with drives first label) _ _ refusal (P refusal)
      (λ agrees. if_some (nat_le (need_of drive label) have) _ _ refusal (P refusal) (λ fits never. absurd (cc))
      (λ less is. some_is (ShortDrive drive have (need_of drive label)) refusal P (short agrees (below less)) is))
      (λ other is. some_is (LabelDiffers drive) refusal P differs is))
      (λ other is. some_is (WrongDrive drive label.drive) refusal P wrong is) by
    where
      below : nat_le (need_of drive label) have ≡ false → have < need_of drive label
      below less = leb-false _ _ less

  -- a drive behind drive 0, by drive 0's label
  pub refused_told : first.drives ≡ drives → IsOf drive refusal × ToldFor first drive refusal have
  refused_told same =
      let P : Refusal → Type 0 = λ r. IsOf drive r × ToldFor first drive r have in
      short_by P (refl, some) (refl, some)
      (λ agrees less. let need = agreed_need agrees same in (refl, (refl, some, less, need)))
    where
      agreed_need : agrees_with drives first label ≡ true → first.drives ≡ drives → need_of drive label ≡ need_of drive first
      agreed_need agrees same =
          let number = both _ _ agrees in
          let pages = both _ _ number.0 in
          let unit = both _ _ pages.0 in
          needs_same drive first label (eqb-true _ _ unit.0 ∙ sym same) (eqb-true _ _ unit.1) (eqb-true _ _ pages.1)

  -- drive 0, by its own label where that is of an image on so many drives, and else by any
  pub first_told : IsOf drive refusal × ((own : Label) × (own.drives ≡ drives) × ToldFor own drive refusal have)
  first_told =
      let any : Label = record { drive = 0; drives = drives; unit = 1; pages = 2; number = 0 } in
      let P : Refusal → Type 0 = λ r. IsOf drive r × ((own : Label) × (own.drives ≡ drives) × ToldFor own drive r have) in
      short_by P (refl, (any, refl, some)) (refl, (any, refl, some))
      (λ agrees less. let number = both _ _ agrees in let pages = both _ _ number.0 in let unit = both _ _ pages.0 in (refl, (label, eqb-true _ _ unit.0, (refl, some, less, refl))))
