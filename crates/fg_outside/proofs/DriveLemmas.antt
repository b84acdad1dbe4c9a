-- Facts of several drives: over several calls, and after a call of one of them.
use Rattle.std.proofs.Common.{◌≡◌, ◌≢◌, ◌∙◌, ◌==◌, ℕ, zero, suc, ◌+◌, ◌<◌, ◌≤◌, Bool, if◌then◌else◌, Option, None, Some, IfSome, IsSome, Result, Ok, Err, IsOk, OnOk, min, List, [], ◌∷◌, ◌++◌, All, length, map, filter, take, slice_index_or, slice_set, refl, sym, ap, subst, arith, true≢false, eq-eqb, ne_eqb}
use Rattle.std.proofs.lemmas.Grind.{common_steps}
use Rattle.std.proofs.lemmas.List.{map-append, take_all}
use Rattle.std.proofs.lemmas.List.Elements.{All-append, All-nil, All-take, filter-append}
use Rattle.std.proofs.lemmas.Option.{IfSome_then}
use Rattle.std.proofs.Math.Seq.{take-nil, take-append-add}
use Rattle.fg_base.specs.Faults.{Rose}
use Rattle.fg_base.specs.Told.{grown, GrewByFirst}
use Rattle.fg_base.proofs.ToldLemmas.{grown-nil, grown-grown}
use Rattle.fg_outside.specs.declared.drive.Read.{Read}
use Rattle.fg_outside.specs.Drives.{EachDrive, EachSame, EachDriveFrom, HasEachFrom, EachTold, NoneRose, RoomyKept, RoseFirst, ToldBy, told_before, all_told, DriveRead, own, LogsGrew, LogsGrewByFirst, LogsGrewBy}

-- nothing happened
pub EachDriveFrom-same : {D : Type 0} (first : ℕ) (R : ℕ → D → D → Type 0) → ((number : ℕ) (drive : D) → first ≤ number → R number drive drive) →
    (drives : List D) → EachDriveFrom first R drives drives
EachDriveFrom-same first R same [] = tt
EachDriveFrom-same first R same (drive ∷ drives) =
    (same first drive (omega arith), EachDriveFrom-same (suc first) R (λ number other after. same number other (omega arith)) drives)

pub EachDrive-same : {D : Type 0} (R : D → D → Type 0) → ((drive : D) → R drive drive) → (drives : List D) → EachDrive R drives drives
EachDrive-same R same [] = tt
EachDrive-same R same (drive ∷ drives) = (same drive, EachDrive-same R same drives)

-- one call after another
pub EachDriveFrom-more : {D : Type 0} (first : ℕ) (R S T : ℕ → D → D → Type 0) →
    ((number : ℕ) (old between new : D) → R number old between → S number between new → T number old new) →
    (olds betweens news : List D) → EachDriveFrom first R olds betweens → EachDriveFrom first S betweens news → EachDriveFrom first T olds news
EachDriveFrom-more first R S T more [] [] [] one two = tt
EachDriveFrom-more first R S T more [] [] (new ∷ news) one two = absurd two
EachDriveFrom-more first R S T more [] (between ∷ betweens) news one two = absurd one
EachDriveFrom-more first R S T more (old ∷ olds) [] news one two = absurd one
EachDriveFrom-more first R S T more (old ∷ olds) (between ∷ betweens) [] one two = absurd two
EachDriveFrom-more first R S T more (old ∷ olds) (between ∷ betweens) (new ∷ news) one two =
    (more first old between new one.0 two.0, EachDriveFrom-more (suc first) R S T more olds betweens news one.1 two.1)

pub EachDrive-more : {D : Type 0} (R S T : D → D → Type 0) → ((old between new : D) → R old between → S between new → T old new) →
    (olds betweens news : List D) → EachDrive R olds betweens → EachDrive S betweens news → EachDrive T olds news
EachDrive-more R S T more [] [] [] one two = tt
EachDrive-more R S T more [] [] (new ∷ news) one two = absurd two
EachDrive-more R S T more [] (between ∷ betweens) news one two = absurd one
EachDrive-more R S T more (old ∷ olds) [] news one two = absurd one
EachDrive-more R S T more (old ∷ olds) (between ∷ betweens) [] one two = absurd two
EachDrive-more R S T more (old ∷ olds) (between ∷ betweens) (new ∷ news) one two =
    (more old between new one.0 two.0, EachDrive-more R S T more olds betweens news one.1 two.1)

pub EachSame-more : {D A : Type 0} (of : D → A) (olds betweens news : List D) → EachSame of olds betweens → EachSame of betweens news → EachSame of olds news
EachSame-more {D} of olds betweens news one two =
    let S : D → D → Type 0 = λ old new. of new ≡ of old in
    EachDrive-more S S S (λ old between new first second. second ∙ first) olds betweens news one two

-- two facts of one call, as a third
pub EachDriveFrom-both : {D : Type 0} (first : ℕ) (R S T : ℕ → D → D → Type 0) →
    ((number : ℕ) (old new : D) → R number old new → S number old new → T number old new) →
    (olds news : List D) → EachDriveFrom first R olds news → EachDriveFrom first S olds news → EachDriveFrom first T olds news
EachDriveFrom-both first R S T both [] [] one two = tt
EachDriveFrom-both first R S T both [] (new ∷ news) one two = absurd one
EachDriveFrom-both first R S T both (old ∷ olds) [] one two = absurd one
EachDriveFrom-both first R S T both (old ∷ olds) (new ∷ news) one two =
    (both first old new one.0 two.0, EachDriveFrom-both (suc first) R S T both olds news one.1 two.1)

pub EachDrive-both : {D : Type 0} (R S T : D → D → Type 0) → ((old new : D) → R old new → S old new → T old new) →
    (olds news : List D) → EachDrive R olds news → EachDrive S olds news → EachDrive T olds news
EachDrive-both R S T both [] [] one two = tt
EachDrive-both R S T both [] (new ∷ news) one two = absurd one
EachDrive-both R S T both (old ∷ olds) [] one two = absurd one
EachDrive-both R S T both (old ∷ olds) (new ∷ news) one two = (both old new one.0 two.0, EachDrive-both R S T both olds news one.1 two.1)

-- a weaker fact
pub EachDriveFrom-weaker : {D : Type 0} (first : ℕ) (R S : ℕ → D → D → Type 0) → ((number : ℕ) (old new : D) → R number old new → S number old new) →
    (olds news : List D) → EachDriveFrom first R olds news → EachDriveFrom first S olds news
EachDriveFrom-weaker first R S weaker olds news holds =
    EachDriveFrom-both first R R S (λ number old new one two. weaker number old new one) olds news holds holds

pub EachDrive-weaker : {D : Type 0} (R S : D → D → Type 0) → ((old new : D) → R old new → S old new) →
    (olds news : List D) → EachDrive R olds news → EachDrive S olds news
EachDrive-weaker R S weaker olds news holds = EachDrive-both R R S (λ old new one two. weaker old new one) olds news holds holds

-- with numbers and without
pub EachDrive-numbered : {D : Type 0} (first : ℕ) (R : D → D → Type 0) (olds news : List D) → EachDrive R olds news → EachDriveFrom first (λ _. R) olds news
EachDrive-numbered first R [] [] holds = tt
EachDrive-numbered first R [] (new ∷ news) holds = absurd holds
EachDrive-numbered first R (old ∷ olds) [] holds = absurd holds
EachDrive-numbered first R (old ∷ olds) (new ∷ news) holds = (holds.0, EachDrive-numbered (suc first) R olds news holds.1)

pub EachDrive-unnumbered : {D : Type 0} (first : ℕ) (R : D → D → Type 0) (olds news : List D) → EachDriveFrom first (λ _. R) olds news → EachDrive R olds news
EachDrive-unnumbered first R [] [] holds = tt
EachDrive-unnumbered first R [] (new ∷ news) holds = absurd holds
EachDrive-unnumbered first R (old ∷ olds) [] holds = absurd holds
EachDrive-unnumbered first R (old ∷ olds) (new ∷ news) holds = (holds.0, EachDrive-unnumbered (suc first) R olds news holds.1)

-- there are as many drives as before
pub EachDrive-length : {D : Type 0} (R : D → D → Type 0) (olds news : List D) → EachDrive R olds news → length news ≡ length olds
EachDrive-length R [] [] holds = refl
EachDrive-length R [] (new ∷ news) holds = absurd holds
EachDrive-length R (old ∷ olds) [] holds = absurd holds
EachDrive-length R (old ∷ olds) (new ∷ news) holds = ap suc (EachDrive-length R olds news holds.1)

pub EachDriveFrom-length : {D : Type 0} (first : ℕ) (R : ℕ → D → D → Type 0) (olds news : List D) → EachDriveFrom first R olds news → length news ≡ length olds
EachDriveFrom-length first R [] [] holds = refl
EachDriveFrom-length first R [] (new ∷ news) holds = absurd holds
EachDriveFrom-length first R (old ∷ olds) [] holds = absurd holds
EachDriveFrom-length first R (old ∷ olds) (new ∷ news) holds = ap suc (EachDriveFrom-length (suc first) R olds news holds.1)

-- the fact of one drive among them
pub EachDriveFrom-index_at : {D : Type 0} (first : ℕ) (R : ℕ → D → D → Type 0) (olds news : List D) (place number : ℕ) (before after : D) → number ≡ first + place →
    place < length olds → EachDriveFrom first R olds news → R number (slice_index_or olds place before) (slice_index_or news place after)
EachDriveFrom-index_at first R [] news place number before after at within holds = absurd (omega (arith, within))
EachDriveFrom-index_at first R (old ∷ olds) [] place number before after at within holds = absurd holds
EachDriveFrom-index_at first R (old ∷ olds) (new ∷ news) zero number before after at within holds =
    let here : first ≡ number = omega (arith, at) in
    let P : ℕ → Type 0 = λ k. R k old new in subst P here holds.0
EachDriveFrom-index_at first R (old ∷ olds) (new ∷ news) (suc place) number before after at within holds =
    EachDriveFrom-index_at (suc first) R olds news place number before after (omega (arith, at)) (omega (arith, within)) holds.1

pub EachDriveFrom-index : {D : Type 0} (R : ℕ → D → D → Type 0) (olds news : List D) (number : ℕ) (before after : D) →
    number < length olds → EachDriveFrom 0 R olds news → R number (slice_index_or olds number before) (slice_index_or news number after)
EachDriveFrom-index R olds news number before after within holds =
    EachDriveFrom-index_at 0 R olds news number number before after (omega arith) within holds

pub EachDrive-index : {D : Type 0} (R : D → D → Type 0) (olds news : List D) (number : ℕ) (before after : D) →
    number < length olds → EachDrive R olds news → R (slice_index_or olds number before) (slice_index_or news number after)
EachDrive-index R olds news number before after within holds =
    EachDriveFrom-index (λ _. R) olds news number before after within (EachDrive-numbered 0 R olds news holds)

-- one drive was called: the relation holds of it, and of each other where nothing happened
pub EachDriveFrom-set_at : {D : Type 0} (first : ℕ) (R : ℕ → D → D → Type 0) (drives : List D) (place number : ℕ) (default new : D) → number ≡ first + place →
    ((other : ℕ) (drive : D) → other ≢ number → R other drive drive) → place < length drives →
    R number (slice_index_or drives place default) new → EachDriveFrom first R drives (slice_set drives place new)
EachDriveFrom-set_at first R [] place number default new at others within holds = absurd (omega (arith, within))
EachDriveFrom-set_at {D} first R (drive ∷ drives) zero number default new at others within holds =
    let here : number ≡ first = omega (arith, at) in
    let P : ℕ → Type 0 = λ k. R k drive new in
    (subst P here holds, EachDriveFrom-same (suc first) R (λ other from after. others other from (omega (arith, here, after))) drives)
EachDriveFrom-set_at first R (drive ∷ drives) (suc place) number default new at others within holds = (
  others first drive (omega (arith, at)),
  EachDriveFrom-set_at (suc first) R drives place number default new (omega (arith, at)) others (omega (arith, within)) holds,
)

pub EachDriveFrom-set : {D : Type 0} (R : ℕ → D → D → Type 0) (drives : List D) (number : ℕ) (default new : D) →
    ((other : ℕ) (drive : D) → other ≢ number → R other drive drive) → number < length drives →
    R number (slice_index_or drives number default) new → EachDriveFrom 0 R drives (slice_set drives number new)
EachDriveFrom-set R drives number default new others within holds =
    EachDriveFrom-set_at 0 R drives number number default new (omega arith) others within holds

pub EachDrive-set : {D : Type 0} (R : D → D → Type 0) → ((drive : D) → R drive drive) → (drives : List D) (number : ℕ) (default new : D) →
    number < length drives → R (slice_index_or drives number default) new → EachDrive R drives (slice_set drives number new)
EachDrive-set R same drives number default new within holds =
    EachDrive-unnumbered 0 R drives (slice_set drives number new) (EachDriveFrom-set (λ _. R) drives number default new (λ other drive differs. same drive) within holds)

pub EachSame-set : {D A : Type 0} (of : D → A) (drives : List D) (number : ℕ) (default new : D) →
    number < length drives → of new ≡ of (slice_index_or drives number default) → EachSame of drives (slice_set drives number new)
EachSame-set of drives number default new within same = EachDrive-set (λ old new. of new ≡ of old) (λ drive. refl) drives number default new within same

-- one drive was asked for its pages
pub ToldBy-set : {D : Type 0} (told : D → ℕ) (drives : List D) (number answer : ℕ) (default new : D) →
    number < length drives → told new ≡ answer → ToldBy told number answer drives (slice_set drives number new)
ToldBy-set told drives number answer default new within is =
    EachDriveFrom-set (λ other before after. told after ≡ (if other == number then answer else told before)) drives number default new
    (λ other drive differs. rw (ne_eqb other number differs) refl) within (rw (eq-eqb number number refl) is)

-- the first fault is this drive's, where it alone was called
pub RoseFirst-set : {D : Type 0} (faults : D → ℕ) (drives : List D) (number : ℕ) (default new : D) →
    number < length drives → Rose (faults (slice_index_or drives number default)) (faults new) → RoseFirst faults number drives (slice_set drives number new)
RoseFirst-set faults [] number default new within rose = absurd (omega (arith, within))
RoseFirst-set faults (drive ∷ drives) zero default new within rose = rose
RoseFirst-set faults (drive ∷ drives) (suc number) default new within rose = (refl, RoseFirst-set faults drives number default new (omega (arith, within)) rose)

-- it still is, after calls that raised no count
pub RoseFirst-after : {D : Type 0} (faults : D → ℕ) (number : ℕ) (olds betweens news : List D) →
    NoneRose faults olds betweens → RoseFirst faults number betweens news → RoseFirst faults number olds news
RoseFirst-after faults zero [] [] news kept rose = absurd rose
RoseFirst-after faults (suc number) [] [] news kept rose = absurd rose
RoseFirst-after faults number [] (between ∷ betweens) news kept rose = absurd kept
RoseFirst-after faults number (old ∷ olds) [] news kept rose = absurd kept
RoseFirst-after faults zero (old ∷ olds) (between ∷ betweens) [] kept rose = absurd rose
RoseFirst-after faults (suc number) (old ∷ olds) (between ∷ betweens) [] kept rose = absurd rose
RoseFirst-after faults zero (old ∷ olds) (between ∷ betweens) (new ∷ news) kept rose =
    let P : ℕ → Type 0 = λ count. Rose count (faults new) in subst P kept.0 rose
RoseFirst-after faults (suc number) (old ∷ olds) (between ∷ betweens) (new ∷ news) kept rose =
    (rose.0 ∙ kept.0, RoseFirst-after faults number olds betweens news kept.1 rose.1)

-- and before calls that raise none
pub RoseFirst-before : {D : Type 0} (faults : D → ℕ) (number : ℕ) (olds betweens news : List D) →
    RoseFirst faults number olds betweens → NoneRose faults betweens news → RoseFirst faults number olds news
RoseFirst-before faults zero [] betweens news rose kept = absurd rose
RoseFirst-before faults (suc number) [] betweens news rose kept = absurd rose
RoseFirst-before faults zero (old ∷ olds) [] news rose kept = absurd rose
RoseFirst-before faults (suc number) (old ∷ olds) [] news rose kept = absurd rose
RoseFirst-before faults number (old ∷ olds) (between ∷ betweens) [] rose kept = absurd kept
RoseFirst-before faults zero (old ∷ olds) (between ∷ betweens) (new ∷ news) rose kept =
    let P : ℕ → Type 0 = λ count. Rose (faults old) count in subst P (sym kept.0) rose
RoseFirst-before faults (suc number) (old ∷ olds) (between ∷ betweens) (new ∷ news) rose kept =
    (kept.0 ∙ rose.0, RoseFirst-before faults number olds betweens news rose.1 kept.1)

-- it is the number of a drive
pub RoseFirst-within : {D : Type 0} (faults : D → ℕ) (number : ℕ) (olds news : List D) → RoseFirst faults number olds news → number < length olds
RoseFirst-within faults zero [] news rose = absurd rose
RoseFirst-within faults (suc number) [] news rose = absurd rose
RoseFirst-within faults zero (old ∷ olds) news rose = omega arith
RoseFirst-within faults (suc number) (old ∷ olds) [] rose = absurd rose
RoseFirst-within faults (suc number) (old ∷ olds) (new ∷ news) rose = omega (arith, RoseFirst-within faults number olds news rose.1)

-- drives whose counts are the same list
pub NoneRose-counts : {D : Type 0} (faults : D → ℕ) (olds news : List D) → map faults news ≡ map faults olds → NoneRose faults olds news
NoneRose-counts faults [] [] same = tt
NoneRose-counts faults [] (new ∷ news) same = cc
NoneRose-counts faults (old ∷ olds) [] same = cc
NoneRose-counts faults (old ∷ olds) (new ∷ news) same = (cc, NoneRose-counts faults olds news cc)

-- drives with room: one call after another
pub RoomyKept-more : {D : Type 0} (room : D → Option ℕ) (faults : D → ℕ) (olds betweens news : List D) → EachSame room olds betweens →
    RoomyKept room faults olds betweens → RoomyKept room faults betweens news → RoomyKept room faults olds news
RoomyKept-more {D} room faults olds betweens news same one two =
    let S : D → D → Type 0 = λ old new. room new ≡ room old in
    let R : D → D → Type 0 = λ old new. IsSome (room old) → faults new ≡ faults old in
    let B : D → D → Type 0 = λ old new. (room new ≡ room old) × (IsSome (room old) → faults new ≡ faults old) in
    EachDrive-more B R R (λ old between new first second told. second (rw first.0 told) ∙ first.1 told) olds betweens news
    (EachDrive-both S R B (λ old new is kept. (is, kept)) olds betweens same one) two

-- what all drives tell is as it was where what each tells is
pub all_told-same : {D A : Type 0} (tells : D → Option A) (olds news : List D) → EachSame tells olds news → all_told tells news ≡ all_told tells olds
all_told-same tells [] [] same = refl
all_told-same tells [] (new ∷ news) same = absurd same
all_told-same tells (old ∷ olds) [] same = absurd same
all_told-same tells (old ∷ olds) (new ∷ news) same = rw (same.0, all_told-same tells olds news same.1) refl

-- as many are told as there are drives
pub all_told-length : {D A : Type 0} (tells : D → Option A) (drives : List D) → IfSome (all_told tells drives) (λ all. length all ≡ length drives)
all_told-length tells [] = refl
all_told-length tells (drive ∷ drives) = told_before-length (tells drive) (all_told tells drives) (length drives) (all_told-length tells drives) where
  told_before-length : {A : Type 0} (item : Option A) (items : Option (List A)) (n : ℕ) → IfSome items (λ all. length all ≡ n) → IfSome (told_before item items) (λ all. length all ≡ suc n)
  told_before-length None items n counted = tt
  told_before-length (Some item) None n counted = tt
  told_before-length (Some item) (Some items) n counted = ap suc counted

told_before-first : {A : Type 0} (item : Option A) (items : Option (List A)) (default : A) → IfSome (told_before item items) (λ all. item ≡ Some (slice_index_or all 0 default))
told_before-first None items default = tt
told_before-first (Some item) None default = tt
told_before-first (Some item) (Some items) default = refl

told_before-later : {A : Type 0} (item wanted : Option A) (items : Option (List A)) (place : ℕ) (default : A) →
    IfSome items (λ all. wanted ≡ Some (slice_index_or all place default)) → IfSome (told_before item items) (λ all. wanted ≡ Some (slice_index_or all (suc place) default))
told_before-later None wanted items place default is = tt
told_before-later (Some item) wanted None place default is = tt
told_before-later (Some item) wanted (Some items) place default is = is

-- of what all drives tell, each drive's own stands at its number
pub all_told-index : {D A : Type 0} (tells : D → Option A) (drives : List D) (number : ℕ) (drive : D) (default : A) →
    number < length drives → IfSome (all_told tells drives) (λ all. tells (slice_index_or drives number drive) ≡ Some (slice_index_or all number default))
all_told-index tells [] number drive default within = absurd (omega (arith, within))
all_told-index tells (first ∷ drives) zero drive default within = told_before-first (tells first) (all_told tells drives) default
all_told-index tells (first ∷ drives) (suc number) drive default within =
    told_before-later (tells first) (tells (slice_index_or drives number drive)) (all_told tells drives) number default
    (all_told-index tells drives number drive default (omega (arith, within)))

-- so what holds of what it tells holds of that
pub all_told-holds : {D A : Type 0} (tells : D → Option A) (drives : List D) (number : ℕ) (drive : D) (default : A) (P : A → Type 0) →
    number < length drives → IfSome (tells (slice_index_or drives number drive)) P → IfSome (all_told tells drives) (λ all. P (slice_index_or all number default))
all_told-holds {D} {A} tells drives number drive default P within holds =
    IfSome_then (all_told tells drives) (all_told-index tells drives number drive default within)
    (λ all own. let Q : Option A → Type 0 = λ told. IfSome told P in subst Q own holds)

-- a fact of each drive, at one of them
pub HasEachFrom-index : {D : Type 0} (first : ℕ) (P : ℕ → D → Type 0) (drives : List D) (place number : ℕ) (default : D) → number ≡ first + place →
    place < length drives → HasEachFrom first P drives → P number (slice_index_or drives place default)
HasEachFrom-index first P [] place number default at within has = absurd (omega (arith, within))
HasEachFrom-index first P (drive ∷ drives) zero number default at within has =
    let here : first ≡ number = omega (arith, at) in
    let Q : ℕ → Type 0 = λ k. P k drive in subst Q here has.0
HasEachFrom-index first P (drive ∷ drives) (suc place) number default at within has =
    HasEachFrom-index (suc first) P drives place number default (omega (arith, at)) (omega (arith, within)) has.1

pub HasEach-index : {D : Type 0} (P : ℕ → D → Type 0) (drives : List D) (number : ℕ) (default : D) →
    number < length drives → HasEachFrom 0 P drives → P number (slice_index_or drives number default)
HasEach-index P drives number default within has = HasEachFrom-index 0 P drives number number default (omega arith) within has

-- a fact of each drive after a call, by what it was before
pub HasEachFrom-after : {D : Type 0} (first : ℕ) (P Q : ℕ → D → Type 0) (R : ℕ → D → D → Type 0) →
    ((number : ℕ) (old new : D) → R number old new → P number old → Q number new) →
    (olds news : List D) → EachDriveFrom first R olds news → HasEachFrom first P olds → HasEachFrom first Q news
HasEachFrom-after first P Q R then_ [] [] holds has = tt
HasEachFrom-after first P Q R then_ [] (new ∷ news) holds has = absurd holds
HasEachFrom-after first P Q R then_ (old ∷ olds) [] holds has = absurd holds
HasEachFrom-after first P Q R then_ (old ∷ olds) (new ∷ news) holds has =
    (then_ first old new holds.0 has.0, HasEachFrom-after (suc first) P Q R then_ olds news holds.1 has.1)

-- what was told stays told
pub EachTold-same : {D : Type 0} (told : D → ℕ) (needed : ℕ → ℕ) (olds news : List D) → EachSame told olds news → EachTold told needed olds → EachTold told needed news
EachTold-same {D} told needed olds news same has =
    let R : D → D → Type 0 = λ old new. told new ≡ told old in
    HasEachFrom-after 0 (λ number drive. needed number ≤ told drive) (λ number drive. needed number ≤ told drive) (λ number. R)
    (λ number old new is enough. rw is enough) olds news (EachDrive-numbered 0 R olds news same) has

-- a call that surely is Ok leaves what an Ok leaves
pub kept_where_sure : {A E P Q : Type 0} (answer : Result A E) → (P → IsOk answer) → OnOk answer Q → P → Q
kept_where_sure (Ok x) sure kept told = kept
kept_where_sure (Err e) sure kept told = let not_ok = sure told in absurd (true≢false (sym not_ok))

-- a read is its drive's own, and no other's
pub own-this : (drive : ℕ) (read : Read) → own drive (record { drive = drive; read = read } ∷ []) ≡ read ∷ []
own-this drive read = rw (eq-eqb drive drive refl) refl

pub own-other : (drive other : ℕ) (read : Read) → other ≢ drive → own other (record { drive = drive; read = read } ∷ []) ≡ []
own-other drive other read differs = rw (ne_eqb drive other (λ same. differs (sym same))) refl

-- the reads of one drive among two lists of reads
pub own-append : (drive : ℕ) (first second : List DriveRead) → own drive (first ++ second) ≡ own drive first ++ own drive second
own-append drive first second =
    let test : DriveRead → Bool = λ from. from.drive == drive in
    let read : DriveRead → Read = λ from. from.read in
    ap (map read) (filter-append test first second) ∙ map-append read (filter test first) (filter test second)

-- no reads
pub LogsGrew-same : {D : Type 0} (log : D → Option (List Read)) (olds news : List D) → EachSame log olds news → LogsGrew log [] olds news
LogsGrew-same {D} log olds news same =
    let R : D → D → Type 0 = λ old new. log new ≡ log old in
    EachDriveFrom-weaker 0 (λ number. R) (λ number old new. log new ≡ grown (log old) (own number [])) (λ number old new is. is ∙ sym (grown-nil (log old))) olds news
    (EachDrive-numbered 0 R olds news same)

pub LogsGrew-none : {D : Type 0} (log : D → Option (List Read)) (drives : List D) → LogsGrew log [] drives drives
LogsGrew-none log drives = LogsGrew-same log drives drives (EachDrive-same (λ old new. log new ≡ log old) (λ drive. refl) drives)

-- one read of one drive
pub LogsGrew-one : {D : Type 0} (log : D → Option (List Read)) (drives : List D) (number : ℕ) (read : Read) (default new : D) →
    number < length drives → log new ≡ grown (log (slice_index_or drives number default)) (read ∷ []) →
    LogsGrew log (record { drive = number; read = read } ∷ []) drives (slice_set drives number new)
LogsGrew-one log drives number read default new within grew =
    let one : DriveRead = record { drive = number; read = read } in
    EachDriveFrom-set (λ other before after. log after ≡ grown (log before) (own other (one ∷ []))) drives number default new
    (λ other drive differs. sym (grown-nil (log drive)) ∙ ap (grown (log drive)) (sym (own-other number other read differs)))
    within (grew ∙ ap (grown (log (slice_index_or drives number default))) (sym (own-this number read)))

-- one list of reads after another
pub LogsGrew-more : {D : Type 0} (log : D → Option (List Read)) (first second : List DriveRead) (olds betweens news : List D) →
    LogsGrew log first olds betweens → LogsGrew log second betweens news → LogsGrew log (first ++ second) olds news
LogsGrew-more {D} log first second olds betweens news one two =
    let R : List DriveRead → ℕ → D → D → Type 0 = λ reads number old new. log new ≡ grown (log old) (own number reads) in
    EachDriveFrom-more 0 (R first) (R second) (R (first ++ second))
    (λ number old between new before after. after ∙ ap (λ told. grown told (own number second)) before
    ∙ grown-grown (log old) (own number first) (own number second) ∙ ap (grown (log old)) (sym (own-append number first second)))
    olds betweens news one two

-- by some first of no reads, by all of them, and by some first of a read that may have come
pub LogsGrewByFirst-none : {D : Type 0} (log : D → Option (List Read)) (reads : List DriveRead) (drives : List D) → LogsGrewByFirst log reads drives drives
LogsGrewByFirst-none log reads drives = (0, LogsGrew-none log drives)

pub LogsGrewByFirst-all : {D : Type 0} (log : D → Option (List Read)) (reads : List DriveRead) (olds news : List D) →
    LogsGrew log reads olds news → LogsGrewByFirst log reads olds news
LogsGrewByFirst-all {D} log reads olds news grew =
    let P : List DriveRead → Type 0 = λ some. LogsGrew log some olds news in
    (length reads, subst P (sym (take_all (length reads) reads (omega arith))) grew)

pub LogsGrewByFirst-one : {D : Type 0} (log : D → Option (List Read)) (drives : List D) (number : ℕ) (read : Read) (default new : D) →
    number < length drives → GrewByFirst (read ∷ []) (log (slice_index_or drives number default)) (log new) →
    LogsGrewByFirst log (record { drive = number; read = read } ∷ []) drives (slice_set drives number new)
LogsGrewByFirst-one log drives number read default new within (zero, grew) =
    let before = log (slice_index_or drives number default) in
    (0, LogsGrew-same log drives (slice_set drives number new) (EachSame-set log drives number default new within (grew ∙ grown-nil before)))
LogsGrewByFirst-one log drives number read default new within (suc k, grew) =
    let before = log (slice_index_or drives number default) in
    let one : log new ≡ grown before (read ∷ []) = grew ∙ ap (λ rest. grown before (read ∷ rest)) (take-nil k) in
    (1, LogsGrew-one log drives number read default new within one)

take-within : {A : Type 0} (first second : List A) (k : ℕ) → take k first ≡ take (min k (length first)) (first ++ second)
take-within first second k = grind (arith, common_steps)

-- by some first of a first list, or by all of it and some first of a second
pub LogsGrewByFirst-before : {D : Type 0} (log : D → Option (List Read)) (first second : List DriveRead) (olds news : List D) →
    LogsGrewByFirst log first olds news → LogsGrewByFirst log (first ++ second) olds news
LogsGrewByFirst-before {D} log first second olds news (k, grew) =
    let P : List DriveRead → Type 0 = λ some. LogsGrew log some olds news in
    (min k (length first), subst P (take-within first second k) grew)

pub LogsGrewByFirst-more : {D : Type 0} (log : D → Option (List Read)) (first second : List DriveRead) (olds betweens news : List D) →
    LogsGrew log first olds betweens → LogsGrewByFirst log second betweens news → LogsGrewByFirst log (first ++ second) olds news
LogsGrewByFirst-more {D} log first second olds betweens news one (k, two) =
    let P : List DriveRead → Type 0 = λ some. LogsGrew log some olds news in
    (length first + k, subst P (sym (take-append-add first second k)) (LogsGrew-more log first (take k second) olds betweens news one two))

-- by reads that all have a property
pub LogsGrewBy-none : {D : Type 0} (P : DriveRead → Type 0) (log : D → Option (List Read)) (drives : List D) → LogsGrewBy P log drives drives
LogsGrewBy-none P log drives = ([], All-nil P, LogsGrew-none log drives)

pub LogsGrewBy-more : {D : Type 0} (P : DriveRead → Type 0) (log : D → Option (List Read)) (olds betweens news : List D) →
    LogsGrewBy P log olds betweens → LogsGrewBy P log betweens news → LogsGrewBy P log olds news
LogsGrewBy-more P log olds betweens news one two =
    (one.0 ++ two.0, All-append P one.0 two.0 one.1 two.1, LogsGrew-more log one.0 two.0 olds betweens news one.2 two.2)

pub LogsGrewBy-weaker : {D : Type 0} (P Q : DriveRead → Type 0) (log : D → Option (List Read)) (olds news : List D) →
    ((read : DriveRead) → P read → Q read) → LogsGrewBy P log olds news → LogsGrewBy Q log olds news
LogsGrewBy-weaker P Q log olds news weaker grew =
    (grew.0, λ k default within. weaker (slice_index_or grew.0 k default) (grew.1 k default within), grew.2)

pub LogsGrewBy-of : {D : Type 0} (P : DriveRead → Type 0) (log : D → Option (List Read)) (reads : List DriveRead) (olds news : List D) →
    All P reads → LogsGrew log reads olds news → LogsGrewBy P log olds news
LogsGrewBy-of P log reads olds news all grew = (reads, all, grew)

pub LogsGrewBy-first : {D : Type 0} (P : DriveRead → Type 0) (log : D → Option (List Read)) (reads : List DriveRead) (olds news : List D) →
    All P reads → LogsGrewByFirst log reads olds news → LogsGrewBy P log olds news
LogsGrewBy-first P log reads olds news all (k, grew) = (take k reads, All-take P k reads all, grew)
