-- Pages appended to drives: one call after another, and pages dealt out.
use Rattle.std.proofs.Common.{◌≡◌, ◌∙◌, ℕ, zero, suc, ◌+◌, ◌-◌, ◌<◌, ◌≤◌, ◌==◌, cond, Bool, true, false, min, Option, None, Some, Result, Ok, Err, List, [], ◌∷◌, ◌++◌, length, take, refl, sym, ap, subst, arith, append-nil, inl, inr, eq-eqb, length-append, slice_index_or, slice_set}
use Rattle.std.proofs.lemmas.Bool.{cases_eq, cases_lt, cond-true, cond-false, ne_eqb}
use Rattle.std.proofs.lemmas.Grind.{flat_map-append}
use Rattle.std.proofs.lemmas.List.Elements.{filter-append}
use Rattle.std.proofs.Math.Seq.{take-append-add}
use Rattle.std.specs.List.{filter, flat_map, range_with_len}
use Rattle.fg_base.specs.declared.refusal.Refusal.{Refusal}
use Rattle.fg_base.specs.Faults.{Rose}
use Rattle.fg_base.specs.Told.{grown, GrewByFirst}
use Rattle.fg_base.proofs.ToldLemmas.{grown-grown, grown-nil}
use Rattle.fg_build.specs.Appending.{Appends, IsAppended, IsBegun, RoomyKeptFor, dealt, dealt_count, on_drive, one_on, taken}
use Rattle.fg_build.proofs.PageLaws.{range_more}
use Rattle.fg_build.proofs.CallLaws.{take-within}
use Rattle.fg_outside.specs.Drives.{EachDriveFrom, NoneRose}
use Rattle.fg_outside.specs.Pages.{HasRoom, lessened}
use Rattle.fg_outside.proofs.DriveLemmas.{EachDrive-numbered, EachDrive-same, EachDriveFrom-both, EachDriveFrom-more, EachDriveFrom-same, EachDriveFrom-set, EachDriveFrom-weaker, EachSame-more, EachSame-set, RoseFirst-after, RoseFirst-set}

-- a first of a part is a first of a longer one
first_before : {A : Type 0} (first second : List A) (old new : Option (List A)) → GrewByFirst first old new → GrewByFirst (first ++ second) old new
first_before first second old new (k, grew) = (min k (length first), grew ∙ ap (grown old) (take-within first second k))

-- what came whole, and then a first of the rest
first_behind : {A : Type 0} (first second : List A) (old mid new : Option (List A)) → mid ≡ grown old first → GrewByFirst second mid new → GrewByFirst (first ++ second) old new
first_behind first second old mid new came (k, grew) =
    (length first + k, grew ∙ ap (λ told. grown told (take k second)) came ∙ grown-grown old first (take k second) ∙ ap (grown old) (sym (take-append-add first second k)))

lessened-none : (room : Option ℕ) → room ≡ lessened room 0
lessened-none None = refl
lessened-none (Some free) = ap Some (omega arith)

lessened-more : (room : Option ℕ) (first second : ℕ) → lessened (lessened room first) second ≡ lessened room (first + second)
lessened-more None first second = refl
lessened-more (Some free) first second = ap Some (omega arith)

-- the room that is left
pub room_left : (room : Option ℕ) (used more all : ℕ) → HasRoom room all → used + more ≤ all → HasRoom (lessened room used) more
room_left None used more all has within = has
room_left (Some free) used more all has within = omega (arith, has, within)

pub less_room : (room : Option ℕ) (few many : ℕ) → few ≤ many → HasRoom room many → HasRoom room few
less_room None few many fewer has = has
less_room (Some free) few many fewer has = omega (arith, fewer, has)

module _ {D : Type 0} (held : D → Option (List ℕ)) (room : D → Option ℕ) (faults : D → ℕ) where
  -- nothing was appended
  pub IsAppended-none : (parts : ℕ → List ℕ) (counts : ℕ → ℕ) (drives : List D) → ((drive : ℕ) → parts drive ≡ []) → ((drive : ℕ) → counts drive ≡ 0)
      → IsAppended held room faults parts counts drives drives
  IsAppended-none parts counts drives no_part no_count = record {
    grew = EachDriveFrom-same 0 _ (λ number one at. sym (grown-nil (held one)) ∙ ap (grown (held one)) (sym (no_part number))) drives;
    less = EachDriveFrom-same 0 _ (λ number one at. lessened-none (room one) ∙ ap (lessened (room one)) (sym (no_count number))) drives;
    none = EachDrive-same _ (λ one. refl) drives;
  }

  -- parts as they are said otherwise
  pub IsAppended-as : (parts others : ℕ → List ℕ) (counts numbers : ℕ → ℕ) (olds news : List D) → ((drive : ℕ) → parts drive ≡ others drive) → ((drive : ℕ) → counts drive ≡ numbers drive)
      → IsAppended held room faults parts counts olds news → IsAppended held room faults others numbers olds news
  IsAppended-as parts others counts numbers olds news same_part same_count all = record {
    grew = EachDriveFrom-weaker 0 _ _ (λ number old new is. is ∙ ap (grown (held old)) (same_part number)) olds news all.grew;
    less = EachDriveFrom-weaker 0 _ _ (λ number old new is. is ∙ ap (lessened (room old)) (same_count number)) olds news all.less;
    none = all.none;
  }

  -- one appending after another
  pub IsAppended-more : (first second : ℕ → List ℕ) (counts numbers : ℕ → ℕ) (olds betweens news : List D) → IsAppended held room faults first counts olds betweens
      → IsAppended held room faults second numbers betweens news → IsAppended held room faults (λ drive. first drive ++ second drive) (λ drive. counts drive + numbers drive) olds news
  IsAppended-more first second counts numbers olds betweens news one two = record {
    grew = EachDriveFrom-more 0 _ _ (λ number old new. held new ≡ grown (held old) (first number ++ second number))
        (λ number old between new came more. more ∙ ap (λ told. grown told (second number)) came ∙ grown-grown (held old) (first number) (second number))
        olds betweens news one.grew two.grew;
    less = EachDriveFrom-more 0 _ _ (λ number old new. room new ≡ lessened (room old) (counts number + numbers number))
        (λ number old between new came more. more ∙ ap (λ free. lessened free (numbers number)) came ∙ lessened-more (room old) (counts number) (numbers number))
        olds betweens news one.less two.less;
    none = EachSame-more faults olds betweens news one.none two.none;
  }

  pub IsBegun-more : (first second : ℕ → List ℕ) (counts : ℕ → ℕ) (failed : ℕ) (olds betweens news : List D) → IsAppended held room faults first counts olds betweens
      → IsBegun held faults second failed betweens news → IsBegun held faults (λ drive. first drive ++ second drive) failed olds news
  IsBegun-more first second counts failed olds betweens news one two = record {
    grew = EachDriveFrom-more 0 _ _ (λ number old new. GrewByFirst (first number ++ second number) (held old) (held new))
        (λ number old between new came more. first_behind (first number) (second number) (held old) (held between) (held new) came more)
        olds betweens news one.grew two.grew;
    rose = RoseFirst-after faults failed olds betweens news one.none two.rose;
  }

  -- parts of which these are the first
  pub IsBegun-before : (parts rest all : ℕ → List ℕ) (failed : ℕ) (olds news : List D) → ((drive : ℕ) → all drive ≡ parts drive ++ rest drive)
      → IsBegun held faults parts failed olds news → IsBegun held faults all failed olds news
  IsBegun-before parts rest all failed olds news is begun = record {
    grew = EachDriveFrom-weaker 0 _ _
        (λ number old new came.
        let P : List ℕ → Type 0 = λ part. GrewByFirst part (held old) (held new) in
        subst P (sym (is number)) (first_before (parts number) (rest number) (held old) (held new) came))
        olds news begun.grew;
    rose = begun.rose;
  }

  -- an answer that isn't Ok names the drive that failed
  pub Appends-stopped : (first second rest all : ℕ → List ℕ) (counts numbers totals : ℕ → ℕ) (refusal : Refusal) (olds betweens news : List D)
      → ((drive : ℕ) → all drive ≡ (first drive ++ second drive) ++ rest drive) → IsAppended held room faults first counts olds betweens
      → Appends held room faults second numbers betweens news (Err refusal) → Appends held room faults all totals olds news (Err refusal)
  Appends-stopped first second rest all counts numbers totals (Refusal.DriveFault drive) olds betweens news is one two =
      IsBegun-before (λ number. first number ++ second number) rest all drive olds news is (IsBegun-more first second counts drive olds betweens news one two)
  Appends-stopped first second rest all counts numbers totals refusal olds betweens news is one two = absurd two

  -- none failed, and so none that has room
  pub kept_all : (counts : ℕ → ℕ) (olds news : List D) → NoneRose faults olds news → RoomyKeptFor room faults counts olds news
  kept_all counts olds news none =
      EachDriveFrom-weaker 0 (λ _ old new. faults new ≡ faults old) (λ number old new. HasRoom (room old) (counts number) → faults new ≡ faults old)
      (λ number old new same roomy. same) olds news (EachDrive-numbered 0 (λ old new. faults new ≡ faults old) olds news none)

  -- room for many is room for few
  pub kept_more : (few many : ℕ → ℕ) (olds news : List D) → ((drive : ℕ) → few drive ≤ many drive) → RoomyKeptFor room faults few olds news → RoomyKeptFor room faults many olds news
  kept_more few many olds news fewer kept =
      EachDriveFrom-weaker 0 (λ number old new. HasRoom (room old) (few number) → faults new ≡ faults old) (λ number old new. HasRoom (room old) (many number) → faults new ≡ faults old)
      (λ number old new same roomy. same (less_room (room old) (few number) (many number) (fewer number) roomy)) olds news kept

  -- room for all is room for what is left
  pub kept_behind : (counts numbers totals : ℕ → ℕ) (parts : ℕ → List ℕ) (olds betweens news : List D) → ((drive : ℕ) → counts drive + numbers drive ≤ totals drive)
      → IsAppended held room faults parts counts olds betweens → RoomyKeptFor room faults numbers betweens news → RoomyKeptFor room faults totals olds news
  kept_behind counts numbers totals parts olds betweens news within all kept =
      let Less : ℕ → D → D → Type 0 = λ number old between. room between ≡ lessened (room old) (counts number) in
      let Same : D → D → Type 0 = λ old between. faults between ≡ faults old in
      let First : ℕ → D → D → Type 0 = λ number old between. Less number old between × Same old between in
      EachDriveFrom-more 0 First (λ number between new. HasRoom (room between) (numbers number) → faults new ≡ faults between)
      (λ number old new. HasRoom (room old) (totals number) → faults new ≡ faults old)
      (λ number old between new first second roomy.
      let P : Option ℕ → Type 0 = λ free. HasRoom free (numbers number) in
      second (subst P (sym first.0) (room_left (room old) (counts number) (numbers number) (totals number) roomy (within number))) ∙ first.1)
      olds betweens news
      (EachDriveFrom-both 0 Less (λ _. Same) First (λ number old between less same. (less, same)) olds betweens all.less (EachDrive-numbered 0 Same olds betweens all.none))
      kept

  -- one drive was called
  pub appended_one : (drives : List D) (drive : ℕ) (page : List ℕ) (default new : D) → drive < length drives → held new ≡ grown (held (slice_index_or drives drive default)) page
      → room new ≡ lessened (room (slice_index_or drives drive default)) 1 → faults new ≡ faults (slice_index_or drives drive default)
      → IsAppended held room faults (on_drive drive page) (one_on drive) drives (slice_set drives drive new)
  appended_one drives drive page default new within grew less none = record {
    grew = EachDriveFrom-set (λ number before after. held after ≡ grown (held before) (on_drive drive page number)) drives drive default new
        (λ other one differs. sym (grown-nil (held one)) ∙ ap (grown (held one)) (sym (cond-false (other == drive) page [] (ne_eqb other drive differs))))
        within (grew ∙ ap (grown (held (slice_index_or drives drive default))) (sym (cond-true (drive == drive) page [] (eq-eqb drive drive refl))));
    less = EachDriveFrom-set (λ number before after. room after ≡ lessened (room before) (one_on drive number)) drives drive default new
        (λ other one differs. lessened-none (room one) ∙ ap (lessened (room one)) (sym (cond-false (other == drive) 1 0 (ne_eqb other drive differs))))
        within (less ∙ ap (lessened (room (slice_index_or drives drive default))) (sym (cond-true (drive == drive) 1 0 (eq-eqb drive drive refl))));
    none = EachSame-set faults drives drive default new within none;
  }

  pub begun_one : (drives : List D) (drive : ℕ) (page : List ℕ) (default new : D) → drive < length drives → GrewByFirst page (held (slice_index_or drives drive default)) (held new)
      → Rose (faults (slice_index_or drives drive default)) (faults new) → IsBegun held faults (on_drive drive page) drive drives (slice_set drives drive new)
  begun_one drives drive page default new within grew rose = record {
    grew = EachDriveFrom-set (λ number before after. GrewByFirst (on_drive drive page number) (held before) (held after)) drives drive default new
        (λ other one differs. (0, sym (grown-nil (held one))))
        within
        (let P : List ℕ → Type 0 = λ part. GrewByFirst part (held (slice_index_or drives drive default)) (held new) in
        subst P (sym (cond-true (drive == drive) page [] (eq-eqb drive drive refl))) grew);
    rose = RoseFirst-set faults drives drive default new within rose;
  }

  pub kept_one : (drives : List D) (drive : ℕ) (default new : D) → drive < length drives
      → (HasRoom (room (slice_index_or drives drive default)) 1 → faults new ≡ faults (slice_index_or drives drive default))
      → RoomyKeptFor room faults (one_on drive) drives (slice_set drives drive new)
  kept_one drives drive default new within kept =
      EachDriveFrom-set (λ number before after. HasRoom (room before) (one_on drive number) → faults after ≡ faults before) drives drive default new
      (λ other one differs roomy. refl) within
      (λ roomy.
      let P : ℕ → Type 0 = λ count. HasRoom (room (slice_index_or drives drive default)) count in
      kept (subst P (cond-true (drive == drive) 1 0 (eq-eqb drive drive refl)) roomy))

-- pages dealt out: one more, and the rest
module _ (taker : ℕ → ℕ) where
  taken_more : (count drive : ℕ) → taken taker (count + 1) drive ≡ taken taker count drive ++ cond (taker count == drive) (count ∷ []) []
  taken_more count drive =
      let next : 0 + count ≡ count = omega arith in
      ap (filter (λ k. taker k == drive)) (range_more 0 count ∙ ap (λ (last : ℕ). range_with_len 0 count ++ last ∷ []) next)
      ∙ filter-append (λ k. taker k == drive) (range_with_len 0 count) (count ∷ [])

  swapped : (one other : ℕ) → (one == other) ≡ (other == one)
  swapped one other = elim (cases_eq one other) [
    | inl same ↦ eq-eqb one other same ∙ sym (eq-eqb other one (sym same))
    | inr differ ↦ ne_eqb one other differ ∙ sym (ne_eqb other one (λ same. differ (sym same)))
  ]

  one_dealt : (bytes : ℕ → List ℕ) (k : ℕ) (test : Bool) → flat_map bytes (cond test (k ∷ []) []) ≡ cond test (bytes k) []
  one_dealt bytes k true = append-nil (bytes k)
  one_dealt bytes k false = refl

  one_counted : (k : ℕ) (test : Bool) → length (cond test (k ∷ []) []) ≡ cond test 1 0
  one_counted k true = refl
  one_counted k false = refl

  pub dealt_more : (bytes : ℕ → List ℕ) (count drive : ℕ) → dealt taker bytes (count + 1) drive ≡ dealt taker bytes count drive ++ on_drive (taker count) (bytes count) drive
  dealt_more bytes count drive =
      ap (flat_map bytes) (taken_more count drive)
      ∙ flat_map-append bytes (taken taker count drive) (cond (taker count == drive) (count ∷ []) [])
      ∙ ap (λ (last : List ℕ). dealt taker bytes count drive ++ last)
      (one_dealt bytes count (taker count == drive) ∙ ap (λ (test : Bool). cond test (bytes count) []) (swapped (taker count) drive))

  pub count_more : (count drive : ℕ) → dealt_count taker (count + 1) drive ≡ dealt_count taker count drive + one_on (taker count) drive
  count_more count drive =
      ap length (taken_more count drive)
      ∙ length-append (taken taker count drive) (cond (taker count == drive) (count ∷ []) [])
      ∙ ap (λ (last : ℕ). dealt_count taker count drive + last)
      (one_counted count (taker count == drive) ∙ ap (λ (test : Bool). cond test 1 0) (swapped (taker count) drive))

  -- the first pages are the first of all
  pub taken_rest : (count more drive : ℕ) → taken taker (count + more) drive ≡ taken taker count drive ++ filter (λ k. taker k == drive) (range_with_len count more)
  taken_rest count more drive =
      ap (filter (λ k. taker k == drive)) (range_split 0 count more ∙ ap (λ (first : ℕ). range_with_len 0 count ++ range_with_len first more) (omega arith))
      ∙ filter-append (λ k. taker k == drive) (range_with_len 0 count) (range_with_len count more)
    where
      range_split : (a m n : ℕ) → range_with_len a (m + n) ≡ range_with_len a m ++ range_with_len (a + m) n
      range_split a zero n = let e : a + 0 ≡ a = omega arith in let z : 0 + n ≡ n = omega arith in rw (e, z) refl
      range_split a (suc m) n =
          let s : suc m + n ≡ suc (m + n) = omega arith in
          let e : a + 1 + m ≡ a + suc m = omega arith in
          ap (range_with_len a) s ∙ ap (λ (l : List ℕ). a ∷ l) (range_split (a + 1) m n ∙ ap (λ (b : ℕ). range_with_len (a + 1) m ++ range_with_len b n) e)

  pub dealt_rest : (bytes : ℕ → List ℕ) (k count drive : ℕ) → k ≤ count
      → dealt taker bytes count drive ≡ dealt taker bytes k drive ++ flat_map bytes (filter (λ k. taker k == drive) (range_with_len k (count - k)))
  dealt_rest bytes k count drive within =
      let all : count ≡ k + (count - k) = omega (arith, within) in
      ap (λ (n : ℕ). dealt taker bytes n drive) all ∙ ap (flat_map bytes) (taken_rest k (count - k) drive)
      ∙ flat_map-append bytes (taken taker k drive) (filter (λ k. taker k == drive) (range_with_len k (count - k)))

  pub count_within : (k count drive : ℕ) → k + 1 ≤ count → dealt_count taker k drive + one_on (taker k) drive ≤ dealt_count taker count drive
  count_within k count drive within =
      let all : count ≡ k + 1 + (count - (k + 1)) = omega (arith, within) in
      let parts : dealt_count taker count drive ≡ dealt_count taker (k + 1) drive + length (filter (λ k. taker k == drive) (range_with_len (k + 1) (count - (k + 1)))) =
      ap (λ (n : ℕ). dealt_count taker n drive) all ∙ ap length (taken_rest (k + 1) (count - (k + 1)) drive)
      ∙ length-append (taken taker (k + 1) drive) (filter (λ k. taker k == drive) (range_with_len (k + 1) (count - (k + 1)))) in
      omega (arith, parts, count_more k drive)

-- a fact of each drive before and after, where its number is known to be one of a drive
each_drive_within : {D : Type 0} (first : ℕ) (R S : ℕ → D → D → Type 0) (olds news : List D) → ((number : ℕ) (old new : D) → number < first + length olds → R number old new → S number old new)
    → EachDriveFrom first R olds news → EachDriveFrom first S olds news
each_drive_within first R S [] [] then_ each = tt
each_drive_within first R S [] (new ∷ news) then_ each = absurd each
each_drive_within first R S (old ∷ olds) [] then_ each = absurd each
each_drive_within first R S (old ∷ olds) (new ∷ news) then_ each =
    (then_ first old new (omega arith) each.0, each_drive_within (suc first) R S olds news (λ number one other below. then_ number one other (omega (arith, below))) each.1)

-- page k for drive k: each drive takes its own
none_of : (a m n : ℕ) → n < a → filter (λ k. k == n) (range_with_len a m) ≡ []
none_of a zero n below = refl
none_of a (suc m) n below =
    ap (λ (test : Bool). cond test (a ∷ filter (λ k. k == n) (range_with_len (a + 1) m)) (filter (λ k. k == n) (range_with_len (a + 1) m))) (ne_eqb a n (λ same. omega (arith, same, below)))
    ∙ none_of (a + 1) m n (omega (arith, below))

one_of : (a m n : ℕ) → a ≤ n → n < a + m → filter (λ k. k == n) (range_with_len a m) ≡ n ∷ []
one_of a zero n above below = absurd (omega (arith, above, below))
one_of a (suc m) n above below =
    let F : Bool → List ℕ = λ test. cond test (a ∷ filter (λ k. k == n) (range_with_len (a + 1) m)) (filter (λ k. k == n) (range_with_len (a + 1) m)) in
    elim (cases_eq a n) [
      | inl same ↦ ap F (eq-eqb a n same) ∙ ap (λ (rest : List ℕ). a ∷ rest) (none_of (a + 1) m n (omega (arith, same))) ∙ ap (λ (k : ℕ). k ∷ []) same
      | inr differ ↦ ap F (ne_eqb a n differ) ∙ one_of (a + 1) m n (omega (arith, above, differ)) (omega (arith, below))
    ]

none_above : (a m n : ℕ) → a + m ≤ n → filter (λ k. k == n) (range_with_len a m) ≡ []
none_above a zero n above = refl
none_above a (suc m) n above =
    ap (λ (test : Bool). cond test (a ∷ filter (λ k. k == n) (range_with_len (a + 1) m)) (filter (λ k. k == n) (range_with_len (a + 1) m))) (ne_eqb a n (λ same. omega (arith, same, above)))
    ∙ none_above (a + 1) m n (omega (arith, above))

pub own_dealt : (bytes : ℕ → List ℕ) (count drive : ℕ) → drive < count → dealt (λ k. k) bytes count drive ≡ bytes drive
own_dealt bytes count drive below = ap (flat_map bytes) (one_of 0 count drive (omega arith) (omega (arith, below))) ∙ append-nil (bytes drive)

own_counted : (count drive : ℕ) → drive < count → dealt_count (λ k. k) count drive ≡ 1
own_counted count drive below = ap length (one_of 0 count drive (omega arith) (omega (arith, below)))

own_few : (count drive : ℕ) → dealt_count (λ k. k) count drive ≤ 1
own_few count drive = elim (cases_lt drive count) [
  | inl below ↦ let one = own_counted count drive below in omega (arith, one)
  | inr above ↦ let none : dealt_count (λ k. k) count drive ≡ 0 = ap length (none_above 0 count drive (omega (arith, above))) in omega (arith, none)
]

module _ {D : Type 0} (held : D → Option (List ℕ)) (room : D → Option ℕ) (faults : D → ℕ) where
  -- each drive of so many took its own
  pub Appends-own : (bytes : ℕ → List ℕ) (count : ℕ) (olds news : List D) (result : Result Unit Refusal) → length olds ≤ count
      → Appends held room faults (dealt (λ k. k) bytes count) (dealt_count (λ k. k) count) olds news result → Appends held room faults bytes (λ drive. 1) olds news result
  Appends-own bytes count olds news (Ok unit) few all = record {
    grew = each_drive_within 0 _ (λ drive old new. held new ≡ grown (held old) (bytes drive)) olds news
        (λ drive old new below is. is ∙ ap (grown (held old)) (own_dealt bytes count drive (omega (arith, few, below)))) all.grew;
    less = each_drive_within 0 _ (λ drive old new. room new ≡ lessened (room old) 1) olds news
        (λ drive old new below is. is ∙ ap (lessened (room old)) (own_counted count drive (omega (arith, few, below)))) all.less;
    none = all.none;
  }
  Appends-own bytes count olds news (Err (Refusal.DriveFault failed)) few begun = record {
    grew = each_drive_within 0 _ (λ drive old new. GrewByFirst (bytes drive) (held old) (held new)) olds news
        (λ drive old new below came.
        let P : List ℕ → Type 0 = λ part. GrewByFirst part (held old) (held new) in
        subst P (own_dealt bytes count drive (omega (arith, few, below))) came)
        begun.grew;
    rose = begun.rose;
  }
  Appends-own bytes count olds news (Err refusal) few never = absurd never

  pub kept_own : (count : ℕ) (olds news : List D) → RoomyKeptFor room faults (dealt_count (λ k. k) count) olds news → RoomyKeptFor room faults (λ drive. 1) olds news
  kept_own count olds news kept = kept_more held room faults (dealt_count (λ k. k) count) (λ drive. 1) olds news (own_few count) kept

  module _ (taker : ℕ → ℕ) (bytes : ℕ → List ℕ) (olds currents news : List D) (k count : ℕ) (within : k + 1 ≤ count)
      (so_far : IsAppended held room faults (dealt taker bytes k) (dealt_count taker k) olds currents) where
    -- one more page was appended
    pub deal_more : IsAppended held room faults (on_drive (taker k) (bytes k)) (one_on (taker k)) currents news
        → IsAppended held room faults (dealt taker bytes (k + 1)) (dealt_count taker (k + 1)) olds news
    deal_more one =
        IsAppended-as held room faults (λ drive. dealt taker bytes k drive ++ on_drive (taker k) (bytes k) drive) (dealt taker bytes (k + 1))
        (λ drive. dealt_count taker k drive + one_on (taker k) drive) (dealt_count taker (k + 1)) olds news
        (λ drive. sym (dealt_more taker bytes k drive)) (λ drive. sym (count_more taker k drive))
        (IsAppended-more held room faults (dealt taker bytes k) (on_drive (taker k) (bytes k)) (dealt_count taker k) (one_on (taker k)) olds currents news so_far one)

    -- a page was not
    pub deal_stops : (refusal : Refusal) → Appends held room faults (on_drive (taker k) (bytes k)) (one_on (taker k)) currents news (Err refusal)
        → Appends held room faults (dealt taker bytes count) (dealt_count taker count) olds news (Err refusal)
    deal_stops refusal one =
        Appends-stopped held room faults (dealt taker bytes k) (on_drive (taker k) (bytes k)) (λ drive. flat_map bytes (filter (λ j. taker j == drive) (range_with_len (k + 1) (count - (k + 1)))))
        (dealt taker bytes count) (dealt_count taker k) (one_on (taker k)) (dealt_count taker count) refusal olds currents news
        (λ drive. dealt_rest taker bytes (k + 1) count drive within ∙ ap (λ (front : List ℕ). front ++ flat_map bytes (filter (λ j. taker j == drive) (range_with_len (k + 1) (count - (k + 1))))) (dealt_more taker bytes k drive))
        so_far one

    -- there is room for it where there was for all
    pub deal_kept : RoomyKeptFor room faults (one_on (taker k)) currents news → RoomyKeptFor room faults (dealt_count taker count) olds news
    deal_kept kept =
        kept_behind held room faults (dealt_count taker k) (one_on (taker k)) (dealt_count taker count) (dealt taker bytes k) olds currents news
        (λ drive. count_within taker k count drive within) so_far kept
