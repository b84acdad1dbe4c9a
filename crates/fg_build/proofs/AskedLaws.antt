-- Readings of drives one after another, and what more iterations ask for.
use Rattle.std.proofs.Common.{◌≡◌, ◌∙◌, ℕ, ◌<◌, ◌≤◌, ◌/◌, List, [], ◌++◌, slice_index_or, refl, sym, subst, lit≤, arith}
use Rattle.std.proofs.Math.Nat.{mod-lt}
use Rattle.std.proofs.lemmas.List.Elements.{All-cons, All-nil, Contains-append_left, Contains-append_right}
use Rattle.std.specs.List.{Contains}
use Rattle.fg_base.specs.declared.plain.Dir.{Dir}
use Rattle.fg_base.specs.declared.plain.Need.{Need}
use Rattle.fg_build.specs.declared.opened.Opened.{Opened}
use Rattle.fg_build.specs.Asked.{HasAsked, IsAsked, IsAskedPage, IsReadFor, IsReadForSome}
use Rattle.fg_image.specs.Needed.{HoldsSome, IsNeededBySome, IsNeededPage, dirs_of}
use Rattle.fg_build.specs.OnlyRead.{OnlyRead, ReadsPages, Telling, pages_read}
use Rattle.fg_build.specs.OpeningReads.{page_read}
use Rattle.fg_image.specs.Lists.{begin_of, end_of}
use Rattle.fg_index.specs.ImageIndex.{ImageIndex}
use Rattle.fg_model.specs.Iteration.{Begun}
use Rattle.fg_model.specs.Program.{Rules}
use Rattle.fg_outside.specs.Drives.{DriveRead, NoneRose, RoseFirst}
use Rattle.fg_outside.proofs.DriveLemmas.{EachDrive-same, EachSame-more, LogsGrewBy-more, LogsGrewBy-none, LogsGrewBy-weaker, RoomyKept-more, RoseFirst-after}
use Rattle.fg_stripe.specs.declared.layout.Layout.{Layout}
use Rattle.fg_stripe.specs.Striping.{page_at, place_of}
use Rattle.fg_stripe.proofs.StripingLaws.{page_at-place_of}

pub OnlyRead-none : {D : Type 0} (T : Telling D) (IsOne : DriveRead → Type 0) (drives : List D) → OnlyRead T IsOne drives drives
OnlyRead-none T IsOne drives =
    record {
      same_held = EachDrive-same (λ old new. T.held new ≡ T.held old) (λ drive. refl) drives;
      same_told = EachDrive-same (λ old new. T.told new ≡ T.told old) (λ drive. refl) drives;
      same_room = EachDrive-same (λ old new. T.room new ≡ T.room old) (λ drive. refl) drives;
      roomy = EachDrive-same _ (λ drive told. refl) drives;
      grew = LogsGrewBy-none IsOne T.log drives;
    }

pub OnlyRead-more : {D : Type 0} (T : Telling D) (IsOne : DriveRead → Type 0) (olds betweens news : List D) → OnlyRead T IsOne olds betweens → OnlyRead T IsOne betweens news → OnlyRead T IsOne olds news
OnlyRead-more T IsOne olds betweens news one two =
    record {
      same_held = EachSame-more T.held olds betweens news one.same_held two.same_held;
      same_told = EachSame-more T.told olds betweens news one.same_told two.same_told;
      same_room = EachSame-more T.room olds betweens news one.same_room two.same_room;
      roomy = RoomyKept-more T.room T.faults olds betweens news one.same_room one.roomy two.roomy;
      grew = LogsGrewBy-more IsOne T.log olds betweens news one.grew two.grew;
    }

pub OnlyRead-weaker : {D : Type 0} (T : Telling D) (Strong Weak : DriveRead → Type 0) → ((read : DriveRead) → Strong read → Weak read) → (olds news : List D) → OnlyRead T Strong olds news → OnlyRead T Weak olds news
OnlyRead-weaker T Strong Weak weaker olds news reads =
    record {
      same_held = reads.same_held;
      same_told = reads.same_told;
      same_room = reads.same_room;
      roomy = reads.roomy;
      grew = LogsGrewBy-weaker Strong Weak T.log olds news weaker reads.grew;
    }

-- reads of pages, each of which is one of others too
pub ReadsPages-weaker : (most : ℕ) (layout : Layout) (Strong Weak : ℕ → Type 0) → ((page : ℕ) → Strong page → Weak page) → (one : DriveRead) → ReadsPages most layout Strong one → ReadsPages most layout Weak one
ReadsPages-weaker most layout Strong Weak weaker one reads = record {
  own = reads.own;
  behind_label = reads.behind_label;
  some = reads.some;
  few = reads.few;
  at_place = λ k default within. weaker (slice_index_or (pages_read layout.drives layout.unit one) k default) (reads.at_place k default within);
}

-- a page that is read alone at its place
pub ReadsPages-one : (most : ℕ) (layout : Layout) (IsOne : ℕ → Type 0) (page : ℕ) → 1 ≤ most → 0 < layout.drives → 0 < layout.unit → IsOne page
    → ReadsPages most layout IsOne (page_read layout.drives layout.unit page)
ReadsPages-one most layout IsOne page room some_drives some_unit is =
    let stands = page_at-place_of layout.drives layout.unit some_drives some_unit page in
    record {
      own = mod-lt (page / layout.unit) some_drives;
      behind_label = omega arith;
      some = lit≤ tt;
      few = room;
      at_place = All-cons IsOne (page_at (place_of page layout.drives layout.unit) layout.drives layout.unit) [] (subst IsOne (sym stands) is) (All-nil IsOne);
    }

-- reads of drives, by what holds of each page
pub OnlyRead-pages : {D : Type 0} (most : ℕ) (T : Telling D) (layout : Layout) (Strong Weak : ℕ → Type 0) → ((page : ℕ) → Strong page → Weak page) → (olds news : List D)
    → OnlyRead T (ReadsPages most layout Strong) olds news → OnlyRead T (ReadsPages most layout Weak) olds news
OnlyRead-pages most T layout Strong Weak weaker olds news reads =
    OnlyRead-weaker T (ReadsPages most layout Strong) (ReadsPages most layout Weak) (λ one is. ReadsPages-weaker most layout Strong Weak weaker one is) olds news reads

-- one page was read alone
pub OnlyRead-one : {D : Type 0} (most : ℕ) (T : Telling D) (layout : Layout) (IsOne : ℕ → Type 0) (page : ℕ) (olds news : List D) → 1 ≤ most → 0 < layout.drives → 0 < layout.unit → IsOne page
    → OnlyRead T (λ one. one ≡ page_read layout.drives layout.unit page) olds news → OnlyRead T (ReadsPages most layout IsOne) olds news
OnlyRead-one most T layout IsOne page olds news room some_drives some_unit is reads =
    OnlyRead-weaker T (λ one. one ≡ page_read layout.drives layout.unit page) (ReadsPages most layout IsOne)
    (λ one same. subst (ReadsPages most layout IsOne) (sym same) (ReadsPages-one most layout IsOne page room some_drives some_unit is)) olds news reads

-- pages of a list of a vertex are pages of a needed list, where that direction is needed
pub OnlyRead-needed : {D : Type 0} (most : ℕ) (T : Telling D) (layout : Layout) (index : ImageIndex) (need : Need) (dir : Dir) (v begin end : ℕ) (olds news : List D) → Contains (dirs_of need) dir
    → begin ≡ begin_of layout index dir v → end ≡ end_of layout index dir v → OnlyRead T (ReadsPages most layout (HoldsSome begin end)) olds news → OnlyRead T (IsReadFor most layout index need v) olds news
OnlyRead-needed most T layout index need dir v begin end olds news needed begins ends reads =
    OnlyRead-pages most T layout (HoldsSome begin end) (IsNeededPage layout index need v)
    (λ page is. record {
      dir = dir;
      is_needed = needed;
      holds = record { byte = is.byte; from_begin = rw (sym begins) is.from_begin; to_end = rw (sym ends) is.to_end; is_page = is.is_page };
    }) olds news reads

-- pages for a vertex are pages for vertices of which it is one
pub OnlyRead-for_some : {D : Type 0} (most : ℕ) (T : Telling D) (layout : Layout) (index : ImageIndex) (need : Need) (vertices : List ℕ) (v : ℕ) (olds news : List D) → Contains vertices v
    → OnlyRead T (IsReadFor most layout index need v) olds news → OnlyRead T (IsReadForSome most layout index need vertices) olds news
OnlyRead-for_some most T layout index need vertices v olds news has reads =
    OnlyRead-pages most T layout (IsNeededPage layout index need v) (IsNeededBySome layout index need vertices) (λ page is. record { vertex = v; is_one = has; is_for = is }) olds news reads

-- pages for the active vertices of an iteration are asked for where that began
pub OnlyRead-asked : {D : Type 0} (most : ℕ) (T : Telling D) (layout : Layout) (index : ImageIndex) (P : Rules) (begun : List Begun) (iteration : Begun) (olds news : List D) → Contains begun iteration
    → OnlyRead T (IsReadForSome most layout index P.need iteration.active) olds news → OnlyRead T (IsAsked most layout index P begun) olds news
OnlyRead-asked most T layout index P begun iteration olds news has reads =
    OnlyRead-pages most T layout (IsNeededBySome layout index P.need iteration.active) (IsAskedPage layout index P begun)
    (λ page is. record { iteration = iteration; has_begun = has; is_for_active = is }) olds news reads

-- what some iterations ask for, more iterations ask for
asked_left : (layout : Layout) (index : ImageIndex) (P : Rules) (begun next : List Begun) (page : ℕ) → IsAskedPage layout index P begun page → IsAskedPage layout index P (begun ++ next) page
asked_left layout index P begun next page asked =
    record { iteration = asked.iteration; has_begun = Contains-append_left begun next asked.iteration asked.has_begun; is_for_active = asked.is_for_active }

asked_right : (layout : Layout) (index : ImageIndex) (P : Rules) (begun next : List Begun) (page : ℕ) → IsAskedPage layout index P next page → IsAskedPage layout index P (begun ++ next) page
asked_right layout index P begun next page asked =
    record { iteration = asked.iteration; has_begun = Contains-append_right begun next asked.iteration asked.has_begun; is_for_active = asked.is_for_active }

pub IsAsked-left : (most : ℕ) (layout : Layout) (index : ImageIndex) (P : Rules) (begun next : List Begun) (read : DriveRead) → IsAsked most layout index P begun read → IsAsked most layout index P (begun ++ next) read
IsAsked-left most layout index P begun next read asked =
    ReadsPages-weaker most layout (IsAskedPage layout index P begun) (IsAskedPage layout index P (begun ++ next)) (asked_left layout index P begun next) read asked

pub IsAsked-right : (most : ℕ) (layout : Layout) (index : ImageIndex) (P : Rules) (begun next : List Begun) (read : DriveRead) → IsAsked most layout index P next read → IsAsked most layout index P (begun ++ next) read
IsAsked-right most layout index P begun next read asked =
    ReadsPages-weaker most layout (IsAskedPage layout index P next) (IsAskedPage layout index P (begun ++ next)) (asked_right layout index P begun next) read asked

-- no count rose where nothing happened, or twice
pub NoneRose-none : {D : Type 0} (faults : D → ℕ) (drives : List D) → NoneRose faults drives drives
NoneRose-none faults drives = EachDrive-same (λ old new. faults new ≡ faults old) (λ drive. refl) drives

pub NoneRose-more : {D : Type 0} (faults : D → ℕ) (olds betweens news : List D) → NoneRose faults olds betweens → NoneRose faults betweens news → NoneRose faults olds news
NoneRose-more faults olds betweens news one two = EachSame-more faults olds betweens news one two

-- a drive's count rose after no count had
pub RoseFirst-later : {D : Type 0} (faults : D → ℕ) (drive : ℕ) (olds betweens news : List D) → NoneRose faults olds betweens → RoseFirst faults drive betweens news → RoseFirst faults drive olds news
RoseFirst-later faults drive olds betweens news kept rose = RoseFirst-after faults drive olds betweens news kept rose

pub HasAsked-none : {D : Type 0} (most : ℕ) (T : Telling D) (P : Rules) (opened : Opened) (drives : List D) → HasAsked most T P [] opened opened drives drives
HasAsked-none most T P opened drives = record { same_opened = refl; reads = OnlyRead-none T (IsAsked most opened.layout opened.index P []) drives }

pub HasAsked-more : {D : Type 0} (most : ℕ) (T : Telling D) (P : Rules) (begun next : List Begun) (first middle last : Opened) (olds betweens news : List D) →
    HasAsked most T P begun first middle olds betweens → HasAsked most T P next middle last betweens news → HasAsked most T P (begun ++ next) first last olds news
HasAsked-more most T P begun next first middle last olds betweens news one two =
    let Asked = λ (some : List Begun) (o : Opened). IsAsked most o.layout o.index P some in
    let R : Opened → Type 0 = λ o. OnlyRead T (Asked next o) betweens news in
    record {
      same_opened = two.same_opened ∙ one.same_opened;
      reads = OnlyRead-more T (Asked (begun ++ next) first) olds betweens news
          (OnlyRead-weaker T (Asked begun first) (Asked (begun ++ next) first) (IsAsked-left most first.layout first.index P begun next) olds betweens one.reads)
          (OnlyRead-weaker T (Asked next first) (Asked (begun ++ next) first) (IsAsked-right most first.layout first.index P begun next) betweens news (subst R one.same_opened two.reads));
    }
