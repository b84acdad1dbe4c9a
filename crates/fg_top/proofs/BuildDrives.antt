-- What a build leaves on its drives, by what looking at them and building did.
use Rattle.std.proofs.Common.{◌≡◌, ◌≢◌, ◌∙◌, ℕ, ◌/◌, Bool, Option, None, Some, IfSome, IsSome, Result, Ok, Err, List, ◌⊎◌, ⊎_elim, length, refl, sym, ap, subst, inl, inr}
use Rattle.fg_base.specs.Faults.{Rose}
use Rattle.fg_base.specs.Refusal.{status_of}
use Rattle.fg_base.specs.Told.{grown, GrewByFirst}
use Rattle.fg_base.specs.declared.refusal.Refusal.{Refusal}
use Rattle.fg_build.specs.Answers.{ReadCounts}
use Rattle.fg_build.specs.Building.{Builds, HoldFirst, HoldImage, RoomyKeptForImage}
use Rattle.fg_build.specs.Layouts.{Plan, drive_bytes}
use Rattle.fg_model.specs.Edges.{EdgeList}
use Rattle.fg_outside.specs.Drives.{EachSame, NoneRose, RoomyKept}
use Rattle.fg_outside.specs.Pages.{HasRoom}
use Rattle.fg_outside.proofs.DriveLemmas.{EachDrive-both, EachDrive-length, EachDrive-numbered, EachDriveFrom-more, EachDriveFrom-weaker, EachSame-more, RoseFirst-after}
use Rattle.fg_report.specs.Refusals.{refusal_line}
use Rattle.fg_text.specs.Text.{read_text}
use Rattle.fg_top.specs.BuildOutcome.{BuildComesTo, built_line}
use Rattle.fg_top.specs.Built.{AreBuilt, AreBuiltAsWritten, AreLeft, AreOfText, BuildLeaves, IsKeptBy, IsKeptByBuild, MayBuild}
use Rattle.fg_top.specs.Calls.{Input, Output}
use Rattle.fg_top.specs.Ends.{IsCause, IsWritten}
use Rattle.fg_top.proofs.BuildEnds.{cut_build}

-- what was appended to drives that were only looked at before
image_after : {D : Type 0} (held : D → Option (List ℕ)) (plan : Plan) (edges : EdgeList) (olds betweens news : List D) →
    EachSame held olds betweens → HoldImage held plan edges betweens news → HoldImage held plan edges olds news
image_after {D} held plan edges olds betweens news same holds =
    let R : ℕ → D → D → Type 0 = λ _ old new. held new ≡ held old in
    let S : ℕ → D → D → Type 0 = λ drive old new. held new ≡ grown (held old) (drive_bytes plan edges drive) in
    EachDriveFrom-more 0 R S S (λ drive old between new one two. two ∙ ap (λ told. grown told (drive_bytes plan edges drive)) one) olds betweens news
    (EachDrive-numbered 0 (λ old new. held new ≡ held old) olds betweens same) holds

first_after : {D : Type 0} (held : D → Option (List ℕ)) (plan : Plan) (edges : EdgeList) (olds betweens news : List D) →
    EachSame held olds betweens → HoldFirst held plan edges betweens news → HoldFirst held plan edges olds news
first_after {D} held plan edges olds betweens news same holds =
    let R : ℕ → D → D → Type 0 = λ _ old new. held new ≡ held old in
    let S : ℕ → D → D → Type 0 = λ drive old new. GrewByFirst (drive_bytes plan edges drive) (held old) (held new) in
    EachDriveFrom-more 0 R S S
    (λ drive old between new one two. let P : Option (List ℕ) → Type 0 = λ told. GrewByFirst (drive_bytes plan edges drive) told (held new) in subst P one two)
    olds betweens news (EachDrive-numbered 0 (λ old new. held new ≡ held old) olds betweens same) holds

-- a plan over as many drives
abbrev pub over : {D : Type 0} → ℕ → ℕ → List D → Plan
over unit number drives = record { drives = length drives; unit = unit; number = number }

over_same : {D A : Type 0} (of : D → A) (unit number : ℕ) (olds betweens : List D) → EachSame of olds betweens → over unit number betweens ≡ over unit number olds
over_same of unit number olds betweens same =
    ap (λ count. record { drives = count; unit = unit; number = number }) (EachDrive-length (λ old new. of new ≡ of old) olds betweens same)

-- the image was built, of the edges of this line
pub built_as_written : {D : Type 0} (held : D → Option (List ℕ)) (faults : D → ℕ) (unit number : ℕ) (undirected : Bool) (input : Input) (edges : EdgeList)
    (pages : ℕ) (line : List ℕ) (olds betweens news : List D) → MayBuild held undirected input olds edges → EachSame held olds betweens → NoneRose faults olds betweens →
    Builds held (over unit number betweens) edges betweens news (Ok pages) → ReadCounts {A = ℕ} faults betweens news (Ok pages) → line ≡ built_line (length olds) edges →
    AreBuiltAsWritten held faults (over unit number olds) undirected input olds news line
built_as_written held faults unit number undirected input edges pages line olds betweens news may same kept holds counts is_line =
    let P : Plan → Type 0 = λ plan. HoldImage held plan edges olds news in
    record {
      built = record {
        edges = edges;
        may = may;
        holds = subst P (over_same held unit number olds betweens same) (image_after held (over unit number betweens) edges olds betweens news same holds);
        kept = EachSame-more faults olds betweens news kept counts;
      };
      is_line = is_line;
    }

pub built_whole : {D : Type 0} (held : D → Option (List ℕ)) (faults : D → ℕ) (unit number : ℕ) (undirected : Bool) (input : Input) (edges : EdgeList)
    (pages : ℕ) (olds betweens news : List D) → MayBuild held undirected input olds edges → EachSame held olds betweens → NoneRose faults olds betweens →
    Builds held (over unit number betweens) edges betweens news (Ok pages) → ReadCounts {A = ℕ} faults betweens news (Ok pages) →
    AreBuilt held faults (over unit number olds) undirected input olds news
built_whole held faults unit number undirected input edges pages olds betweens news may same kept holds counts =
    (built_as_written held faults unit number undirected input edges pages (built_line (length olds) edges) olds betweens news may same kept holds counts refl).built

-- building was refused
pub leaves_refused : {D : Type 0} (held : D → Option (List ℕ)) (faults : D → ℕ) (unit number : ℕ) (undirected : Bool) (input : Input) (edges : EdgeList)
    (refusal : Refusal) (text : List ℕ) (olds betweens news : List D) → MayBuild held undirected input olds edges → EachSame held olds betweens → NoneRose faults olds betweens →
    Builds held (over unit number betweens) edges betweens news (Err refusal) → ReadCounts {A = ℕ} faults betweens news (Err refusal) →
    BuildLeaves held faults (over unit number olds) undirected input olds news (Some refusal) text
leaves_refused held faults unit number undirected input edges Refusal.Memory text olds betweens news may same kept holds counts =
    EachSame-more held olds betweens news same holds
leaves_refused held faults unit number undirected input edges (Refusal.DriveFault drive) text olds betweens news may same kept holds counts =
    let P : Plan → Type 0 = λ plan. HoldFirst held plan edges olds news in
    inr (record {
      edges = edges;
      may = may;
      holds = subst P (over_same held unit number olds betweens same) (first_after held (over unit number betweens) edges olds betweens news same holds);
      rose = RoseFirst-after faults drive olds betweens news kept counts;
    })
leaves_refused held faults unit number undirected input edges refusal text olds betweens news may same kept holds counts = absurd holds

-- what is left by an end is left by some end
pub left_by : {D : Type 0} (held : D → Option (List ℕ)) (faults : D → ℕ) (plan : Plan) (undirected : Bool) (input : Input) (olds news : List D) (refusal : Refusal) (text : List ℕ) →
    BuildLeaves held faults plan undirected input olds news (Some refusal) text → AreLeft held faults plan undirected input olds news
left_by held faults plan undirected input olds news (Refusal.DriveFault drive) text leaves = ⊎_elim (λ same. inl same) (λ part. inr (inr (drive, part))) leaves
left_by held faults plan undirected input olds news refusal text leaves = inl leaves

-- drives that hold what they held are left so by any refusal
pub leaves_held : {D : Type 0} (held : D → Option (List ℕ)) (faults : D → ℕ) (plan : Plan) (undirected : Bool) (input : Input) (olds news : List D) (refusal : Refusal) (text : List ℕ) →
    EachSame held olds news → BuildLeaves held faults plan undirected input olds news (Some refusal) text
leaves_held held faults plan undirected input olds news (Refusal.DriveFault drive) text same = inl same
leaves_held held faults plan undirected input olds news refusal text same = same

-- why building was refused
pub cause_of_building : {D : Type 0} (faults : D → ℕ) (drives : ℕ) (undirected : Bool) (told : Option (List (List ℕ))) (input : Input)
    (refusal : Refusal) (olds betweens news : List D) → IfSome told (λ helds. length helds ≡ drives) → input.new_faults ≡ input.old_faults → NoneRose faults olds betweens →
    ReadCounts {A = ℕ} faults betweens news (Err refusal) → IsCause faults olds news (BuildComesTo drives undirected told input) (Some refusal) (refusal_line refusal)
cause_of_building faults drives undirected told input Refusal.Memory olds betweens news many stood kept counts =
    (EachSame-more faults olds betweens news kept counts, cut_build drives undirected told input (refusal_line Refusal.Memory) many stood)
cause_of_building faults drives undirected told input (Refusal.DriveFault drive) olds betweens news many stood kept counts =
    (RoseFirst-after faults drive olds betweens news kept counts, cut_build drives undirected told input (refusal_line (Refusal.DriveFault drive)) many stood)
cause_of_building faults drives undirected told input refusal olds betweens news many stood kept counts = absurd counts

pub building_not_output : {D : Type 0} (faults : D → ℕ) (olds news : List D) (refusal : Refusal) → ReadCounts {A = ℕ} faults olds news (Err refusal) → refusal ≢ Refusal.OutputFault
building_not_output faults olds news refusal counts is =
    let P : Refusal → Type 0 = λ refusal. ReadCounts {A = ℕ} faults olds news (Err refusal) in subst P is counts

-- a status other than those of drives and of the output says that building took no memory and appended nothing
pub unbuilt_refused : {D : Type 0} (held : D → Option (List ℕ)) (faults : D → ℕ) (plan : Plan) (edges : EdgeList) (refusal : Refusal) (olds betweens news : List D)
    (output : Output) (text : List ℕ) (status : ℕ) → EachSame held olds betweens → Builds held plan edges betweens news (Err refusal) →
    IsWritten output (Some refusal) text status → status ≢ 4 → status ≢ 5 → EachSame held olds news
unbuilt_refused held faults plan edges Refusal.Memory olds betweens news output text status same holds written not_four not_five =
    EachSame-more held olds betweens news same holds
unbuilt_refused held faults plan edges (Refusal.DriveFault drive) olds betweens news output text status same holds written not_four not_five =
    absurd (⊎_elim (λ whole. not_five whole.3) (λ failed. not_four failed.2) written)
unbuilt_refused held faults plan edges refusal olds betweens news output text status same holds written not_four not_five = absurd holds

-- nor does building answer for what the drives held
pub building_not_held : {D : Type 0} (faults : D → ℕ) (olds news : List D) (refusal : Refusal) → ReadCounts {A = ℕ} faults olds news (Err refusal) → status_of refusal ≢ 7
building_not_held faults olds news Refusal.Memory counts is = cc
building_not_held faults olds news (Refusal.DriveFault drive) counts is = cc
building_not_held faults olds news refusal counts is = absurd counts

pub building_not_text : {D : Type 0} (faults : D → ℕ) (olds news : List D) (refusal : Refusal) → ReadCounts {A = ℕ} faults olds news (Err refusal) → status_of refusal ≢ 6
building_not_text faults olds news Refusal.Memory counts is = cc
building_not_text faults olds news (Refusal.DriveFault drive) counts is = cc
building_not_text faults olds news refusal counts is = absurd counts

-- statuses 6 and 7 are those of the refusal whose line was written
pub text_status : (output : Output) (refusal : Refusal) (text : List ℕ) (status : ℕ) → IsWritten output (Some refusal) text status → status ≡ 6 → status_of refusal ≡ 6
text_status output refusal text status written is =
    elim written [
      | inl whole ↦ sym whole.3 ∙ is
      | inr failed ↦ let four : ◌≡◌ {A = ℕ} 4 6 = sym failed.2 ∙ is in cc
    ]

pub held_status : (output : Output) (refusal : Refusal) (text : List ℕ) (status : ℕ) → IsWritten output (Some refusal) text status → status ≡ 7 → status_of refusal ≡ 7
held_status output refusal text status written is =
    elim written [
      | inl whole ↦ sym whole.3 ∙ is
      | inr failed ↦ let four : ◌≡◌ {A = ℕ} 4 7 = sym failed.2 ∙ is in cc
    ]

-- where the input's count rose, the status is that of the input or of the output
pub input_status : (before after : ℕ) (refusal : Refusal) (output : Output) (text : List ℕ) (status : ℕ) →
    (after ≡ before) ⊎ (Rose before after × (refusal ≡ Refusal.InputFault)) → IsWritten output (Some refusal) text status →
    (after ≡ before) ⊎ (Rose before after × ((status ≡ 3) ⊎ (status ≡ 4)))
input_status before after refusal output text status (inl stood) written = inl stood
input_status before after refusal output text status (inr (rose, named)) written =
    let P : Refusal → Type 0 = λ refusal. IsWritten output (Some refusal) text status in
    inr (rose, ⊎_elim (λ whole. inl whole.3) (λ failed. inr failed.2) (subst P named written))

-- drives that were only looked at before have the room that they had
kept_after : {D : Type 0} (room : D → Option ℕ) (faults : D → ℕ) (plan : Plan) (edges : EdgeList) (olds betweens news : List D) → EachSame room olds betweens →
    NoneRose faults olds betweens → RoomyKeptForImage room faults plan edges betweens news → RoomyKeptForImage room faults plan edges olds news
kept_after {D} room faults plan edges olds betweens news same none kept =
    let Room : D → D → Type 0 = λ old between. room between ≡ room old in
    let Count : D → D → Type 0 = λ old between. faults between ≡ faults old in
    let Both : D → D → Type 0 = λ old between. Room old between × Count old between in
    let Kept : ℕ → D → D → Type 0 = λ drive old new. HasRoom (room old) (length (drive_bytes plan edges drive) / 4096) → faults new ≡ faults old in
    EachDriveFrom-more 0 (λ _. Both) Kept Kept
    (λ drive old between new first second roomy.
    let P : Option ℕ → Type 0 = λ free. HasRoom free (length (drive_bytes plan edges drive) / 4096) in
    second (subst P (sym first.0) roomy) ∙ first.1)
    olds betweens news (EachDrive-numbered 0 Both olds betweens (EachDrive-both Room Count Both (λ old between one two. (one, two)) olds betweens same none)) kept

-- a drive with room tells it
is_told : (free : Option ℕ) (count : ℕ) → HasRoom free count → IsSome free
is_told None count has = absurd has
is_told (Some free) count has = refl

-- drives that tell their room, where nothing was appended, and where building was begun
pub kept_unbuilt : {D : Type 0} (room : D → Option ℕ) (faults : D → ℕ) (plan : Plan) (undirected : Bool) (left : Option (List ℕ)) (olds news : List D) →
    RoomyKept room faults olds news → IsKeptByBuild room faults plan undirected left olds news
kept_unbuilt room faults plan undirected None olds news kept = tt
kept_unbuilt {D} room faults plan undirected (Some bytes) olds news kept = by (read_text undirected bytes) where
  by : (says : Result EdgeList Refusal) → IsKeptBy room faults plan olds news says
  by (Err refusal) = kept
  by (Ok edges) =
      let Told : D → D → Type 0 = λ old new. IsSome (room old) → faults new ≡ faults old in
      EachDriveFrom-weaker 0 (λ _. Told) (λ drive old new. HasRoom (room old) (length (drive_bytes plan edges drive) / 4096) → faults new ≡ faults old)
      (λ drive old new same roomy. same (is_told (room old) (length (drive_bytes plan edges drive) / 4096) roomy)) olds news (EachDrive-numbered 0 Told olds news kept)

pub kept_built : {D : Type 0} (room : D → Option ℕ) (faults : D → ℕ) (unit number : ℕ) (undirected : Bool) (left : Option (List ℕ)) (edges : EdgeList) (olds betweens news : List D) →
    AreOfText undirected left edges → EachSame room olds betweens → NoneRose faults olds betweens →
    RoomyKeptForImage room faults (over unit number betweens) edges betweens news →
    IsKeptByBuild room faults (over unit number olds) undirected left olds news
kept_built room faults unit number undirected None edges olds betweens news of_text same none kept = tt
kept_built room faults unit number undirected (Some bytes) edges olds betweens news of_text same none kept =
    let By : Result EdgeList Refusal → Type 0 = λ says. IsKeptBy room faults (over unit number olds) olds news says in
    let P : Plan → Type 0 = λ plan. RoomyKeptForImage room faults plan edges olds news in
    subst By (sym of_text.says) (subst P (over_same room unit number olds betweens same)
    (kept_after room faults (over unit number betweens) edges olds betweens news same none kept))
