-- The numbers of pages that drives told last, by the answers of looking whether they are empty and of opening them. Each drive
-- tells that number, whether or not it tells its bytes.
use Rattle.std.specs.Prelude.{◌≡◌, ◌≢◌, ◌<◌, ◌≤◌, ℕ, Result, Ok, Err, List, length}
use Rattle.fg_base.specs.declared.refusal.Refusal.{Refusal}
use Rattle.fg_build.specs.Answers.{HoldWhole}
use Rattle.fg_build.specs.Labelled.{striping_of}
use Rattle.fg_build.specs.Labels.{need_of}
use Rattle.fg_outside.specs.Drives.{EachDriveFrom}
use Rattle.fg_stripe.specs.declared.label.Label.{Label}

-- the first so many drives told no page, and the others weren't asked
abbrev pub ToldNone : {D : Type 0} → (D → ℕ) → ℕ → List D → List D → Type 0
ToldNone told count olds news =
    EachDriveFrom 0 (λ number old new. (number < count → told new ≡ 0) × (count ≤ number → told new ≡ told old)) olds news

-- the drive of this number is the first that told a page: those before it told none, and those behind it weren't asked
abbrev pub ToldFirst : {D : Type 0} → (D → ℕ) → ℕ → List D → List D → Type 0
ToldFirst told full olds news =
    EachDriveFrom 0 (λ number old new. (number < full → told new ≡ 0) × (number ≡ full → 1 ≤ told new) × (full < number → told new ≡ told old)) olds news

-- what drives told by an answer of looking whether they are empty
abbrev pub EmptyTold : {D : Type 0} → (D → ℕ) → List D → List D → Result Unit Refusal → Type 0
EmptyTold told olds news (Ok unit) = ToldNone told (length olds) olds news
EmptyTold told olds news (Err (Refusal.NotEmpty drive)) = (drive < length olds) × ToldFirst told drive olds news
EmptyTold told olds news (Err (Refusal.DriveFault drive)) = ToldNone told drive olds news
EmptyTold told olds news (Err refusal) = ⊥

-- only the drive of this number was asked
abbrev pub ToldAlone : {D : Type 0} → (D → ℕ) → ℕ → List D → List D → Type 0
ToldAlone told drive olds news = EachDriveFrom 0 (λ number old new. number ≢ drive → told new ≡ told old) olds news

-- the refusal is that this drive has no label, or that it failed
abbrev pub IsUnlabelled : ℕ → Refusal → Type 0
IsUnlabelled drive (Refusal.NoLabel named) = named ≡ drive
IsUnlabelled drive (Refusal.DriveFault named) = named ≡ drive
IsUnlabelled drive refusal = ⊥

-- the refusal is of this drive's label or pages, or that it failed
abbrev pub IsOf : ℕ → Refusal → Type 0
IsOf drive (Refusal.NoLabel named) = named ≡ drive
IsOf drive (Refusal.WrongDrive named found) = named ≡ drive
IsOf drive (Refusal.LabelDiffers named) = named ≡ drive
IsOf drive (Refusal.ShortDrive named have need) = named ≡ drive
IsOf drive (Refusal.DriveFault named) = named ≡ drive
IsOf drive refusal = ⊥

-- how many pages a drive told that is refused so, where its label is to agree with this one: one with a label told a page, and
-- a short one told what the refusal says, which is less than it needs
abbrev pub ToldFor : Label → ℕ → Refusal → ℕ → Type 0
ToldFor label drive (Refusal.WrongDrive named found) pages = 1 ≤ pages
ToldFor label drive (Refusal.LabelDiffers named) pages = 1 ≤ pages
ToldFor label drive (Refusal.ShortDrive named have need) pages = (pages ≡ have) × (1 ≤ have) × (have < need) × (need ≡ need_of drive label)
ToldFor label drive refusal pages = Unit {0}

-- this drive alone was asked, and is refused
abbrev pub ToldHere : {D : Type 0} → (D → ℕ) → Label → ℕ → Refusal → List D → List D → Type 0
ToldHere told label drive refusal olds news =
    EachDriveFrom 0 (λ number old new. (number ≡ drive → ToldFor label drive refusal (told new)) × (number ≢ drive → told new ≡ told old)) olds news

-- the first so many drives told the pages that they need by this label, and the others weren't asked
abbrev pub ToldNeeds : {D : Type 0} → (D → ℕ) → Label → ℕ → List D → List D → Type 0
ToldNeeds told label count olds news =
    EachDriveFrom 0 (λ number old new. (number < count → need_of number label ≤ told new) × (count ≤ number → told new ≡ told old)) olds news

-- the drive of this number is the first that labels refuse: for some label of an image on so many drives, those before it told
-- the pages that they need, it told what its refusal says, and those behind it weren't asked
pub record IsRefusedAt {D : Type 0} (told : D → ℕ) (drive : ℕ) (refusal : Refusal) (olds news : List D) : Type 0 where
  pub label : Label
  pub drives : label.drives ≡ length olds
  pub within : drive < length olds
  pub before : EachDriveFrom 0 (λ number old new. number < drive → need_of number label ≤ told new) olds news
  pub here : EachDriveFrom 0 (λ number old new. number ≡ drive → ToldFor label drive refusal (told new)) olds news
  pub behind : EachDriveFrom 0 (λ number old new. drive < number → told new ≡ told old) olds news

-- each drive told the pages that it needs, by some label
abbrev pub AllToldNeeds : {D : Type 0} → (D → ℕ) → List D → Type 0
AllToldNeeds told drives = (label : Label) × HoldWhole told (striping_of label) drives

-- the refusal is of what stands behind the labels, or of the outside
abbrev pub IsBehindLabels : Refusal → Type 0
IsBehindLabels Refusal.BadHeader = Unit {0}
IsBehindLabels (Refusal.BadVersion found) = Unit {0}
IsBehindLabels Refusal.BadSections = Unit {0}
IsBehindLabels (Refusal.BadIndex dir place) = Unit {0}
IsBehindLabels Refusal.Memory = Unit {0}
IsBehindLabels (Refusal.DriveFault drive) = Unit {0}
IsBehindLabels refusal = ⊥

-- what drives told where this refused their opening. A drive that fails, and want of memory, come at any point of it
abbrev pub RefusedTold : {D : Type 0} → (D → ℕ) → List D → List D → Refusal → Type 0
RefusedTold told olds news (Refusal.NoLabel drive) = IsRefusedAt told drive (Refusal.NoLabel drive) olds news
RefusedTold told olds news (Refusal.WrongDrive drive found) = IsRefusedAt told drive (Refusal.WrongDrive drive found) olds news
RefusedTold told olds news (Refusal.LabelDiffers drive) = IsRefusedAt told drive (Refusal.LabelDiffers drive) olds news
RefusedTold told olds news (Refusal.ShortDrive drive have need) = IsRefusedAt told drive (Refusal.ShortDrive drive have need) olds news
RefusedTold told olds news (Refusal.DriveFault drive) = Unit {0}
RefusedTold told olds news Refusal.Memory = Unit {0}
RefusedTold told olds news Refusal.BadHeader = AllToldNeeds told news
RefusedTold told olds news (Refusal.BadVersion found) = AllToldNeeds told news
RefusedTold told olds news Refusal.BadSections = AllToldNeeds told news
RefusedTold told olds news (Refusal.BadIndex dir place) = AllToldNeeds told news
RefusedTold told olds news refusal = ⊥
