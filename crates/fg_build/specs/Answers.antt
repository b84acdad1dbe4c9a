-- The answers of opening drives and of reading them, by cases.
use Rattle.std.specs.Prelude.{◌≡◌, ◌≤◌, ℕ, ◌+◌, Result, Ok, Err, List, length}
use Rattle.fg_base.specs.declared.refusal.Refusal.{Refusal}
use Rattle.fg_build.specs.declared.opened.Opened.{Opened}
use Rattle.fg_image.specs.Front.{HeaderFits}
use Rattle.fg_image.specs.Header.{is_weighted}
use Rattle.fg_image.specs.Image.{IndexFits}
use Rattle.fg_outside.specs.Drives.{EachTold, NoneRose, RoseFirst}
use Rattle.fg_stripe.specs.declared.layout.Layout.{Layout}
use Rattle.fg_stripe.specs.Striping.{pages_on}

-- a refusal of opening says something of what the drives hold, or that a drive failed, or that memory was wanting:
-- a fact for each of the three, and none other comes
abbrev pub MatchOpening : Refusal → Type 0 → (ℕ → Type 0) → Type 0 → Type 0
MatchOpening Refusal.Memory on_memory on_drive on_content = on_memory
MatchOpening (Refusal.DriveFault drive) on_memory on_drive on_content = on_drive drive
MatchOpening (Refusal.NoLabel drive) on_memory on_drive on_content = on_content
MatchOpening (Refusal.WrongDrive drive found) on_memory on_drive on_content = on_content
MatchOpening (Refusal.LabelDiffers drive) on_memory on_drive on_content = on_content
MatchOpening (Refusal.ShortDrive drive have need) on_memory on_drive on_content = on_content
MatchOpening Refusal.BadHeader on_memory on_drive on_content = on_content
MatchOpening (Refusal.BadVersion found) on_memory on_drive on_content = on_content
MatchOpening Refusal.BadSections on_memory on_drive on_content = on_content
MatchOpening (Refusal.BadIndex dir place) on_memory on_drive on_content = on_content
MatchOpening refusal on_memory on_drive on_content = ⊥

-- an answer is what the drives open to, where no call failed and memory sufficed
abbrev pub IsOpening : Result Opened Refusal → Result Opened Refusal → Type 0
IsOpening opening (Ok opened) = opening ≡ Ok opened
IsOpening opening (Err refusal) = MatchOpening refusal (Unit {0}) (λ drive. Unit {0}) (opening ≡ Err refusal)

-- whose count of faults rose by an answer of opening: the named drive's first, or none
abbrev pub OpeningCounts : {D : Type 0} → (D → ℕ) → List D → List D → Result Opened Refusal → Type 0
OpeningCounts faults olds news (Ok opened) = NoneRose faults olds news
OpeningCounts faults olds news (Err refusal) =
    MatchOpening refusal (NoneRose faults olds news) (λ drive. RoseFirst faults drive olds news) (NoneRose faults olds news)

-- what was opened fits together, whether or not the drives tell their bytes
pub record OpenedFits (opened : Opened) : Type 0 where
  pub some_drives : 1 ≤ opened.layout.drives
  pub few_drives : opened.layout.drives ≤ 16
  pub some_unit : 1 ≤ opened.layout.unit
  pub small_unit : opened.layout.unit ≤ 256
  pub header : HeaderFits opened.header opened.layout
  pub index : IndexFits opened.layout opened.index
  pub same_vertices : length opened.index.outs ≡ opened.header.n
  pub same_weighted : opened.index.weighted ≡ is_weighted opened.header

-- each drive told at least the pages that it needs for its part of the image
abbrev pub HoldWhole : {D : Type 0} → (D → ℕ) → Layout → List D → Type 0
HoldWhole told layout drives =
    (length drives ≡ layout.drives) × EachTold told (λ drive. 1 + length (pages_on drive layout.drives layout.unit layout.pages)) drives

-- whose count of faults rose by an answer of reading: the named drive's first, or none
abbrev pub ReadCounts : {D A : Type 0} → (D → ℕ) → List D → List D → Result A Refusal → Type 0
ReadCounts faults olds news (Ok answer) = NoneRose faults olds news
ReadCounts faults olds news (Err Refusal.Memory) = NoneRose faults olds news
ReadCounts faults olds news (Err (Refusal.DriveFault drive)) = RoseFirst faults drive olds news
ReadCounts faults olds news (Err refusal) = ⊥
