-- Pages appended to drives, each drive its own part of them.
use Rattle.std.specs.Prelude.{◌≡◌, ℕ, ◌==◌, if◌then◌else◌, Option, Result, Ok, Err, List, [], length}
use Rattle.std.specs.List.{filter, flat_map, range_with_len}
use Rattle.fg_base.specs.declared.refusal.Refusal.{Refusal}
use Rattle.fg_base.specs.Told.{grown, GrewByFirst}
use Rattle.fg_outside.specs.Drives.{EachDriveFrom, NoneRose, RoseFirst}
use Rattle.fg_outside.specs.Pages.{HasRoom, lessened}
use Rattle.fg_stripe.specs.declared.label.Label.{Label}
use Rattle.fg_stripe.specs.Held.{page_of}
use Rattle.fg_stripe.specs.Striping.{drive_of}

-- bytes that are this drive's alone, and how many of its pages they are
abbrev pub on_drive : ℕ → List ℕ → ℕ → List ℕ
on_drive drive bytes number = if number == drive then bytes else []

abbrev pub one_on : ℕ → ℕ → ℕ
one_on drive number = if number == drive then 1 else 0

-- pages dealt out to drives: which drive takes page k, and its bytes. Of the first so many, those that a drive takes
abbrev pub taken : (ℕ → ℕ) → ℕ → ℕ → List ℕ
taken taker count drive = filter (λ k. taker k == drive) (range_with_len 0 count)

-- their bytes
abbrev pub dealt : (ℕ → ℕ) → (ℕ → List ℕ) → ℕ → ℕ → List ℕ
dealt taker bytes count drive = flat_map bytes (taken taker count drive)

-- their number
abbrev pub dealt_count : (ℕ → ℕ) → ℕ → ℕ → ℕ
dealt_count taker count drive = length (taken taker count drive)

-- the pages of an image that a drive takes by the image's label: their bytes, and their number
abbrev pub pages_dealt : Label → List ℕ → ℕ → List ℕ
pages_dealt label image = dealt (λ page. drive_of page label.drives label.unit) (page_of image) label.pages

abbrev pub pages_dealt_count : Label → ℕ → ℕ
pages_dealt_count label = dealt_count (λ page. drive_of page label.drives label.unit) label.pages

-- no drive failed that tells room for its so many pages, whatever the others did
abbrev pub RoomyKeptFor : {D : Type 0} → (D → Option ℕ) → (D → ℕ) → (ℕ → ℕ) → List D → List D → Type 0
RoomyKeptFor room faults counts olds news = EachDriveFrom 0 (λ drive old new. HasRoom (room old) (counts drive) → faults new ≡ faults old) olds news

-- each drive holds its part behind what it held, of so many pages, and none failed
pub record IsAppended {D : Type 0} (held : D → Option (List ℕ)) (room : D → Option ℕ) (faults : D → ℕ) (parts : ℕ → List ℕ) (counts : ℕ → ℕ) (olds news : List D) : Type 0 where
  pub grew : EachDriveFrom 0 (λ drive old new. held new ≡ grown (held old) (parts drive)) olds news
  pub less : EachDriveFrom 0 (λ drive old new. room new ≡ lessened (room old) (counts drive)) olds news
  pub none : NoneRose faults olds news

-- each drive holds a first of its part behind what it held, and this drive failed
pub record IsBegun {D : Type 0} (held : D → Option (List ℕ)) (faults : D → ℕ) (parts : ℕ → List ℕ) (failed : ℕ) (olds news : List D) : Type 0 where
  pub grew : EachDriveFrom 0 (λ drive old new. GrewByFirst (parts drive) (held old) (held new)) olds news
  pub rose : RoseFirst faults failed olds news

-- what an answer of appending says
abbrev pub Appends : {D : Type 0} → (D → Option (List ℕ)) → (D → Option ℕ) → (D → ℕ) → (ℕ → List ℕ) → (ℕ → ℕ) → List D → List D → Result Unit Refusal → Type 0
Appends held room faults parts counts olds news (Ok unit) = IsAppended held room faults parts counts olds news
Appends held room faults parts counts olds news (Err (Refusal.DriveFault drive)) = IsBegun held faults parts drive olds news
Appends held room faults parts counts olds news (Err refusal) = ⊥
