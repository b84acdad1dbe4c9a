-- What reading does to drives, and the pages of an image that a read reads.
use Rattle.std.specs.Prelude.{ℕ, ◌<◌, ◌≤◌, Option, List, map}
use Rattle.std.specs.List.{All, range_with_len}
use Rattle.fg_outside.specs.declared.drive.Read.{Read}
use Rattle.fg_outside.specs.Drives.{DriveRead, EachSame, LogsGrewBy, RoomyKept}
use Rattle.fg_stripe.specs.declared.layout.Layout.{Layout}
use Rattle.fg_stripe.specs.Striping.{page_at}

-- what a kind of drives tells: what is held, what was read, how many pages there are, what room is left, and how often a
-- call failed
pub record Telling (D : Type 0) : Type 0 where
  pub held : D → Option (List ℕ)
  pub log : D → Option (List Read)
  pub told : D → ℕ
  pub room : D → Option ℕ
  pub faults : D → ℕ

abbrev pub telling : {D : Type 0} → (D → Option (List ℕ)) → (D → Option (List Read)) → (D → ℕ) → (D → Option ℕ) → (D → ℕ) → Telling D
telling held log told room faults = record { held = held; log = log; told = told; room = room; faults = faults }

-- between the two the drives were only read, each read was one of these, and no drive that tells its room failed
pub record OnlyRead {D : Type 0} (T : Telling D) (IsOne : DriveRead → Type 0) (olds news : List D) : Type 0 where
  pub same_held : EachSame T.held olds news
  pub same_told : EachSame T.told olds news
  pub same_room : EachSame T.room olds news
  pub roomy : RoomyKept T.room T.faults olds news
  pub grew : LogsGrewBy IsOne T.log olds news

-- the pages of the image that a read reads, over so many drives in units of so many pages: those that stand on its drive from
-- its first page on
abbrev pub pages_read : ℕ → ℕ → DriveRead → List ℕ
pages_read drives unit one =
    map (λ local. page_at (record { drive = one.drive; local = local }) drives unit) (range_with_len one.read.first one.read.count)

-- a read of 1 to so many pages of an image at their places, each of which is one of these. A drive reads at most 32 at once, and
-- whoever reads each page alone says 1
pub record ReadsPages (most : ℕ) (layout : Layout) (IsOne : ℕ → Type 0) (one : DriveRead) : Type 0 where
  pub own : one.drive < layout.drives
  pub behind_label : 1 ≤ one.read.first
  pub some : 1 ≤ one.read.count
  pub few : one.read.count ≤ most
  pub at_place : All IsOne (pages_read layout.drives layout.unit one)
