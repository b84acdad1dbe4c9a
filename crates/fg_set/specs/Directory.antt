-- The directory's fields as the page set that contracts see.
use Rattle.std.specs.Prelude.{◌≡◌, ◌≤◌, length, take}
use Rattle.fg_set.specs.PageSet.{PageSet, IsSound}
use Rattle.fg_set.specs.declared.directory.Directory.TheInside.{Inside}

abbrev pub set_of : Inside → PageSet
set_of directory = record { entries = take directory.ways directory.entries; hand = directory.hand; workers = directory.workers }

pub record IsDirectory (directory : Inside) : Type 0 where
  pub room : length directory.entries ≡ 16
  pub few_ways : directory.ways ≤ 16
  pub sound : IsSound (set_of directory)
