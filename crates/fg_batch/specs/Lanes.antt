-- The lanes of a part: its places in pieces of 2^16.
use Rattle.std.specs.Prelude.{◌≡◌, ℕ, ◌+◌, ◌*◌, ◌/◌, ◌<◌, ◌==◌, Bool}
use Rattle.fg_model.specs.declared.mail.Mail.{Mail}
use Rattle.fg_part.specs.declared.part_map.PartMap.{PartMap}
use Rattle.fg_part.specs.PartMap.{part_of, place_of, places_in}

-- how many each part has: enough for part 0, which has the most places
abbrev pub lanes_each : PartMap → ℕ
lanes_each map = places_in map 0 / 65536 + 1

-- the lane of a vertex, where those of part 0 come first, then those of part 1 and so on
abbrev pub lane_of : PartMap → ℕ → ℕ
lane_of map v = part_of map v * lanes_each map + place_of map v / 65536

-- a message goes to a vertex of the part
pub record IsFor (map : PartMap) (part : ℕ) (mail : Mail) : Type 0 where
  pub vertex : mail.target < map.n
  pub own : part_of map mail.target ≡ part

abbrev pub goes_to : PartMap → ℕ → Mail → Bool
goes_to map part mail = part_of map mail.target == part
