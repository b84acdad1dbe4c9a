-- Vertices in blocks, and blocks in parts.
use Rattle.std.specs.Prelude.{ℕ, ◌+◌, ◌-◌, ◌*◌, ◌/◌, ◌%◌, ◌^◌, ◌<◌}
use Rattle.std.specs.Int.{div_ceil}
use Rattle.fg_part.specs.declared.part_map.PartMap.{PartMap}

-- how many vertices a full block has
abbrev pub block_size : PartMap → ℕ
block_size map = 2 ^ map.shift

-- the block of a vertex
abbrev pub block_of : PartMap → ℕ → ℕ
block_of map v = v / block_size map

-- the part of a vertex
abbrev pub part_of : PartMap → ℕ → ℕ
part_of map v = block_of map v % map.parts

-- block k of a part
abbrev pub block_at : PartMap → ℕ → ℕ → ℕ
block_at map part k = k * map.parts + part

-- how many blocks there are in all, the last of which may be shorter
abbrev pub block_total : PartMap → ℕ
block_total map = div_ceil map.n (block_size map)

-- how many blocks a part has
abbrev pub blocks_in : PartMap → ℕ → ℕ
blocks_in map part = div_ceil (block_total map - part) map.parts

-- the place of a vertex in its part, whose blocks stand one behind the other
abbrev pub place_of : PartMap → ℕ → ℕ
place_of map v = block_of map v / map.parts * block_size map + v % block_size map

-- how many places a part has: the last of them may be no vertices
abbrev pub places_in : PartMap → ℕ → ℕ
places_in map part = blocks_in map part * block_size map

-- the vertex at a place of a part
abbrev pub vertex_at : PartMap → ℕ → ℕ → ℕ
vertex_at map part place = block_at map part (place / block_size map) * block_size map + place % block_size map

-- the vertex v is among the vertices of the block b
pub record StandsIn (map : PartMap) (b v : ℕ) : Type 0 where
  pub vertex : v < map.n
  pub after : b * block_size map < v + 1
  pub before : v < b * block_size map + block_size map

-- the block b has a vertex
abbrev pub IsBlock : PartMap → ℕ → Type 0
IsBlock map b = (v : ℕ) × StandsIn map b v
