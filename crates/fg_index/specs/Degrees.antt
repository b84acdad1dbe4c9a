-- Degrees in a byte each: 255 stands for a long degree, of 255 or more. The long degrees stand beside the bytes in the order of
-- their vertices.
use Rattle.std.specs.Prelude.{ℕ, Bool, List, [], ◌∷◌, ◌==◌, drop, slice_index, if◌then◌else◌}
use Rattle.std.specs.List.{count_by}

-- the byte stands for a long degree
abbrev pub is_long : ℕ → Bool
is_long byte = byte == 255

-- how many of the bytes do
abbrev pub longs_in : List ℕ → ℕ
longs_in low = count_by is_long low

-- the degree of a vertex with this byte, where these long degrees are left
abbrev pub next_degree : ℕ → List ℕ → ℕ
next_degree byte long = if is_long byte then slice_index long 0 else byte

-- the long degrees that are left behind that vertex
abbrev pub next_long : ℕ → List ℕ → List ℕ
next_long byte long = if is_long byte then drop 1 long else long

-- the degrees that bytes and long degrees stand for
unfoldable pub joined : List ℕ → List ℕ → List ℕ
joined [] long = []
joined (byte ∷ low) long = next_degree byte long ∷ joined low (next_long byte long)
