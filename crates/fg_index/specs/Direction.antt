-- One direction of an index, as bytes: a byte for each vertex, its degree or 255 for a long one; how many are long, in 4 bytes;
-- and for each long degree, in the order of the vertices, a pair of 8 bytes, the vertex and the degree. Numbers are little-endian.
use Rattle.std.specs.Prelude.{ℕ, Bool, List, [], ◌∷◌, ◌++◌, Option, Some, None, Result, Ok, Err, ◌+◌, ◌*◌, ◌==◌, ◌&&◌, nat_lt, nat_le, length, take, drop, sum, if◌then◌else◌}
use Rattle.byteorder.specs.Endian.{little_number}
use Rattle.fg_index.specs.Degrees.{is_long, longs_in}

-- the number that the first 4 bytes spell
unfoldable pub number_in : List ℕ → ℕ
number_in bytes = little_number 4 bytes

-- the next pair is whole, it is for this vertex, and its degree is a long one
abbrev pub is_pair_of : ℕ → List ℕ → Bool
is_pair_of vertex pairs = nat_le 8 (length pairs) && number_in pairs == vertex && nat_le 255 (number_in (drop 4 pairs))

-- the degree of a vertex with this byte, where these pairs are left; none where it is long and the next pair isn't its own
abbrev pub degree_of : ℕ → ℕ → List ℕ → Option ℕ
degree_of vertex byte pairs =
    if is_long byte then (if is_pair_of vertex pairs then Some (number_in (drop 4 pairs)) else None) else Some byte

-- the pairs that are left behind that vertex
abbrev pub pairs_left : ℕ → List ℕ → List ℕ
pairs_left byte pairs = if is_long byte then drop 8 pairs else pairs

-- degrees in front of those that were found
abbrev pub with_front : List ℕ → Result (List ℕ) ℕ → Result (List ℕ) ℕ
with_front front (Ok degrees) = Ok (front ++ degrees)
with_front front (Err pair) = Err pair

-- a vertex's degree in front of those of the vertices behind it, or the number of the pair that isn't its own
abbrev pub led_by : ℕ → Option ℕ → Result (List ℕ) ℕ → Result (List ℕ) ℕ
led_by pair (Some degree) behind = with_front (degree ∷ []) behind
led_by pair None behind = Err pair

-- the degrees of the vertices from this one on, with these bytes, where pairs from this number on are left; or the number of the
-- first pair at fault
unfoldable pub degrees_at : ℕ → ℕ → List ℕ → List ℕ → Result (List ℕ) ℕ
degrees_at vertex pair [] pairs = Ok []
degrees_at vertex pair (byte ∷ low) pairs =
    led_by pair (degree_of vertex byte pairs) (degrees_at (vertex + 1) (pair + longs_in (byte ∷ [])) low (pairs_left byte pairs))

-- the count behind the bytes of n vertices
abbrev pub count_at : ℕ → List ℕ → ℕ
count_at n bytes = number_in (drop n bytes)

-- how many bytes the direction takes
abbrev pub direction_len : ℕ → List ℕ → ℕ
direction_len n bytes = n + 4 + 8 * count_at n bytes

-- the degrees where their sum is this, or the place of the fault: a pair's or the start
abbrev pub summed : ℕ → ℕ → Result (List ℕ) ℕ → Result (List ℕ) ℕ
summed n entries (Ok degrees) = if sum degrees == entries then Ok degrees else Err 0
summed n entries (Err pair) = Err (n + 4 + 8 * pair)

-- the degrees of the n vertices whose direction begins these bytes and has so many entries; or the place of the first fault, in
-- this order: the bytes don't fit, the count doesn't fit or is wrong, a pair is at fault, the sum is wrong
unfoldable pub direction_at : ℕ → ℕ → List ℕ → Result (List ℕ) ℕ
direction_at n entries bytes =
    if nat_lt (length bytes) n then Err 0
    else (if nat_lt (length bytes) (n + 4) then Err n
    else (if longs_in (take n bytes) == count_at n bytes
    then summed n entries (degrees_at 0 0 (take n bytes) (take (8 * count_at n bytes) (drop (n + 4) bytes)))
    else Err n))
