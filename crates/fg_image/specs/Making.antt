-- The parts of which an image is made: the entries and the counts of pairs, the header's numbers, the bytes of a direction.
use Rattle.std.specs.Prelude.{◌≡◌, ℕ, ◌+◌, ◌*◌, ◌==◌, nat_le, min, Bool, List, [], ◌++◌, filter, length, map, replicate, sum, take, if◌then◌else◌}
use Rattle.std.specs.List.{count_by, range_with_len}
use Rattle.byteorder.specs.Endian.{little_bytes}
use Rattle.fg_base.specs.declared.plain.Dir.{Dir}
use Rattle.fg_base.specs.declared.plain.Dir.TheVariants.{Out, In}
use Rattle.fg_base.specs.declared.plain.Entry.{Entry}
use Rattle.fg_image.specs.declared.header.Header.{Header}
use Rattle.fg_image.specs.Header.{pages_for}
use Rattle.fg_image.specs.Image.{IsImage, Parts, graph_in}
use Rattle.fg_image.specs.Made.{spelled_direction, spelled_header, spelled_lists, weight_flag}
use Rattle.fg_index.specs.ImageIndex.{entry_bytes}
use Rattle.fg_model.specs.declared.edges.Pair.{Pair}
use Rattle.fg_model.specs.declared.graph.Graph.{Graph}

-- so many zeros
abbrev pub blanks : ℕ → List ℕ
blanks count = replicate count 0

-- a pair as its source's entry, and as its target's
abbrev pub out_entry : Pair → Entry
out_entry pair = record { target = pair.target; weight = pair.weight }

abbrev pub in_entry : Pair → Entry
in_entry pair = record { target = pair.source; weight = pair.weight }

-- the entries of the pairs that leave v, and of those that lead to v
abbrev pub outs_of : List Pair → ℕ → List Entry
outs_of pairs v = map out_entry (filter (λ pair. pair.source == v) pairs)

abbrev pub ins_of : List Pair → ℕ → List Entry
ins_of pairs v = map in_entry (filter (λ pair. pair.target == v) pairs)

-- the vertex in whose list of this direction the pair stands, and how many pairs stand in the list of v
abbrev pub vertex_of : Dir → Pair → ℕ
vertex_of Out pair = pair.source
vertex_of In pair = pair.target

abbrev pub count_of : Dir → List Pair → ℕ → ℕ
count_of dir pairs v = length (filter (λ pair. vertex_of dir pair == v) pairs)

-- the places at which the in-lists of n vertices begin in their section, in entries
abbrev pub places_by : ℕ → List Pair → List ℕ
places_by n pairs = map (λ v. sum (take v (map (count_of In pairs) (range_with_len 0 n)))) (range_with_len 0 n)

-- the section of the in-lists while those of the vertices below `bound` stand in it: behind them there is room for the other pairs
abbrev pub section_below : Bool → List Pair → ℕ → List ℕ
section_below weighted pairs bound =
    spelled_lists weighted (map (ins_of pairs) (range_with_len 0 bound))
    ++ blanks (length (filter (λ pair. nat_le bound pair.target) pairs) * entry_bytes weighted)

-- the header of an image of so many vertices and entries, whose index has so many bytes
abbrev pub header_with : Bool → ℕ → ℕ → ℕ → ℕ → Header
header_with weighted n outs ins index =
    let size = entry_bytes weighted in
    let in_first = 1 + pages_for (outs * size) in
    let index_first = in_first + pages_for (ins * size) in
    record {
      version = 1;
      flags = weight_flag weighted;
      n = n;
      pages = index_first + pages_for index;
      out_entries = outs;
      in_entries = ins;
      out_bytes = outs * size;
      in_bytes = ins * size;
      index_bytes = index;
      out_first = 1;
      in_first = in_first;
      index_first = index_first;
    }

-- the page of a header
unfoldable pub header_bytes : Header → List ℕ
header_bytes header = spelled_header header

-- the byte of a degree, and how many degrees are long
abbrev pub byte_of : ℕ → ℕ
byte_of degree = min degree 255

abbrev pub long_degrees : List ℕ → ℕ
long_degrees degrees = count_by (nat_le 255) degrees

-- the pair of this vertex, where its degree is long
abbrev pub pair_bytes : ℕ → ℕ → List ℕ
pair_bytes vertex degree = if nat_le 255 degree then little_bytes 4 vertex ++ little_bytes 4 degree else []

-- an index with these degrees
abbrev pub index_bytes : List ℕ → List ℕ → List ℕ
index_bytes outs ins = spelled_direction outs ++ spelled_direction ins

-- the bytes are an image, and its graph is this one
abbrev pub IsImageOf : Graph → List ℕ → Type 0
IsImageOf graph image = (parts : Parts) × IsImage image parts × (graph_in parts image ≡ graph)
