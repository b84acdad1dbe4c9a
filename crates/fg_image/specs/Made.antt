-- The image that is made of a graph's edges.
use Rattle.std.specs.Prelude.{ℕ, ◌+◌, ◌-◌, ◌*◌, ◌==◌, min, nat_le, Bool, true, false, List, [], ◌∷◌, ◌++◌, filter, length, map, replicate, sum_by, if◌then◌else◌}
use Rattle.std.specs.List.{count_by, flat_map, range_with_len}
use Rattle.byteorder.specs.Endian.{little_bytes}
use Rattle.fg_base.specs.declared.limits.TheConstants.{PAGE_BYTES}
use Rattle.fg_base.specs.declared.plain.Entry.{Entry}
use Rattle.fg_image.specs.declared.header.Header.{Header}
use Rattle.fg_image.specs.Header.{image_magic, pages_for}
use Rattle.fg_index.specs.ImageIndex.{entry_bytes}
use Rattle.fg_model.specs.declared.graph.Graph.{Graph}
use Rattle.fg_model.specs.Edges.{EdgeList}

-- the entries of the pairs that leave v, ascending by target, and of those that lead to v, ascending by source
abbrev pub leaving : EdgeList → ℕ → List Entry
leaving edges v = map (λ pair. record { target = pair.target; weight = pair.weight }) (filter (λ pair. pair.source == v) edges.pairs)

abbrev pub leading_to : EdgeList → ℕ → List Entry
leading_to edges v = map (λ pair. record { target = pair.source; weight = pair.weight }) (filter (λ pair. pair.target == v) edges.pairs)

-- the graph of edges
unfoldable pub graph_of_edges : EdgeList → Graph
graph_of_edges edges = record {
  n = edges.n;
  weighted = edges.weighted;
  outs = map (leaving edges) (range_with_len 0 edges.n);
  ins = map (leading_to edges) (range_with_len 0 edges.n);
}

-- an entry's bytes, and those of all lists of a direction, one behind the other
abbrev pub weight_bytes : Bool → Entry → List ℕ
weight_bytes true entry = little_bytes 4 entry.weight
weight_bytes false entry = []

abbrev pub spelled_entry : Bool → Entry → List ℕ
spelled_entry weighted entry = little_bytes 4 entry.target ++ weight_bytes weighted entry

abbrev pub spelled_lists : Bool → List (List Entry) → List ℕ
spelled_lists weighted rows = flat_map (λ row. flat_map (spelled_entry weighted) row) rows

-- the pairs of the long degrees, of vertices from v on
abbrev pub long_pairs : ℕ → List ℕ → List ℕ
long_pairs v [] = []
long_pairs v (degree ∷ degrees) =
    (if nat_le 255 degree then little_bytes 4 v ++ little_bytes 4 degree else []) ++ long_pairs (v + 1) degrees

-- the index of a direction with these degrees, and of both
abbrev pub spelled_direction : List ℕ → List ℕ
spelled_direction degrees =
    map (λ degree. min degree 255) degrees ++ little_bytes 4 (count_by (nat_le 255) degrees) ++ long_pairs 0 degrees

abbrev pub spelled_index : Graph → List ℕ
spelled_index graph = spelled_direction (map length graph.outs) ++ spelled_direction (map length graph.ins)

-- the flag of weights
abbrev pub weight_flag : Bool → ℕ
weight_flag true = 1
weight_flag false = 0

-- the header of a graph's image
abbrev pub header_for : Graph → Header
header_for graph =
    let out_entries = sum_by length graph.outs in
    let in_entries = sum_by length graph.ins in
    let out_bytes = out_entries * entry_bytes graph.weighted in
    let in_bytes = in_entries * entry_bytes graph.weighted in
    let index_bytes = length (spelled_index graph) in
    let in_first = 1 + pages_for out_bytes in
    let index_first = in_first + pages_for in_bytes in
    record {
      version = 1;
      flags = weight_flag graph.weighted;
      n = graph.n;
      pages = index_first + pages_for index_bytes;
      out_entries = out_entries;
      in_entries = in_entries;
      out_bytes = out_bytes;
      in_bytes = in_bytes;
      index_bytes = index_bytes;
      out_first = 1;
      in_first = in_first;
      index_first = index_first;
    }

-- a header's page
abbrev pub spelled_header : Header → List ℕ
spelled_header header =
    image_magic
    ++ little_bytes 4 header.version
    ++ little_bytes 4 header.flags
    ++ little_bytes 4 header.n
    ++ little_bytes 4 header.pages
    ++ little_bytes 8 header.out_entries
    ++ little_bytes 8 header.in_entries
    ++ little_bytes 8 header.out_bytes
    ++ little_bytes 8 header.in_bytes
    ++ little_bytes 8 header.index_bytes
    ++ little_bytes 4 header.out_first
    ++ little_bytes 4 header.in_first
    ++ little_bytes 4 header.index_first
    ++ replicate 4020 0

-- a section with zeros to whole pages
abbrev pub padded : List ℕ → List ℕ
padded bytes = bytes ++ replicate (pages_for (length bytes) * PAGE_BYTES - length bytes) 0

-- the image of a graph
unfoldable pub spelled_image : Graph → List ℕ
spelled_image graph =
    spelled_header (header_for graph)
    ++ padded (spelled_lists graph.weighted graph.outs)
    ++ padded (spelled_lists graph.weighted graph.ins)
    ++ padded (spelled_index graph)

-- the image of edges
abbrev pub image_bytes : EdgeList → List ℕ
image_bytes edges = spelled_image (graph_of_edges edges)
