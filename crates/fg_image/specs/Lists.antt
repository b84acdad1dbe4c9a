-- The lists of a graph as they lie in the sections of an image.
use Rattle.std.specs.Prelude.{ℕ, zero, suc, ◌+◌, ◌*◌, Bool, true, false, List, [], ◌∷◌, length, map, sum, take, slice_index}
use Rattle.std.specs.List.{range_with_len}
use Rattle.fg_base.specs.declared.limits.TheConstants.{PAGE_BYTES}
use Rattle.fg_base.specs.declared.plain.Dir.{Dir}
use Rattle.fg_base.specs.declared.plain.Dir.TheVariants.{Out, In}
use Rattle.fg_base.specs.declared.plain.Entry.{Entry}
use Rattle.fg_index.specs.ImageIndex.{ImageIndex, degrees_in, entry_bytes}
use Rattle.fg_model.specs.declared.graph.Graph.{Graph}
use Rattle.fg_stripe.specs.declared.layout.Layout.{Layout}
use Rattle.fg_stripe.specs.Label.{number_at}

-- the weight of an entry at this place: 4 bytes behind its target, or 1 where entries have none
abbrev pub weight_at : Bool → List ℕ → ℕ → ℕ
weight_at true bytes place = number_at bytes (place + 4)
weight_at false bytes place = 1

-- the entry at this place: 4 bytes that spell its target, and its weight
abbrev pub entry_at : Bool → List ℕ → ℕ → Entry
entry_at weighted bytes place = record { target = number_at bytes place; weight = weight_at weighted bytes place }

-- so many entries, the first of them at this place
abbrev pub entries_at : Bool → List ℕ → ℕ → ℕ → List Entry
entries_at weighted bytes place zero = []
entries_at weighted bytes place (suc count) = entry_at weighted bytes place ∷ entries_at weighted bytes (place + entry_bytes weighted) count

-- the page at which the lists of a direction begin
abbrev pub first_page_of : Layout → Dir → ℕ
first_page_of layout Out = layout.out_first
first_page_of layout In = layout.in_first

-- the byte of the image at which the list of v begins: behind the lists of the vertices below v
abbrev pub begin_of : Layout → ImageIndex → Dir → ℕ → ℕ
begin_of layout index dir v = first_page_of layout dir * PAGE_BYTES + sum (take v (degrees_in index dir)) * entry_bytes index.weighted

-- the byte behind it
abbrev pub end_of : Layout → ImageIndex → Dir → ℕ → ℕ
end_of layout index dir v = begin_of layout index dir v + slice_index (degrees_in index dir) v * entry_bytes index.weighted

-- the list of v
abbrev pub list_of : Layout → ImageIndex → List ℕ → Dir → ℕ → List Entry
list_of layout index image dir v = entries_at index.weighted image (begin_of layout index dir v) (slice_index (degrees_in index dir) v)

-- the lists of a direction, one for each vertex
abbrev pub rows_of : Layout → ImageIndex → List ℕ → Dir → List (List Entry)
rows_of layout index image dir = map (list_of layout index image dir) (range_with_len 0 (length index.outs))

-- the graph of an image with these sections and this index
unfoldable pub graph_by : Layout → ImageIndex → List ℕ → Graph
graph_by layout index image = record {
  n = length index.outs;
  weighted = index.weighted;
  outs = rows_of layout index image Out;
  ins = rows_of layout index image In;
}
