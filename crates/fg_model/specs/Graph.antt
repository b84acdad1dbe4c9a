-- A graph: for each vertex the list of its out-entries and the list of its in-entries.
use Rattle.std.specs.Prelude.{◌≡◌, ℕ, ◌<◌, ◌≤◌, ◌^◌, Bool, false, List, [], All, length, sum_by, slice_index_or}
use Rattle.fg_base.specs.declared.plain.Entry.{Entry}
use Rattle.fg_model.specs.declared.graph.Graph.{Graph}

-- the list of the vertex v; what is no vertex has no entries
abbrev pub row : List (List Entry) → ℕ → List Entry
row rows v = slice_index_or rows v []

-- every entry of these lists leads to a vertex below n
abbrev pub AllLead : ℕ → List (List Entry) → Type 0
AllLead n rows = All (λ entries. All (λ entry. entry.target < n) entries) rows

-- every target is a vertex
pub record IsSound (graph : Graph) : Type 0 where
  pub out_targets : AllLead graph.n graph.outs
  pub in_targets : AllLead graph.n graph.ins

-- an entry of a graph: where the graph isn't weighted its weight is 1
pub record IsEntryOf (weighted : Bool) (entry : Entry) : Type 0 where
  pub target_fits : entry.target < 2 ^ 32
  pub weight_fits : entry.weight < 2 ^ 32
  pub weight_plain : weighted ≡ false → entry.weight ≡ 1

-- one direction of a graph with n vertices: a list for each of them, and at most 2^26 entries together
pub record IsSide (n : ℕ) (weighted : Bool) (rows : List (List Entry)) : Type 0 where
  pub row_count : length rows ≡ n
  pub entry_count : sum_by length rows ≤ 2 ^ 26
  pub all_entries : All (λ entries. All (IsEntryOf weighted) entries) rows

-- a graph that the engine works on; its targets may still be no vertices
pub record IsWithinLimits (graph : Graph) : Type 0 where
  pub vertex_count : graph.n ≤ 2 ^ 24
  pub out_side : IsSide graph.n graph.weighted graph.outs
  pub in_side : IsSide graph.n graph.weighted graph.ins
