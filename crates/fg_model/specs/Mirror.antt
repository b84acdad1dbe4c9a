-- A graph whose in-lists are its out-lists turned round.
use Rattle.std.specs.Prelude.{ℕ, ◌<◌, ◌==◌, List, filter, map}
use Rattle.std.specs.List.{flat_map, range_with_len}
use Rattle.std.specs.List.Sorted.{IsPermutation}
use Rattle.fg_base.specs.declared.plain.Entry.{Entry}
use Rattle.fg_model.specs.declared.graph.Graph.{Graph}
use Rattle.fg_model.specs.Graph.{IsSound, row}

-- the entries of the out-lists that lead to v, each with its source as target, by ascending source
abbrev pub turned_to : Graph → ℕ → List Entry
turned_to graph v =
    flat_map (λ u. map (λ entry. record { target = u; weight = entry.weight }) (filter (λ entry. entry.target == v) (row graph.outs u)))
    (range_with_len 0 graph.n)

-- the graph is sound, and each in-list holds, in some order, just the turned entries that lead to its vertex
pub record IsMirror (graph : Graph) : Type 0 where
  pub sound : IsSound graph
  pub in_lists : (v : ℕ) → v < graph.n → IsPermutation (row graph.ins v) (turned_to graph v)
