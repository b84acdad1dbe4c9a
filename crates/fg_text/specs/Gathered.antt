-- What the edges of a text's lines give together.
use Rattle.std.specs.Prelude.{ℕ, ◌≤◌, ◌^◌, All, ◌+◌, ◌==◌, ◌&&◌, ◌||◌, ◌++◌, max, not, Bool, List, [], ◌∷◌, fold, length, if◌then◌else◌, is_some, unwrap_or}
use Rattle.std.specs.List.{flat_map, list_any}
use Rattle.fg_model.specs.declared.edges.Pair.{Pair}
use Rattle.fg_model.specs.Edges.{EdgeList, IsPairOf}
use Rattle.fg_text.specs.declared.verdict.Edge.{Edge}

-- the weight of an edge: 1 where its line gives none
abbrev pub weight_of : Edge → ℕ
weight_of edge = unwrap_or edge.weight 1

-- an edge as a pair, and the other way round
abbrev pub pair_there : Edge → Pair
pair_there edge = record { source = edge.source; target = edge.target; weight = weight_of edge }

abbrev pub pair_back : Edge → Pair
pair_back edge = record { source = edge.target; target = edge.source; weight = weight_of edge }

-- an edge that is a pair both ways
abbrev pub is_double : Bool → Edge → Bool
is_double undirected edge = undirected && not (edge.source == edge.target)

-- the pairs of an edge: both ways where the text is undirected, but a loop once
abbrev pub pairs_of : Bool → Edge → List Pair
pairs_of undirected edge = pair_there edge ∷ (if is_double undirected edge then pair_back edge ∷ [] else [])

-- one more than the greatest number of a vertex, where `n` is that of the edges before
abbrev pub vertices_with : ℕ → Edge → ℕ
vertices_with n edge = max n (max edge.source edge.target + 1)

-- what was gathered before, and what these edges add to it
abbrev pub with_edges : Bool → EdgeList → List Edge → EdgeList
with_edges undirected before edges = record {
  n = fold vertices_with before.n edges;
  weighted = before.weighted || list_any (λ edge. is_some edge.weight) edges;
  pairs = before.pairs ++ flat_map (pairs_of undirected) edges;
}

-- pairs as they are gathered: within the limits, in any order
pub record AreGathered (n : ℕ) (weighted : Bool) (pairs : List Pair) : Type 0 where
  pub vertex_count : n ≤ 2 ^ 24
  pub pair_count : length pairs ≤ 2 ^ 26
  pub each : All (IsPairOf n weighted) pairs
