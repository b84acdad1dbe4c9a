-- The edges of a graph as pairs.
use Rattle.std.specs.Prelude.{◌≡◌, ℕ, ◌<◌, ◌≤◌, ◌^◌, ◌⊎◌, Bool, false, List, All, AllPairs, length}
use Rattle.fg_model.specs.declared.edges.Pair.{Pair}

-- the number of vertices, whether the edges have weights, and the pairs
pub record EdgeList : Type 0 where
  pub n : ℕ
  pub weighted : Bool
  pub pairs : List Pair

-- a pair comes before another: by source, and at one source by target
abbrev pub ComesBefore : Pair → Pair → Type 0
ComesBefore one other = (one.source < other.source) ⊎ ((one.source ≡ other.source) × (one.target < other.target))

-- each pair comes before all later ones, so none is there twice
abbrev pub Ascends : List Pair → Type 0
Ascends pairs = AllPairs ComesBefore pairs

-- a pair of vertices below n; where the edges have no weights its weight is 1
pub record IsPairOf (n : ℕ) (weighted : Bool) (pair : Pair) : Type 0 where
  pub source_below : pair.source < n
  pub target_below : pair.target < n
  pub weight_fits : pair.weight < 2 ^ 32
  pub weight_plain : weighted ≡ false → pair.weight ≡ 1

-- edges within the engine's limits, ascending
pub record AreEdges (edges : EdgeList) : Type 0 where
  pub vertex_count : edges.n ≤ 2 ^ 24
  pub pair_count : length edges.pairs ≤ 2 ^ 26
  pub each : All (IsPairOf edges.n edges.weighted) edges.pairs
  pub ascending : Ascends edges.pairs
