-- Walks along out-entries, and the least length or weight of a walk.
use Rattle.std.specs.Prelude.{◌≡◌, ℕ, ◌+◌, ◌<◌, ◌≤◌, ◌^◌, ◌⊎◌, true, Ok, List, [], ◌∷◌, All, Contains, length, sum_by}
use Rattle.fg_base.specs.declared.plain.Entry.{Entry}
use Rattle.fg_base.specs.declared.plain.Value.{Value}
use Rattle.fg_base.specs.declared.plain.Value.TheVariants.{Absent, One, Two}
use Rattle.fg_base.specs.declared.plain.VState.{VState}
use Rattle.fg_model.specs.declared.graph.Graph.{Graph}
use Rattle.fg_model.specs.declared.run.End.{End}
use Rattle.fg_model.specs.Graph.{IsWithinLimits, row}
use Rattle.fg_model.specs.Iteration.{state_at}
use Rattle.fg_model.specs.Program.{Rules}
use Rattle.fg_model.specs.Run.{answer_of, run}
use Rattle.fg_walks.specs.Bfs.{bfs}
use Rattle.fg_walks.specs.Spread.{none}
use Rattle.fg_walks.specs.Sssp.{sssp}

-- a walk from u to v: each entry is one of the list of the vertex where the one before it ended
abbrev pub IsWalk : List (List Entry) → ℕ → List Entry → ℕ → Type 0
IsWalk outs u [] v = u ≡ v
IsWalk outs u (entry ∷ entries) v = Contains (row outs u) entry × IsWalk outs entry.target entries v

-- the weight of a walk, as a whole number without an end
abbrev pub weight : List Entry → ℕ
weight entries = sum_by (λ entry. entry.weight) entries

-- a number is the least measure of a walk from u to v
pub record IsLeast (measure : List Entry → ℕ) (outs : List (List Entry)) (u v x : ℕ) : Type 0 where
  pub some_walk : (entries : List Entry) × IsWalk outs u entries v × (measure entries ≡ x)
  pub none_less : (entries : List Entry) → IsWalk outs u entries v → x ≤ measure entries

-- a printed value is the least measure of a walk from u to v, and is absent where no walk leads there
abbrev pub IsLeastValue : (List Entry → ℕ) → List (List Entry) → ℕ → ℕ → Value → Type 0
IsLeastValue measure outs u v Absent = (entries : List Entry) → IsWalk outs u entries v → ⊥
IsLeastValue measure outs u v (One x) = IsLeast measure outs u v x
IsLeastValue measure outs u v (Two x y) = ⊥

-- the values of these states are the least measures of walks from the source, for every vertex
abbrev pub AreLeastValues : (List Entry → ℕ) → Rules → Graph → ℕ → List VState → Type 0
AreLeastValues measure P graph source states = (v : ℕ) → v < graph.n → IsLeastValue measure graph.outs source v (P.show (state_at states v))

-- a run of below 2^32 iterations that settled has the least measures of walks from the source as its values. The graph
-- may have weights of 0, entries from a vertex to itself, entries that stand twice, and targets that are no vertices,
-- as long as the run meets none of these
abbrev pub GivesLeastValues : (List Entry → ℕ) → Rules → ℕ → Type 0
GivesLeastValues measure P source = (graph : Graph) (most : ℕ) (end : End)
    → IsWithinLimits graph → most < 2 ^ 32 → answer_of (run P graph most) ≡ Ok end → end.settled ≡ true
    → AreLeastValues measure P graph source end.states

-- what levels mean
abbrev pub LevelsAreLeastLengths : ℕ → Type 0
LevelsAreLeastLengths source = GivesLeastValues length (bfs source) source

-- what the values of shortest walks mean; no sum of such a run stops, since it is at most the number of iterations
-- times the greatest weight, below 2^32 * (2^32 - 1)
abbrev pub ValuesAreLeastWeights : ℕ → Type 0
ValuesAreLeastWeights source = GivesLeastValues weight (sssp source) source

-- no number of these states but none is so great that it would stop with the cost of an entry
abbrev pub AreSumsWhole : (Entry → ℕ) → Graph → List VState → Type 0
AreSumsWhole cost graph states = (v : ℕ) (entry : Entry) → v < graph.n → Contains (row graph.outs v) entry
    → ((state_at states v).a ≡ none) ⊎ ((state_at states v).a + cost entry < none)

-- after no iteration of a run of below 2^32 iterations does a sum stop, settled or not: its messages are whole sums
abbrev pub MakesWholeSums : (Entry → ℕ) → Rules → Type 0
MakesWholeSums cost P = (graph : Graph) (most : ℕ) → IsWithinLimits graph → most < 2 ^ 32
    → All (λ finished. AreSumsWhole cost graph finished.states) (run P graph most).finished
