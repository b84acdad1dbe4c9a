-- The greatest vertex from which a walk leads to a vertex.
use Rattle.std.specs.Prelude.{◌≡◌, ℕ, ◌<◌, ◌≤◌, true, Ok, List}
use Rattle.fg_base.specs.declared.plain.Entry.{Entry}
use Rattle.fg_base.specs.declared.plain.Value.TheVariants.{One}
use Rattle.fg_model.specs.declared.graph.Graph.{Graph}
use Rattle.fg_model.specs.declared.run.End.{End}
use Rattle.fg_model.specs.Graph.{IsWithinLimits}
use Rattle.fg_model.specs.Iteration.{state_at}
use Rattle.fg_model.specs.Run.{answer_of, run}
use Rattle.fg_walks.specs.Walks.{IsWalk}
use Rattle.fg_greatest.specs.Greatest.{greatest}

-- a walk along out-entries leads from u to v
abbrev pub Reaches : List (List Entry) → ℕ → ℕ → Type 0
Reaches outs u v = (entries : List Entry) × IsWalk outs u entries v

-- x is the greatest vertex that reaches v
pub record IsGreatestReaching (outs : List (List Entry)) (v x : ℕ) : Type 0 where
  pub reaches : Reaches outs x v
  pub none_greater : (u : ℕ) → Reaches outs u v → u ≤ x

-- the values of a run that settled are, for each vertex, the greatest one that reaches it
abbrev pub AreGreatestReaching : Graph → End → Type 0
AreGreatestReaching graph end = end.settled ≡ true
    → (v : ℕ) → v < graph.n → (x : ℕ) × (greatest.show (state_at end.states v) ≡ One x) × IsGreatestReaching graph.outs v x

-- what the values mean, on any graph within the limits and for any run that came to its end
abbrev pub GivesGreatestReaching : Type 0
GivesGreatestReaching = (graph : Graph) (most : ℕ) (end : End)
    → IsWithinLimits graph → answer_of (run greatest graph most) ≡ Ok end → AreGreatestReaching graph end
