-- Weakly connected vertices, and the least of them.
use Rattle.std.specs.Prelude.{◌≡◌, ℕ, ◌<◌, ◌≤◌, ◌⊎◌, true, Ok, List, [], ◌∷◌, Contains}
use Rattle.fg_base.specs.declared.plain.Entry.{Entry}
use Rattle.fg_base.specs.declared.plain.Value.TheVariants.{One}
use Rattle.fg_model.specs.declared.graph.Graph.{Graph}
use Rattle.fg_model.specs.declared.run.End.{End}
use Rattle.fg_model.specs.Graph.{IsWithinLimits, row}
use Rattle.fg_model.specs.Iteration.{state_at}
use Rattle.fg_model.specs.Mirror.{IsMirror}
use Rattle.fg_model.specs.Run.{answer_of, run}
use Rattle.fg_comps.specs.Wcc.{wcc}

-- an out-entry leads from u to v, whatever its weight
abbrev pub Leads : List (List Entry) → ℕ → ℕ → Type 0
Leads outs u v = (weight : ℕ) × Contains (row outs u) (record { target = v; weight = weight })

-- an out-entry leads from one to the other, in either direction
abbrev pub IsJoined : List (List Entry) → ℕ → ℕ → Type 0
IsJoined outs u v = Leads outs u v ⊎ Leads outs v u

-- a walk from u to v that ignores directions, by the vertices that it comes to
abbrev pub IsWeakWalk : List (List Entry) → ℕ → List ℕ → ℕ → Type 0
IsWeakWalk outs u [] v = u ≡ v
IsWeakWalk outs u (w ∷ ws) v = IsJoined outs u w × IsWeakWalk outs w ws v

-- two vertices are weakly connected where such a walk leads from the one to the other
abbrev pub IsWeaklyConnected : List (List Entry) → ℕ → ℕ → Type 0
IsWeaklyConnected outs u v = (ws : List ℕ) × IsWeakWalk outs u ws v

-- x is the least vertex that is weakly connected with v
pub record IsLeastConnected (outs : List (List Entry)) (v x : ℕ) : Type 0 where
  pub connected : IsWeaklyConnected outs v x
  pub none_less : (u : ℕ) → IsWeaklyConnected outs v u → x ≤ u

-- what the values of components mean: after a settled run on a mirror, each is the least vertex weakly connected with its own
abbrev pub GivesLeastConnected : Type 0
GivesLeastConnected = (graph : Graph) (most : ℕ) (end : End)
    → IsWithinLimits graph → IsMirror graph → answer_of (run wcc graph most) ≡ Ok end → end.settled ≡ true
    → (v : ℕ) → v < graph.n → (x : ℕ) × (wcc.show (state_at end.states v) ≡ One x) × IsLeastConnected graph.outs v x
