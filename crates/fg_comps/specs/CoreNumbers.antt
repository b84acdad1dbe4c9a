-- Cores, and the greatest core that a vertex lies in.
use Rattle.std.specs.Prelude.{◌≡◌, ℕ, ◌+◌, ◌<◌, ◌≤◌, Bool, true, Ok, count_by}
use Rattle.fg_base.specs.declared.plain.Value.TheVariants.{One}
use Rattle.fg_model.specs.declared.graph.Graph.{Graph}
use Rattle.fg_model.specs.declared.run.End.{End}
use Rattle.fg_model.specs.Graph.{IsWithinLimits, row}
use Rattle.fg_model.specs.Iteration.{state_at}
use Rattle.fg_model.specs.Mirror.{IsMirror}
use Rattle.fg_model.specs.Run.{answer_of, run}
use Rattle.fg_comps.specs.Core.{core}

-- how many entries of both lists of v lead into a set of vertices
abbrev pub degree_into : Graph → (ℕ → Bool) → ℕ → ℕ
degree_into graph set v = count_by (λ entry. set entry.target) (row graph.outs v) + count_by (λ entry. set entry.target) (row graph.ins v)

-- a set of vertices in which each has at least k entries into the set itself
pub record IsDense (graph : Graph) (k : ℕ) (set : ℕ → Bool) : Type 0 where
  pub below : (v : ℕ) → set v ≡ true → v < graph.n
  pub enough : (v : ℕ) → set v ≡ true → k ≤ degree_into graph set v

-- the k-core is the largest such set: it holds every other one
pub record IsCore (graph : Graph) (k : ℕ) (set : ℕ → Bool) : Type 0 where
  pub dense : IsDense graph k set
  pub largest : (other : ℕ → Bool) → IsDense graph k other → (v : ℕ) → other v ≡ true → set v ≡ true

-- the core number of v is the greatest k for which v lies in the k-core
pub record IsCoreNumber (graph : Graph) (v x : ℕ) : Type 0 where
  pub in_core : (set : ℕ → Bool) × IsCore graph x set × (set v ≡ true)
  pub greatest : (k : ℕ) (set : ℕ → Bool) → IsCore graph k set → set v ≡ true → k ≤ x

-- what the values mean: after a settled run on a mirror, each is the core number of its vertex
abbrev pub GivesCoreNumbers : Type 0
GivesCoreNumbers = (graph : Graph) (most : ℕ) (end : End)
    → IsWithinLimits graph → IsMirror graph → answer_of (run core graph most) ≡ Ok end → end.settled ≡ true
    → (v : ℕ) → v < graph.n → (x : ℕ) × (core.show (state_at end.states v) ≡ One x) × IsCoreNumber graph v x
