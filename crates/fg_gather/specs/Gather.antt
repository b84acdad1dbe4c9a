-- What a gather makes of the states.
use Rattle.std.specs.Prelude.{◌≡◌, ℕ, ◌+◌, ◌<◌, false, Bool, Option, None, List, IsPermutation, length, slice_index_or, if◌then◌else◌}
use Rattle.fg_base.specs.declared.plain.VState.{VState}
use Rattle.fg_batch.specs.Inbox.{received}
use Rattle.fg_gather.specs.Arrivals.{Arrivals, HasCome, came_to}
use Rattle.fg_model.specs.declared.graph.Graph.{Graph}
use Rattle.fg_model.specs.declared.mail.Mail.{Mail}
use Rattle.fg_model.specs.Iteration.{AreStates, after, mail, own_state, state_at}
use Rattle.fg_model.specs.Program.{Rules}
use Rattle.fg_part.specs.declared.part_map.PartMap.{PartMap}
use Rattle.fg_part.specs.PartMap.{block_of}

-- the state that a vertex gets before what came to it is folded in: in a block with a mark that of its run
abbrev pub run_state : Rules → PartMap → ℕ → List Bool → ℕ → VState → VState
run_state P map phase marks v s = if slice_index_or marks (block_of map v) false then own_state P phase v s else s

-- from the vertex `first` on each has its own new state, and what came to it folded in
pub record AreGathered (P : Rules) (map : PartMap) (phase : ℕ) (parts : List (List (Option ℕ))) (marks : List Bool) (first : ℕ) (old new : List VState) : Type 0 where
  pub count : length new ≡ length old
  pub each : (k : ℕ) → k < length old
      → state_at new k ≡ received P (came_to map parts (first + k)) (run_state P map phase marks (first + k) (state_at old k))

-- a vertex that is asleep, and to which nothing came, keeps its state
abbrev pub KeepsOthers : Rules → PartMap → ℕ → List (List (Option ℕ)) → List VState → List VState → Type 0
KeepsOthers P map phase parts old new =
    (v : ℕ) → v < map.n → P.wake phase (state_at old v) ≡ false → came_to map parts v ≡ None → state_at new v ≡ state_at old v

-- the states after an iteration whose messages came
pub record IsIterated (P : Rules) (map : PartMap) (phase : ℕ) (parts : List (List (Option ℕ))) (old new : List VState) : Type 0 where
  -- whatever came, they are states
  pub states : (came : List Mail) → HasCome P map parts came → AreStates map.n new
  -- where it is the mail of the iteration, in any order, they are those after it
  pub is_after : (graph : Graph) (came : List Mail) → IsPermutation (mail P graph phase old) came → HasCome P map parts came → new ≡ after P graph phase old
  pub others : KeepsOthers P map phase parts old new

-- what a run of vertices gets, from the inboxes as they are
abbrev pub RunIsGathered : {X : Type 0} → Rules → Arrivals X → ℕ → List Bool → ℕ → List VState → List VState → Type 0
RunIsGathered P inboxes phase marks first old new = AreGathered P inboxes.map phase inboxes.parts marks first old new
