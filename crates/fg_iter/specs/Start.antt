-- One iteration, from its start to its answer.
use Rattle.std.specs.Prelude.{◌≡◌, ℕ, ◌+◌, true, Option, None, Some, Result, Ok, Err, List, IfOk, length}
use Rattle.fg_base.specs.declared.plain.BadEdge.{BadEdge}
use Rattle.fg_base.specs.declared.plain.VState.{VState}
use Rattle.fg_model.specs.declared.iteration.Counts.{Counts}
use Rattle.fg_model.specs.Engine.{HasCounted, RoseUpTo, iteration_of}
use Rattle.fg_model.specs.Iteration.{AreStates, Begun, IsIteration, begun_at, first_bad}
use Rattle.fg_model.specs.Program.{Rules}
use Rattle.fg_part.specs.declared.part_map.PartMap.{PartMap}
use Rattle.fg_task.specs.Blocks.{Blocks}
use Rattle.fg_task.specs.declared.block_result.WorkFault.{WorkFault}
use Rattle.fg_wave.specs.declared.told.Told.{Told}
use Rattle.fg_iter.specs.declared.unfinished.Unfinished.{Unfinished}
use Rattle.fg_iter.specs.Lists.{Lists, MayRun, blocks_of, visits_by_blocks}

-- an iteration that starts: the program's rules, the graph's lists, its blocks, the phase, and the states
pub record Start : Type 0 where
  pub rules : Rules
  pub lists : Lists
  pub map : PartMap
  pub phase : ℕ
  pub states : List VState

-- what begins then
abbrev pub begun : Start → Begun
begun start = begun_at start.rules start.lists.graph start.phase start.states

-- on how many pages its needed lists stand, taken block by block
abbrev pub visits_in : Start → ℕ
visits_in start = visits_by_blocks start.lists start.rules start.map (begun start).active

-- its blocks
abbrev pub blocks_at : Start → Blocks
blocks_at start = blocks_of start.lists start.rules start.map start.phase start.states

-- it may be run
abbrev pub MayBegin : (Rules → Begun → Type 0) → Start → Type 0
MayBegin allows start = MayRun start.lists allows start.rules start.map start.phase start.states

-- it was finished with these counts, and left these states
pub record IsFinished (start : Start) (counts : Counts) (states : List VState) : Type 0 where
  pub is_iteration : start.lists.knows ≡ true → IsIteration start.rules start.lists.graph start.phase start.states (iteration_of states counts)
  pub are_states : AreStates start.lists.graph.n states
  pub counted : HasCounted counts (begun start)

-- why it wasn't finished, where its blocks weren't all run
abbrev pub unfinished_of : {F : Type 0} → WorkFault F → Unfinished F
unfinished_of WorkFault.Memory = Unfinished.Memory
unfinished_of (WorkFault.Fault fault) = Unfinished.Fault fault

-- how it ends by what its blocks told
abbrev pub ended_by : Option BadEdge → {F : Type 0} → Told → Result Counts (Unfinished F)
ended_by None told = Ok (record { active = told.active; messages = told.sent })
ended_by (Some bad) told = Err (Unfinished.BadEdge bad)

abbrev pub ended_as : {F : Type 0} → Result Told (WorkFault F) → Result Counts (Unfinished F)
ended_as (Ok told) = ended_by told.bad told
ended_as (Err fault) = Err (unfinished_of fault)

-- why it wasn't finished; want of memory has no reason
abbrev pub HasReason : {F : Type 0} → (F → Type 0) → Start → Unfinished F → Type 0
HasReason caused start Unfinished.Memory = Unit {0}
HasReason caused start (Unfinished.Fault fault) = caused fault
HasReason caused start (Unfinished.BadEdge bad) = start.lists.knows ≡ true → first_bad start.rules start.lists.graph start.phase start.states ≡ Some bad

-- it ended with this answer, and left these states
abbrev pub HasEnded : {F : Type 0} → (F → Type 0) → Start → Result Counts (Unfinished F) → List VState → Type 0
HasEnded caused start (Ok counts) states = IsFinished start counts states
HasEnded caused start (Err unfinished) states = (states ≡ start.states) × HasReason caused start unfinished

-- two counts rose with it: by just what a finished one told, and else by no more than what began
pub record HasRaised {F : Type 0} (start : Start) (result : Result Counts (Unfinished F)) (runs entries new_runs new_entries : ℕ) : Type 0 where
  pub few_runs : RoseUpTo (length (begun start).active) runs new_runs
  pub few_entries : RoseUpTo (begun start).messages entries new_entries
  pub ok_runs : IfOk result (λ (counts : Counts). new_runs ≡ runs + counts.active)
  pub ok_entries : IfOk result (λ (counts : Counts). new_entries ≡ entries + counts.messages)
