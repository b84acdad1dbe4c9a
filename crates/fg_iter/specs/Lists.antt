-- What is known of a graph's lists, and of the blocks of an iteration over them.
use Rattle.std.specs.Prelude.{◌≡◌, ℕ, ◌≤◌, ◌<◌, ◌==◌, Bool, List, filter, length, slice_index}
use Rattle.std.specs.List.{range_with_len, sum_by}
use Rattle.fg_base.specs.declared.plain.VState.{VState}
use Rattle.fg_model.specs.declared.graph.Graph.{Graph}
use Rattle.fg_model.specs.Iteration.{AreStates, Begun, begun_at}
use Rattle.fg_model.specs.Program.{Rules}
use Rattle.fg_part.specs.declared.part_map.PartMap.{PartMap}
use Rattle.fg_part.specs.PartMap.{block_of, block_total}
use Rattle.fg_task.specs.Blocks.{Blocks}
use Rattle.fg_task.specs.Block.{block_active, block_vertices, blocks_for, needed_of}
use Rattle.fg_task.specs.Spending.{Counted, HasRoom, SpentUpTo}

-- the graph, whether it is told, and on how many pages the needed lists of some vertices stand
pub record Lists : Type 0 where
  pub graph : Graph
  pub knows : Bool
  pub visits : Rules → List ℕ → ℕ

-- the blocks of an iteration
abbrev pub blocks_of : Lists → Rules → PartMap → ℕ → List VState → Blocks
blocks_of lists P map phase states =
    blocks_for P lists.graph lists.knows phase states map (λ block. lists.visits P (block_active P phase states map block))

-- on how many pages the needed lists of these vertices stand, taken block by block
abbrev pub visits_by_blocks : Lists → Rules → PartMap → List ℕ → ℕ
visits_by_blocks lists P map vertices =
    sum_by (λ block. lists.visits P (filter (λ v. block_of map v == block) vertices)) (range_with_len 0 (block_total map))

-- each block has a weight, and all its vertices together need no more entries than that
pub record AreBlockWeights (P : Rules) (graph : Graph) (map : PartMap) (weights : List ℕ) : Type 0 where
  pub one_each : length weights ≡ block_total map
  pub enough : (block : ℕ) → block < block_total map → length (needed_of P graph (block_vertices map block)) ≤ slice_index weights block

-- an iteration may be run on these states: the blocks are those of the graph's vertices, and it is allowed
pub record MayRun (lists : Lists) (allows : Rules → Begun → Type 0) (P : Rules) (map : PartMap) (phase : ℕ) (states : List VState) : Type 0 where
  pub vertices : map.n ≡ lists.graph.n
  pub are_states : AreStates lists.graph.n states
  pub is_allowed : allows P (begun_at P lists.graph phase states)

-- the runs and the entries of a block can be counted
abbrev pub HasRoomForBlock : Blocks → ℕ → Counted → Type 0
HasRoomForBlock blocks block spent = HasRoom spent (blocks.active_of block) (blocks.needed_of block)

-- no more was counted than the block asks for
abbrev pub SpentOnBlock : Blocks → ℕ → Counted → Counted → Type 0
SpentOnBlock blocks block old new = SpentUpTo old new (blocks.active_of block) (blocks.needed_of block)
