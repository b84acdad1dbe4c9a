-- The vertices of a block, and what those of them that are active need and send.
use Rattle.std.specs.Prelude.{ℕ, ◌*◌, ◌-◌, nat_le, Bool, not, List, filter, find, length, min}
use Rattle.std.specs.List.{flat_map, range_with_len}
use Rattle.fg_base.specs.declared.plain.BadEdge.{BadEdge}
use Rattle.fg_base.specs.declared.plain.VState.{VState}
use Rattle.fg_model.specs.declared.graph.Graph.{Graph}
use Rattle.fg_model.specs.declared.mail.Mail.{Mail}
use Rattle.fg_model.specs.Iteration.{is_bad, state_at}
use Rattle.fg_model.specs.Program.{Rules}
use Rattle.fg_model.specs.VertexRun.{edges_of, ran}
use Rattle.fg_part.specs.declared.part_map.PartMap.{PartMap}
use Rattle.fg_part.specs.PartMap.{block_size}
use Rattle.fg_task.specs.Blocks.{Blocks}

-- the vertices of a block, ascending
unfoldable pub block_vertices : PartMap → ℕ → List ℕ
block_vertices pmap block = range_with_len (block * block_size pmap) (min (block_size pmap) (pmap.n - block * block_size pmap))

-- those of some vertices that are active
abbrev pub awake_of : Rules → ℕ → List VState → List ℕ → List ℕ
awake_of P phase states vertices = filter (λ v. P.wake phase (state_at states v)) vertices

-- the needed entries of vertices, one after another
unfoldable pub needed_of : Rules → Graph → List ℕ → List BadEdge
needed_of P graph vertices = flat_map (edges_of P.need graph) vertices

-- whether a message goes to one of n vertices
abbrev pub goes_to_one : ℕ → Mail → Bool
goes_to_one n mail = not (nat_le n mail.target)

-- the messages of vertices that go to a vertex, one after another
unfoldable pub mail_of : Rules → Graph → ℕ → List VState → List ℕ → List Mail
mail_of P graph phase states vertices = filter (goes_to_one graph.n) (flat_map (λ v. (ran P graph phase v (state_at states v)).messages) vertices)

-- the active vertices of a block
abbrev pub block_active : Rules → ℕ → List VState → PartMap → ℕ → List ℕ
block_active P phase states pmap block = awake_of P phase states (block_vertices pmap block)

-- what is known of blocks, by the graph: their active vertices run as the rules say, on these states
abbrev pub blocks_for : Rules → Graph → Bool → ℕ → List VState → PartMap → (ℕ → ℕ) → Blocks
blocks_for P graph knows phase states pmap visits = record {
  map = pmap;
  knows = knows;
  mail_of = λ block. mail_of P graph phase states (block_active P phase states pmap block);
  active_of = λ block. length (block_active P phase states pmap block);
  needed_of = λ block. length (needed_of P graph (block_active P phase states pmap block));
  bad_of = λ block. find (is_bad graph.n) (needed_of P graph (block_active P phase states pmap block));
  visits_of = visits;
}
