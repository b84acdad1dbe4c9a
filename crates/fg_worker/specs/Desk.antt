-- What is given for an iteration, and what its blocks are.
use Rattle.std.specs.Prelude.{◌≡◌, ℕ, Option, None, Some, List, [], All, is_some, length}
use Rattle.std.specs.List.{Contains, flat_map}
use Rattle.fg_base.specs.declared.limits.TheConstants.{PAGE_BYTES}
use Rattle.fg_base.specs.declared.plain.VState.{VState}
use Rattle.fg_cache.specs.Site.{IsLayout, Site, asked_pages}
use Rattle.fg_image.specs.Image.{IndexFits}
use Rattle.fg_image.specs.Lists.{graph_by}
use Rattle.fg_image.specs.Needed.{IsNeededBySome}
use Rattle.fg_index.specs.ImageIndex.{ImageIndex}
use Rattle.fg_model.specs.declared.graph.Graph.{Graph}
use Rattle.fg_model.specs.Iteration.{AreStates, active_vertices}
use Rattle.fg_model.specs.Program.{Rules}
use Rattle.fg_part.specs.declared.part_map.PartMap.{PartMap}
use Rattle.fg_stripe.specs.declared.layout.Layout.{Layout}
use Rattle.fg_task.specs.Block.{awake_of, block_active, blocks_for}
use Rattle.fg_task.specs.Blocks.{Blocks}
use Rattle.fg_task.specs.Jobs.{Work, work_of}
use Rattle.fg_task.specs.Spending.{Counted, HasRoom, SpentUpTo}
use Rattle.fg_worker.specs.declared.desk.Desk.{Desk}
use Rattle.fg_worker.specs.Visits.{needed_pages}

-- the program's rules, the cache's site, where the lists stand, the blocks, the states, and the phase
pub record Setting : Type 0 where
  pub rules : Rules
  pub site : Site
  pub layout : Layout
  pub index : ImageIndex
  pub map : PartMap
  pub states : List VState
  pub phase : ℕ

-- what a desk has
abbrev pub setting_of : {P D : Type 0} → (P → Rules) → Desk P D → Setting
setting_of rules_of desk = record {
  rules = rules_of desk.program.now;
  site = desk.cache.now.site;
  layout = desk.layout;
  index = desk.index.now;
  map = desk.map;
  states = desk.states.now;
  phase = desk.phase;
}

-- the bytes of an image, of which each page is told; none where it isn't told
abbrev pub image_of : Option (List (List ℕ)) → List ℕ
image_of None = []
image_of (Some pages) = flat_map (λ page. page) pages

-- an image's pages are so many, each of `PAGE_BYTES`
pub record ArePages (count : ℕ) (pages : List (List ℕ)) : Type 0 where
  pub page_count : length pages ≡ count
  pub whole : All (λ page. length page ≡ PAGE_BYTES) pages

-- The graph of the image. Where that isn't told, it is a graph with the same lengths of lists.
abbrev pub graph_of : Setting → Graph
graph_of S = graph_by S.layout S.index (image_of S.site.image)

-- what jobs are run by
abbrev pub work_in : Setting → Work
work_in S = work_of S.rules S.map.n S.index.weighted

-- those of some vertices that are active
abbrev pub awake_in : Setting → List ℕ → List ℕ
awake_in S vertices = awake_of S.rules S.phase S.states vertices

-- the active vertices of a block
abbrev pub active_in : Setting → ℕ → List ℕ
active_in S block = block_active S.rules S.phase S.states S.map block

-- how many pages of the image hold some byte of a needed list of an active vertex of a block
abbrev pub visits_for : Setting → ℕ → ℕ
visits_for S block = length (needed_pages S.layout S.index S.rules.need (active_in S block))

-- the blocks of a desk: a visit is one of these pages
abbrev pub blocks_of : Setting → Blocks
blocks_of S = blocks_for S.rules (graph_of S) (is_some S.site.image) S.phase S.states S.map (visits_for S)

-- what is counted for a block has room
abbrev pub HasRoomForBlock : Setting → ℕ → Counted → Type 0
HasRoomForBlock S block counted = HasRoom counted ((blocks_of S).active_of block) ((blocks_of S).needed_of block)

-- no more was counted than a block has
abbrev pub SpentUpToBlock : Setting → ℕ → Counted → Counted → Type 0
SpentUpToBlock S block old new = SpentUpTo old new ((blocks_of S).active_of block) ((blocks_of S).needed_of block)

-- Layout and index are those of the cache's image, the map is over its vertices, of which each has a state, and the pages that active
-- vertices need may be asked for.
pub record IsDesk (S : Setting) : Type 0 where
  pub same_layout : S.layout ≡ S.site.layout
  pub striped : IsLayout S.layout
  pub fits : IndexFits S.layout S.index
  pub vertices : S.map.n ≡ length S.index.outs
  pub are_states : AreStates S.map.n S.states
  pub told : (pages : List (List ℕ)) → S.site.image ≡ Some pages → ArePages S.layout.pages pages
  pub asked : (page : ℕ) → IsNeededBySome S.layout S.index S.rules.need (active_vertices S.rules S.phase S.states) page
      → Contains (asked_pages S.site) page
