-- Drives in memory that an image of edges is built on.
use Rattle.std.specs.Prelude.{◌≡◌, ℕ, ◌+◌, Option, Some, Ok, List, [], length}
use Rattle.fg_build.specs.declared.opened.Opened.{Opened}
use Rattle.fg_build.specs.Layouts.{Plan, all_drive_bytes}
use Rattle.fg_build.specs.Opening.{graph_on, opening_of}
use Rattle.fg_image.specs.Made.{graph_of_edges}
use Rattle.fg_model.specs.Edges.{AreEdges, EdgeList}
use Rattle.fg_outside.specs.Drives.{HasEach, all_told}
use Rattle.fg_stripe.specs.declared.layout.Layout.{Layout}
use Rattle.fg_stripe.specs.Striping.{pages_on}
use Rattle.fg_words.specs.declared.jobs.Recipe.{Recipe}
use Rattle.fg_top.specs.LargeJob.{generated}

-- an empty drive that never failed, with just the room that the drive of its number needs for its part of an image that is
-- laid out so: its label, and its pages
pub record IsEmptyFor {D : Type 0} (held : D → Option (List ℕ)) (room : D → Option ℕ) (faults : D → ℕ) (layout : Layout) (number : ℕ) (drive : D) : Type 0 where
  pub nothing : held drive ≡ Some []
  pub roomy : room drive ≡ Some (1 + length (pages_on number layout.drives layout.unit layout.pages))
  pub unfailed : faults drive ≡ 0

-- all the drives of such an image
pub record AreEmptyFor {D : Type 0} (held : D → Option (List ℕ)) (room : D → Option ℕ) (faults : D → ℕ) (layout : Layout) (drives : List D) : Type 0 where
  pub many : length drives ≡ layout.drives
  pub each : HasEach (IsEmptyFor held room faults layout) drives

-- drives that hold the image of these edges and nothing else, and never failed
pub record HoldEdges {D : Type 0} (held : D → Option (List ℕ)) (faults : D → ℕ) (plan : Plan) (edges : EdgeList) (drives : List D) : Type 0 where
  pub are_edges : AreEdges edges
  pub many : length drives ≡ plan.drives
  pub told : all_told held drives ≡ Some (all_drive_bytes plan edges)
  pub unfailed : HasEach (λ number drive. faults drive ≡ 0) drives

-- the same of the edges that are generated so
pub record HoldGenerated {D : Type 0} (held : D → Option (List ℕ)) (faults : D → ℕ) (plan : Plan) (recipe : Recipe) (drives : List D) : Type 0 where
  pub edges : EdgeList
  pub made : generated recipe ≡ Ok edges
  pub hold : HoldEdges held faults plan edges drives

-- drives that hold these bytes open to the graph of these edges, with their counts in the header
pub record OpenToEdges (helds : List (List ℕ)) (edges : EdgeList) : Type 0 where
  pub opened : Opened
  pub opening : opening_of helds ≡ Ok opened
  pub vertices : opened.header.n ≡ edges.n
  pub outs : opened.header.out_entries ≡ length edges.pairs
  pub ins : opened.header.in_entries ≡ length edges.pairs
  pub graph : graph_on opened helds ≡ graph_of_edges edges
