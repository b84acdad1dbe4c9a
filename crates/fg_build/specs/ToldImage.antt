-- The image that drives tell, its graph, and where its lists lie.
use Rattle.std.specs.Prelude.{◌≡◌, ◌<◌, ℕ, Bool, true, false, Option, None, Some, List, [], length, map, slice_get}
use Rattle.std.specs.List.{range_with_len}
use Rattle.fg_build.specs.declared.opened.Opened.{Opened}
use Rattle.fg_image.specs.Lists.{graph_by}
use Rattle.fg_model.specs.declared.graph.Graph.{Graph}
use Rattle.fg_stripe.specs.declared.layout.Layout.{Layout}
use Rattle.fg_stripe.specs.Held.{image_on, page_of, page_on}
use Rattle.fg_stripe.specs.Striping.{drive_of, local_of}

-- whether all drives tell their bytes
abbrev pub is_told : Option (List (List ℕ)) → Bool
is_told None = false
is_told (Some helds) = true

-- the image in this layout that drives tell; no bytes where one of them doesn't tell
abbrev pub image_told : Layout → Option (List (List ℕ)) → List ℕ
image_told layout None = []
image_told layout (Some helds) = image_on layout.unit layout.pages helds

-- the graph of what was opened, over these bytes of its image
abbrev pub graph_over : Opened → List ℕ → Graph
graph_over opened image = graph_by opened.layout opened.index image

-- the pages of the image on drives that hold these bytes
abbrev pub pages_held : ℕ → ℕ → List (List ℕ) → List (List ℕ)
pages_held unit pages helds = map (page_on unit helds) (range_with_len 0 pages)

-- a drive of so many, in units of so many pages, that holds these bytes holds its own of these pages, each at its place
abbrev pub HoldsPages : ℕ → ℕ → List (List ℕ) → ℕ → List ℕ → Type 0
HoldsPages drives unit pages drive bytes =
    (page : ℕ) → page < length pages → drive_of page drives unit ≡ drive → slice_get pages page ≡ Some (page_of bytes (local_of page drives unit))
