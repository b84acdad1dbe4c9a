-- What the cache of a run is named by.
use Rattle.std.specs.Prelude.{ℕ, Option, None, Some, List}
use Rattle.std.specs.List.{flat_map, range_with_len}
use Rattle.fg_build.specs.declared.opened.Opened.{Opened}
use Rattle.fg_build.specs.Opening.{graph_on}
use Rattle.fg_build.specs.ToldImage.{pages_held}
use Rattle.fg_model.specs.Iteration.{Begun}
use Rattle.fg_model.specs.Program.{Rules}
use Rattle.fg_model.specs.Run.{begun_of, run}
use Rattle.fg_stripe.specs.declared.layout.Layout.{Layout}
use Rattle.fg_worker.specs.Visits.{needed_pages}

-- the image's pages, where the drives tell their bytes
abbrev pub image_held : Layout → Option (List (List ℕ)) → Option (List (List ℕ))
image_held layout None = None
image_held layout (Some helds) = Some (pages_held layout.unit layout.pages helds)

-- the pages of the needed lists of the active vertices of iterations
abbrev pub pages_needed : Rules → Opened → List Begun → List ℕ
pages_needed P opened begun = flat_map (λ (one : Begun). needed_pages opened.layout opened.index P.need one.active) begun

-- the pages that a run may ask for: those that its iterations need; where the drives don't tell, all pages of the image
abbrev pub pages_asked : Rules → Opened → ℕ → Option (List (List ℕ)) → List ℕ
pages_asked P opened max None = range_with_len 0 opened.layout.pages
pages_asked P opened max (Some helds) = pages_needed P opened (begun_of (run P (graph_on opened helds) max))
