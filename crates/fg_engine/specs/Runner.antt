-- What is known of an image's lists over a cache of its pages, and what a worker is lent.
use Rattle.std.specs.Prelude.{◌≡◌, ℕ, ◌<◌, ◌≤◌, true, Some, List, All, is_some, length}
use Rattle.std.specs.List.{Contains}
use Rattle.fg_build.specs.declared.opened.Opened.{Opened}
use Rattle.fg_cache.specs.Site.{IsLayout, Site, asked_pages}
use Rattle.fg_image.specs.Image.{IndexFits}
use Rattle.fg_image.specs.Lists.{graph_by}
use Rattle.fg_image.specs.Needed.{IsNeededBySome}
use Rattle.fg_index.specs.ImageIndex.{ImageIndex}
use Rattle.fg_iter.specs.Engine.{visits_of_all}
use Rattle.fg_iter.specs.Lists.{Lists}
use Rattle.fg_iter.specs.Running.{AllowsRun}
use Rattle.fg_model.specs.Engine.{begun_in}
use Rattle.fg_model.specs.Iteration.{Begun}
use Rattle.fg_model.specs.Program.{Rules}
use Rattle.fg_model.specs.Run.{Run, run}
use Rattle.fg_part.specs.declared.part_map.PartMap.{PartMap}
use Rattle.fg_stripe.specs.declared.layout.Layout.{Layout}
use Rattle.fg_worker.specs.Desk.{ArePages, image_of}
use Rattle.fg_worker.specs.Visits.{needed_pages}

-- the lists of the image in a cache, which are told where its pages are
abbrev pub lists_of : Layout → ImageIndex → Site → Lists
lists_of layout index site = record {
  graph = graph_by layout index (image_of site.image);
  knows = is_some site.image;
  visits = λ P vertices. length (needed_pages layout index P.need vertices);
}

-- those of what was opened
abbrev pub lists_in : Opened → Site → Lists
lists_in opened site = lists_of opened.layout opened.index site

-- the pages of the needed lists of the iteration's active vertices may be asked for
abbrev pub AllowsPages : Layout → ImageIndex → Site → Rules → Begun → Type 0
AllowsPages layout index site P begun =
    (page : ℕ) → IsNeededBySome layout index P.need begun.active page → Contains (asked_pages site) page

-- all pages that a run of these rules needs may be asked for
abbrev pub AllowsCached : Opened → Site → Rules → ℕ → Type 0
AllowsCached opened site P max = AllowsRun (AllowsPages opened.layout opened.index site) (lists_in opened site) P max

-- that run
abbrev pub run_over : Opened → Site → Rules → ℕ → Run
run_over opened site P max = run P (lists_in opened site).graph max

-- where the image is told, pages were found at least as often as the blocks of its iterations need them
abbrev pub FoundOften : Opened → Site → Rules → PartMap → ℕ → ℕ → Type 0
FoundOften opened site P map max hits =
    is_some site.image ≡ true → visits_of_all (lists_in opened site) P map (begun_in P (lists_in opened site).graph max) ≤ hits

-- the cache is of an image with this layout and index, whose pages are whole where they are told, and hold bytes
pub record IsCacheOf (layout : Layout) (index : ImageIndex) (site : Site) : Type 0 where
  pub same_layout : layout ≡ site.layout
  pub striped : IsLayout layout
  pub fits : IndexFits layout index
  pub told : (pages : List (List ℕ)) → site.image ≡ Some pages → ArePages layout.pages pages
  pub bytes : All (λ byte. byte < 256) (image_of site.image)
