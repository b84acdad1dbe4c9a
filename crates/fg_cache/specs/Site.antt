-- What all locks of a cache have in common: the image and its drives, the cache's shape, and what it may be asked for.
use Rattle.std.specs.Prelude.{◌≡◌, ℕ, ◌+◌, ◌*◌, ◌%◌, ◌<◌, ◌≤◌, ◌==◌, Bool, List, Option, length}
use Rattle.std.specs.List.{list_any, filter, range_with_len}
use Rattle.fg_base.specs.declared.limits.TheConstants.{MAX_DRIVES, MAX_UNIT, MAX_IMAGE_PAGES, MAX_SETS, MAX_WAYS, MAX_FRAMES, MAX_WORKERS, MAX_DEPTH}
use Rattle.fg_books.specs.Shares.{BooksId}
use Rattle.fg_stripe.specs.declared.layout.Layout.{Layout}
use Rattle.fg_cache.specs.declared.shape.Shape.{Shape}

-- The image's layout, the shape of the cache, the bytes of each image page where they are told, the pages that may be asked for,
-- and the ledgers.
pub record Site : Type 0 where
  pub layout : Layout
  pub shape : Shape
  pub image : Option (List (List ℕ))
  pub asked : List ℕ
  pub books : BooksId

-- whether the page may be asked for
abbrev pub is_asked : List ℕ → ℕ → Bool
is_asked asked page = list_any (λ p. p == page) asked

-- the image pages that may be asked for
unfoldable pub asked_pages : Site → List ℕ
asked_pages site = filter (is_asked site.asked) (range_with_len 0 site.layout.pages)

-- those that stand in this page set
unfoldable pub own_pages : Site → ℕ → List ℕ
own_pages site set = filter (λ page. page % site.shape.sets == set) (asked_pages site)

-- how many frames there are
abbrev pub frames_of : Site → ℕ
frames_of site = site.shape.sets * site.shape.ways

-- how many locks and passes share the running ledgers
abbrev pub sharers : Layout → Shape → ℕ
sharers layout shape = shape.sets + (layout.drives + layout.drives) + shape.passes

-- the layout's numbers are within their limits
pub record IsLayout (layout : Layout) : Type 0 where
  pub some_drive : 0 < layout.drives
  pub few_drives : layout.drives ≤ MAX_DRIVES
  pub some_unit : 0 < layout.unit
  pub small_unit : layout.unit ≤ MAX_UNIT
  pub few_pages : layout.pages ≤ MAX_IMAGE_PAGES

-- the shape's numbers are within their limits
pub record IsShape (shape : Shape) : Type 0 where
  pub some_set : 0 < shape.sets
  pub few_sets : shape.sets ≤ MAX_SETS
  pub some_way : 0 < shape.ways
  pub few_ways : shape.ways ≤ MAX_WAYS
  pub few_frames : shape.sets * shape.ways ≤ MAX_FRAMES
  pub few_loads : shape.depth ≤ MAX_DEPTH
  pub some_pass : 0 < shape.passes
  pub few_passes : shape.passes ≤ MAX_WORKERS

-- what holds of every cache
pub record IsSite (site : Site) : Type 0 where
  pub layout : IsLayout site.layout
  pub shape : IsShape site.shape
  pub loose : site.books.plan.loose ≡ site.layout.drives
  pub parts : site.books.plan.parts ≡ sharers site.layout site.shape

-- each page set has a way for each page that may be asked for and stands in it
abbrev pub AllFit : Site → Type 0
AllFit site = (set : ℕ) → set < site.shape.sets → length (own_pages site set) ≤ site.shape.ways
