-- Asks merged into runs of pages.
use Rattle.std.specs.Prelude.{◌≡◌, ◌+◌, ◌-◌, ◌<◌, ◌≤◌, List, length, slice_index_or, All, IsPermutation}
use Rattle.std.specs.List.{AllAdjacentBelow, flat_map}
use Rattle.std.specs.List.Sorted.{IsSortedByKey, IsStableByKey}
use Rattle.std.specs.Ordering.{nat_cmp}
use Rattle.fg_queue.specs.declared.asks.PageAsk.{PageAsk}
use Rattle.fg_queue.specs.declared.merge.PageRun.{PageRun}

-- an ask that stands for what is beyond a list's end
abbrev pub no_ask : PageAsk
no_ask = record { page = 0; job = 0 }

-- the same asks, each once, by page, and those of one page in their given order
pub record IsByPage (asks sorted : List PageAsk) : Type 0 where
  pub each_once : IsPermutation asks sorted
  pub by_page : IsSortedByKey (λ ask. ask.page) nat_cmp sorted
  pub in_order : IsStableByKey (λ ask. ask.page) nat_cmp asks sorted

-- the next ask is for the same page or for the next one
abbrev pub IsNextPage : PageAsk → PageAsk → Type 0
IsNextPage ask next = (ask.page ≤ next.page) × (next.page ≤ ask.page + 1)

-- The asks of a run go from its first page to its last one, and none between is left out.
pub record IsPageRun (run : PageRun) : Type 0 where
  pub some : 0 < length run.jobs
  pub starts : (slice_index_or run.jobs 0 no_ask).page ≡ run.first
  pub ends : (slice_index_or run.jobs (length run.jobs - 1) no_ask).page + 1 ≡ run.first + run.count
  pub steps : AllAdjacentBelow IsNextPage run.jobs (length run.jobs)

-- between two runs there is a page that nobody asked for
abbrev pub IsApart : PageRun → PageRun → Type 0
IsApart run next = run.first + run.count < next.first

-- the runs of these asks: all asks stand in them by page, each in one run only, and no run could be longer
pub record IsMerged (asks : List PageAsk) (runs : List PageRun) : Type 0 where
  pub asks_in : IsByPage asks (flat_map (λ run. run.jobs) runs)
  pub runs_of_pages : All IsPageRun runs
  pub maximal : AllAdjacentBelow IsApart runs (length runs)
