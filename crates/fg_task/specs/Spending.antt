-- What workers spend on blocks.
use Rattle.std.specs.Prelude.{◌≡◌, ℕ, ◌+◌, ◌^◌, ◌<◌, ◌≤◌, ◌++◌, None, List, All}
use Rattle.std.specs.List.{sum_by}
use Rattle.fg_task.specs.declared.block_result.BlockResult.{BlockResult}
use Rattle.fg_task.specs.Blocks.{Blocks}

-- what was counted: runs of vertices, entries of these, and pages found in the cache
pub record Counted : Type 0 where
  pub runs : ℕ
  pub entries : ℕ
  pub hits : ℕ

-- no result has a bad edge
abbrev pub NoneBad : List BlockResult → Type 0
NoneBad results = All (λ (result : BlockResult). result.bad ≡ None) results

abbrev pub active_in : List BlockResult → ℕ
active_in results = sum_by (λ (result : BlockResult). result.active) results

abbrev pub sent_in : List BlockResult → ℕ
sent_in results = sum_by (λ (result : BlockResult). result.sent) results

abbrev pub visits_in : Blocks → List BlockResult → ℕ
visits_in blocks results = sum_by (λ (result : BlockResult). blocks.visits_of result.block) results

-- for one result there were counted just its runs and entries, and at least its pages
pub record SpentOn (blocks : Blocks) (old new : Counted) (result : BlockResult) : Type 0 where
  pub runs : new.runs ≡ old.runs + result.active
  pub entries : new.entries ≡ old.entries + result.sent
  pub hits : result.bad ≡ None → old.hits + blocks.visits_of result.block ≤ new.hits

-- the same of the results that came behind those before
pub record SpentOnMore (blocks : Blocks) (old new : Counted) (before after : List BlockResult) : Type 0 where
  pub added : List BlockResult
  pub behind : after ≡ before ++ added
  pub runs : new.runs ≡ old.runs + active_in added
  pub entries : new.entries ≡ old.entries + sent_in added
  pub hits : NoneBad added → old.hits + visits_in blocks added ≤ new.hits

-- the same of all workers together
pub record SpentInAll (blocks : Blocks) (old new : List Counted) (results : List BlockResult) : Type 0 where
  pub runs : sum_by (λ (spent : Counted). spent.runs) new ≡ sum_by (λ (spent : Counted). spent.runs) old + active_in results
  pub entries : sum_by (λ (spent : Counted). spent.entries) new ≡ sum_by (λ (spent : Counted). spent.entries) old + sent_in results
  pub hits : NoneBad results → sum_by (λ (spent : Counted). spent.hits) old + visits_in blocks results ≤ sum_by (λ (spent : Counted). spent.hits) new

-- so many runs and entries more can be counted
pub record HasRoom (spent : Counted) (runs entries : ℕ) : Type 0 where
  pub for_runs : spent.runs + runs < 2 ^ 64
  pub for_entries : spent.entries + entries < 2 ^ 64

-- no more than so many runs and entries were counted
pub record SpentUpTo (old new : Counted) (runs entries : ℕ) : Type 0 where
  pub few_runs : new.runs ≤ old.runs + runs
  pub few_entries : new.entries ≤ old.entries + entries

-- no more than all blocks of the list ask for
abbrev pub SpentOnList : Blocks → List ℕ → Counted → Counted → Type 0
SpentOnList blocks list old new = SpentUpTo old new (sum_by blocks.active_of list) (sum_by blocks.needed_of list)

-- and so much by all workers together
pub record SpentInAllUpTo (blocks : Blocks) (list : List ℕ) (old new : List Counted) : Type 0 where
  pub few_runs : sum_by (λ (spent : Counted). spent.runs) new ≤ sum_by (λ (spent : Counted). spent.runs) old + sum_by blocks.active_of list
  pub few_entries : sum_by (λ (spent : Counted). spent.entries) new ≤ sum_by (λ (spent : Counted). spent.entries) old + sum_by blocks.needed_of list
