-- The tests' graph: two out-entries of each vertex, of which nothing is told. And what is sent along them.
use Rattle.std.specs.Prelude.{◌≡◌, ℕ, ◌+◌, ◌*◌, ◌%◌, ◌^◌, ◌<◌, false, List, [], ◌∷◌, All, length, map}
use Rattle.std.specs.List.{range_with_len}
use Rattle.fg_base.specs.declared.plain.Entry.{Entry}
use Rattle.fg_base.specs.declared.plain.VState.{VState}
use Rattle.fg_batch.specs.declared.batch.Batch.{Batch}
use Rattle.fg_batch.specs.Outbox.{IsForItsPart, mail_in}
use Rattle.fg_model.specs.declared.graph.Graph.{Graph}
use Rattle.fg_model.specs.declared.mail.Mail.{Mail}
use Rattle.fg_part.specs.declared.part_map.PartMap.{PartMap}
use Rattle.fg_task.specs.Spending.{Counted}
use Rattle.fg_walks.specs.Bfs.{bfs}
use Rattle.fg_iter.specs.Lists.{Lists}

abbrev pub entry_to : ℕ → Entry
entry_to target = record { target = target; weight = 1 }

-- vertex v of n leads to v + 1 and 3 v + 1, round the ring
abbrev pub ring : ℕ → Graph
ring n = record {
  n = n;
  weighted = false;
  outs = map (λ v. entry_to ((v + 1) % n) ∷ entry_to ((3 * v + 1) % n) ∷ []) (range_with_len 0 n);
  ins = map (λ v. []) (range_with_len 0 n);
}

abbrev pub ring_lists : ℕ → Lists
ring_lists n = record { graph = ring n; knows = false; visits = λ _ _. 0 }

-- a message to one of n vertices
pub record IsMailTo (n : ℕ) (mail : Mail) : Type 0 where
  pub vertex : mail.target < n
  pub fits : mail.message < 2 ^ 64

-- the messages of so many runs, two of each
pub record AreOfRuns (n : ℕ) (mails : List Mail) (runs entries : ℕ) : Type 0 where
  pub two_each : length mails ≡ 2 * runs
  pub all_counted : entries ≡ 2 * runs
  pub all_fit : All (IsMailTo n) mails

-- these messages in batches
pub record AreBatchesOf (map : PartMap) (mails : List Mail) (batches : List Batch) : Type 0 where
  pub fit : All (IsForItsPart map) batches
  pub all : mail_in batches ≡ mails

-- so many runs and entries, and no page
abbrev pub spent_by : ℕ → ℕ → Counted
spent_by runs entries = record { runs = runs; entries = entries; hits = 0 }

-- the opening states of levels on it
abbrev pub opened : ℕ → ℕ → List VState
opened source n = map (λ v. (bfs source).init v 2 0) (range_with_len 0 n)
