-- A wave, which is the blocks at the places from `from` to below `to` of a list, and its results.
use Rattle.std.specs.Prelude.{◌≡◌, ℕ, ◌-◌, ◌<◌, ◌≤◌, true, List, All, IsPermutation, length, map as each, slice_index_or}
use Rattle.std.specs.List.{flat_map, range_with_len, sum_by}
use Rattle.fg_task.specs.declared.block_result.BlockResult.{BlockResult}
use Rattle.fg_crew.specs.declared.slot.Slot.{Slot}
use Rattle.fg_task.specs.Blocks.{Blocks, IsResult, mail_of}
use Rattle.fg_task.specs.Spending.{HasRoom, NoneBad, Counted, SpentUpTo, active_in, sent_in, visits_in}

-- the block at a place of the list
abbrev pub block_at : List ℕ → ℕ → ℕ
block_at list place = slice_index_or list place 0

-- the blocks of a wave
abbrev pub blocks_in : List ℕ → ℕ → ℕ → List ℕ
blocks_in list from to = each (block_at list) (range_with_len from (to - from))

-- what comes together of a number for each of them
abbrev pub in_all : (ℕ → ℕ) → List ℕ → ℕ → ℕ → ℕ
in_all of list from to = sum_by of (blocks_in list from to)

-- the runs and the entries of the whole wave can be counted
abbrev pub HasRoomForAll : Blocks → List ℕ → ℕ → ℕ → Counted → Type 0
HasRoomForAll blocks list from to spent = HasRoom spent (in_all blocks.active_of list from to) (in_all blocks.needed_of list from to)

-- no more was counted than the whole wave asks for
abbrev pub SpentWithin : Blocks → List ℕ → ℕ → ℕ → Counted → Counted → Type 0
SpentWithin blocks list from to old new = SpentUpTo old new (in_all blocks.active_of list from to) (in_all blocks.needed_of list from to)

-- each worker counted no more than that
abbrev pub EachSpentWithin : {K F : Type 0} → (K → Counted) → Blocks → List ℕ → ℕ → ℕ → List (Slot K F) → List (Slot K F) → Type 0
EachSpentWithin spent blocks list from to old new =
    (k : ℕ) (d : Slot _ _) → k < length old → SpentWithin blocks list from to (spent (slice_index_or old k d).kept) (spent (slice_index_or new k d).kept)

-- Each block of the wave has one result, in any order. So the results together are those of its blocks.
pub record IsWave (blocks : Blocks) (list : List ℕ) (from to : ℕ) (results : List BlockResult) : Type 0 where
  pub once : IsPermutation (blocks_in list from to) (each (λ (result : BlockResult). result.block) results)
  pub each_own : All (λ (result : BlockResult). IsResult blocks result.block result) results
  pub active : active_in results ≡ in_all blocks.active_of list from to
  pub visits : visits_in blocks results ≡ in_all blocks.visits_of list from to
  pub few_sent : sent_in results ≤ in_all blocks.needed_of list from to
  pub all_sent : NoneBad results → sent_in results ≡ in_all blocks.needed_of list from to
  pub messages : blocks.knows ≡ true → IsPermutation (flat_map blocks.mail_of (blocks_in list from to)) (flat_map mail_of results)
