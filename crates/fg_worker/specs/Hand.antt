-- What a worker keeps through its blocks.
use Rattle.std.specs.Prelude.{◌≡◌, ℕ, Option, None, Some}
use Rattle.fg_batch.specs.Outbox.{IsUnsent}
use Rattle.fg_cache.specs.Pass.{IsPassOf, Token}
use Rattle.fg_cache.specs.Site.{Site}
use Rattle.fg_part.specs.declared.part_map.PartMap.{PartMap}
use Rattle.fg_task.specs.declared.block_result.BlockResult.{BlockResult}
use Rattle.fg_task.specs.Blocks.{Blocks}
use Rattle.fg_task.specs.Spending.{Counted, SpentOn}
use Rattle.fg_worker.specs.declared.hand.Hand.{Hand}

-- the pass is there, and one of this cache
abbrev pub IsPassHeld : Site → Option Token → Type 0
IsPassHeld site None = ⊥
IsPassHeld site (Some token) = IsPassOf site token

-- how often it was answered a page
abbrev pub hits_of : Option Token → ℕ
hits_of None = 0
hits_of (Some token) = token.hits

-- a worker between two blocks: it has a pass of this cache, and nothing is sent
pub record IsHand {T : Type 0} (site : Site) (pmap : PartMap) (hand : Hand T) : Type 0 where
  pub pass_held : IsPassHeld site hand.pass
  pub same_map : hand.outbox.map ≡ pmap
  pub unsent : IsUnsent hand.outbox

-- what a worker counted, by its tally and its pass
abbrev pub counted_by : {T : Type 0} → (T → ℕ) → (T → ℕ) → Hand T → Counted
counted_by runs entries hand = record { runs = runs hand.tally; entries = entries hand.tally; hits = hits_of hand.pass }

-- for a block's result a worker counted just its runs and entries, and at least its pages
abbrev pub SpentByHand : {T : Type 0} → (T → ℕ) → (T → ℕ) → Blocks → Hand T → Hand T → BlockResult → Type 0
SpentByHand runs entries blocks old new result = SpentOn blocks (counted_by runs entries old) (counted_by runs entries new) result
