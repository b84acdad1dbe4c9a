-- A wave whose blocks are claimed in parts, and the results of those that were drawn.
use Rattle.std.specs.Prelude.{◌≡◌, ℕ, ◌+◌, ◌-◌, ◌*◌, ◌^◌, ◌<◌, ◌≤◌, List, [], ◌∷◌, ◌++◌, All, length, map as each, slice_index}
use Rattle.std.specs.List.{sum_by}
use Rattle.fg_task.specs.declared.block_result.BlockResult.{BlockResult}
use Rattle.fg_crew.specs.declared.working.Wave.{Wave}
use Rattle.fg_task.specs.Blocks.{Blocks, IsResult}
use Rattle.fg_task.specs.Spending.{Counted}
use Rattle.fg_crew.specs.Wave.{HasRoomForAll, block_at, in_all}
use Rattle.fg_part.specs.PartMap.{block_total}
use Rattle.fg_steal.specs.Claims.{AtMostOnce}

-- what is known of the blocks, how many places each part has, the list, from which place to below which one the wave goes, and how many
-- parts there are
pub record Plan : Type 0 where
  pub blocks : Blocks
  pub counts : List ℕ
  pub list : List ℕ
  pub from : ℕ
  pub to : ℕ
  pub parts : ℕ

abbrev pub plan_of : {B : Type 0} → (B → Blocks) → Wave B → Plan
plan_of blocks wave = record {
  blocks = blocks wave.runner.now;
  counts = wave.claims.counts;
  list = wave.list.now;
  from = wave.from;
  to = wave.to;
  parts = wave.parts;
}

-- Places of a wave, counted from its first one. They are dealt out in turn: part p has p, p + parts, and so on.
abbrev pub place_drawn : ℕ → ℕ × ℕ → ℕ
place_drawn parts draw = draw.1 * parts + draw.0

-- the block that was drawn
abbrev pub block_drawn : Plan → ℕ × ℕ → ℕ
block_drawn plan draw = block_at plan.list (plan.from + place_drawn plan.parts draw)

-- so many places are dealt out to the parts
pub record Deals (counts : List ℕ) (count parts : ℕ) : Type 0 where
  pub some : 0 < parts
  pub one_each : length counts ≡ parts
  pub within : (part k : ℕ) → part < parts → k < slice_index counts part → k * parts + part < count
  pub all : (part k : ℕ) → part < parts → k * parts + part < count → k < slice_index counts part

-- the list is of blocks, and the wave within it, dealt out to the parts
pub record IsDealt (plan : Plan) : Type 0 where
  pub ordered : plan.from ≤ plan.to
  pub inside : plan.to ≤ length plan.list
  pub small : length plan.list < 2 ^ 63
  pub few : plan.parts ≤ 64
  pub deals : Deals plan.counts (plan.to - plan.from) plan.parts
  pub each_block : All (λ (block : ℕ). block < block_total plan.blocks.map) plan.list

-- of draws that have each block at most once there are these results, one of each
pub record AreResults (plan : Plan) (drawn : List (ℕ × ℕ)) (results : List BlockResult) : Type 0 where
  pub once : AtMostOnce plan.counts drawn
  pub same : each (λ (result : BlockResult). result.block) results ≡ each (block_drawn plan) drawn
  pub each_own : All (λ (result : BlockResult). IsResult plan.blocks result.block result) results

-- the result of this block came to those before
pub record AddsResult (blocks : Blocks) (block : ℕ) (before after : List BlockResult) : Type 0 where
  pub result : BlockResult
  pub added : after ≡ before ++ result ∷ []
  pub is : IsResult blocks block result

-- what was counted leaves room for the whole wave
abbrev pub HasRoomFor : Plan → Counted → Type 0
HasRoomFor plan spent = HasRoomForAll plan.blocks plan.list plan.from plan.to spent

-- what a number for each block comes to over what was drawn
abbrev pub in_drawn : Plan → (ℕ → ℕ) → List (ℕ × ℕ) → ℕ
in_drawn plan of drawn = sum_by (λ draw. of (block_drawn plan draw)) drawn

-- with what was counted for draws, there is room for the rest of the wave
pub record WithinRoom (plan : Plan) (spent : Counted) (drawn : List (ℕ × ℕ)) : Type 0 where
  pub for_runs : spent.runs + in_all plan.blocks.active_of plan.list plan.from plan.to < 2 ^ 64 + in_drawn plan plan.blocks.active_of drawn
  pub for_entries : spent.entries + in_all plan.blocks.needed_of plan.list plan.from plan.to < 2 ^ 64 + in_drawn plan plan.blocks.needed_of drawn

-- from the draws before to those after, no more was counted than the blocks between them ask for
pub record SpentOnDraws (plan : Plan) (old new : Counted) (before after : List (ℕ × ℕ)) : Type 0 where
  pub few_runs : new.runs + in_drawn plan plan.blocks.active_of before ≤ old.runs + in_drawn plan plan.blocks.active_of after
  pub few_entries : new.entries + in_drawn plan plan.blocks.needed_of before ≤ old.entries + in_drawn plan plan.blocks.needed_of after
