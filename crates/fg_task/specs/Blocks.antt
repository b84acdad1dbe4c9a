-- What is known of blocks before they are run, and what is the result of one.
use Rattle.std.specs.Prelude.{◌≡◌, ℕ, ◌^◌, ◌<◌, ◌≤◌, Bool, true, Option, None, List, All, IsPermutation, length}
use Rattle.fg_base.specs.declared.plain.BadEdge.{BadEdge}
use Rattle.fg_batch.specs.Outbox.{IsForItsPart, mail_in}
use Rattle.fg_task.specs.declared.block_result.BlockResult.{BlockResult}
use Rattle.fg_task.specs.declared.block_result.WorkFault.{WorkFault}
use Rattle.fg_model.specs.declared.mail.Mail.{Mail}
use Rattle.fg_part.specs.declared.part_map.PartMap.{PartMap}

-- Of each block: the messages that it sends to vertices, how many of its vertices are active, how many entries these need, the first of them that
-- leads to no vertex, and on how many pages they stand. Where the entries aren't known, messages and bad edges are anything.
pub record Blocks : Type 0 where
  pub map : PartMap
  pub knows : Bool
  pub mail_of : ℕ → List Mail
  pub active_of : ℕ → ℕ
  pub needed_of : ℕ → ℕ
  pub bad_of : ℕ → Option BadEdge
  pub visits_of : ℕ → ℕ

-- the messages of a result
abbrev pub mail_of : BlockResult → List Mail
mail_of result = mail_in result.batches.items

-- The result of the block. Where it has a bad edge, its messages are those along its other entries.
pub record IsResult (blocks : Blocks) (block : ℕ) (result : BlockResult) : Type 0 where
  pub own : result.block ≡ block
  pub cut : All (IsForItsPart blocks.map) result.batches.items
  pub fits : All (λ (mail : Mail). mail.message < 2 ^ 64) (mail_of result)
  pub active : result.active ≡ blocks.active_of block
  pub sent : result.sent ≡ length (mail_of result)
  pub few_sent : result.sent ≤ blocks.needed_of block
  pub all_sent : result.bad ≡ None → result.sent ≡ blocks.needed_of block
  pub bad : blocks.knows ≡ true → result.bad ≡ blocks.bad_of block
  pub messages : blocks.knows ≡ true → IsPermutation (blocks.mail_of block) (mail_of result)

-- a fault of the runner has a cause; want of memory has none
abbrev pub HasCause : {F : Type 0} → (F → Type 0) → WorkFault F → Type 0
HasCause caused WorkFault.Memory = Unit {0}
HasCause caused (WorkFault.Fault fault) = caused fault
