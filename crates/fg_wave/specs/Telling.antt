-- The first bad edge of many blocks.
use Rattle.std.specs.Prelude.{◌≡◌, ℕ, ◌≤◌, Option, None, Some, List, [], ◌∷◌, All, IsSome}
use Rattle.std.specs.List.{Contains}
use Rattle.fg_base.specs.declared.plain.BadEdge.{BadEdge}
use Rattle.fg_task.specs.declared.block_result.BlockResult.{BlockResult}
use Rattle.fg_task.specs.Spending.{NoneBad}
use Rattle.fg_wave.specs.declared.telling.Found.{Found}

-- the first of these that is there
abbrev pub first_some : {X : Type 0} → List (Option X) → Option X
first_some [] = None
first_some (None ∷ rest) = first_some rest
first_some (Some x ∷ rest) = Some x

-- a block has this bad edge, and none of a lesser number has one
pub record IsLeastOf (results : List BlockResult) (block : ℕ) (bad : BadEdge) : Type 0 where
  pub result : BlockResult
  pub among : Contains results result
  pub own : result.block ≡ block
  pub edge : result.bad ≡ Some bad
  pub least : All (λ (other : BlockResult). IsSome other.bad → block ≤ other.block) results

-- the bad edge of the least block that has one
abbrev pub IsLeastFound : List BlockResult → Option Found → Type 0
IsLeastFound results None = NoneBad results
IsLeastFound results (Some found) = IsLeastOf results found.block found.bad

-- the same where the block isn't told
abbrev pub IsLeastBadOf : List BlockResult → Option BadEdge → Type 0
IsLeastBadOf results None = NoneBad results
IsLeastBadOf results (Some bad) = (block : ℕ) × IsLeastOf results block bad
