-- The count of faults of an object of the outside.
use Rattle.std.specs.Prelude.{◌≡◌, ℕ, ◌-◌, ◌^◌, ◌<◌, ◌≤◌, Result, OnOk, OnErr}

-- the count rose; a count at the end of its type stands still there and is read as risen
abbrev pub Rose : ℕ → ℕ → Type 0
Rose old new = old < 2 ^ 64 - 1 → old < new

-- what a call did to the count: it never falls, an answer Ok leaves it, and it rose where the call answers otherwise
pub record Counts {A E : Type 0} (old new : ℕ) (answer : Result A E) : Type 0 where
  pub later : old ≤ new
  pub kept : OnOk answer (new ≡ old)
  pub failed : OnErr answer (Rose old new)
