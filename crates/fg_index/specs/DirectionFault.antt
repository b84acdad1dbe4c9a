-- Why a direction wasn't read.
use Rattle.std.specs.Prelude.{◌≡◌, ℕ, Result, Err, List, ◌+◌}
use Rattle.fg_base.specs.declared.plain.Dir.{Dir}
use Rattle.fg_base.specs.declared.refusal.Refusal.{Refusal}
use Rattle.fg_base.specs.declared.refusal.Refusal.TheVariants.{BadIndex, Memory as WantOfMemory}
use Rattle.fg_index.specs.declared.direction.DirectionFault.{DirectionFault}
use Rattle.fg_index.specs.declared.direction.DirectionFault.TheVariants.{Memory, At}

-- the fault is the one that was found; want of memory has no cause here
abbrev pub IsAt : Result (List ℕ) ℕ → DirectionFault → Type 0
IsAt found Memory = Unit {0}
IsAt found (At place) = found ≡ Err place

-- the fault of a direction that begins at this place
abbrev pub index_fault : Dir → ℕ → DirectionFault → Refusal
index_fault dir start Memory = WantOfMemory
index_fault dir start (At place) = BadIndex dir (start + place)
