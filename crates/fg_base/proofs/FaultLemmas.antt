-- The count of faults over several calls.
use Rattle.std.proofs.Common.{◌≡◌, ℕ, ◌≤◌, Result, arith, subst}
use Rattle.fg_base.specs.Faults.{Rose, Counts}

-- a call that left the count, and then another call
pub counts_on : {A E : Type 0} (old between new : ℕ) (answer : Result A E) →
    between ≡ old → Counts between new answer → Counts old new answer
counts_on {A} {E} old between new answer kept counts =
    let P : ℕ → Type 0 = λ count. Counts count new answer in subst P kept counts

-- a count that rose stays risen
pub rose_and_later : (old between new : ℕ) → Rose old between → between ≤ new → Rose old new
rose_and_later old between new rose later = λ below. omega (arith, rose below)
