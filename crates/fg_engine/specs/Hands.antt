-- What the workers of a run keep.
use Rattle.std.specs.Prelude.{◌≡◌, ℕ, Option, None, Some, List, All}
use Rattle.fg_books.specs.Shares.{BooksId}
use Rattle.fg_cache.specs.Slips.{FaultOf}
use Rattle.fg_cache.specs.Site.{Site}
use Rattle.fg_crew.specs.declared.slot.Slot.{Slot}
use Rattle.fg_iter.specs.Crew.{IsSettled}
use Rattle.fg_part.specs.declared.part_map.PartMap.{PartMap}
use Rattle.fg_worker.specs.declared.hand.Hand.{Hand}
use Rattle.fg_worker.specs.Hand.{IsHand, IsPassHeld, counted_by}

-- each worker has a pass of this cache and an empty outbox over this map
abbrev pub AreHands : {T F : Type 0} → Site → PartMap → List (Slot (Hand T) F) → Type 0
AreHands {T} {F} site map slots = All (λ (slot : Slot (Hand T) F). IsHand site map slot.kept) slots

-- no worker counted anything that was not moved away
abbrev pub AreSettled : {T F : Type 0} → (T → ℕ) → (T → ℕ) → List (Slot (Hand T) F) → Type 0
AreSettled {T} {F} runs entries slots = All (λ (slot : Slot (Hand T) F). IsSettled (counted_by runs entries slot.kept)) slots

-- each worker has a pass of this cache
abbrev pub HavePasses : {T F : Type 0} → Site → List (Slot (Hand T) F) → Type 0
HavePasses {T} {F} site slots = All (λ (slot : Slot (Hand T) F). IsPassHeld site slot.kept.pass) slots

-- the share, if there is one, is of these books
abbrev pub IsShareOf : BooksId → Option FaultOf → Type 0
IsShareOf books None = Unit {0}
IsShareOf books (Some share) = share.books ≡ books
