-- Where a run settles, what each iteration keeps holds, and no vertex is active.
use Rattle.std.proofs.Common.{◌≡◌, ℕ, zero, suc, ◌+◌, ◌≤◌, Bool, true, false, Option, None, Some, List, refl, arith}
use Rattle.fg_base.specs.declared.plain.BadEdge.{BadEdge}
use Rattle.fg_base.specs.declared.plain.VState.{VState}
use Rattle.fg_model.specs.declared.graph.Graph.{Graph}
use Rattle.fg_model.specs.declared.stand.Stand.{Stand}
use Rattle.fg_model.specs.declared.stand.Stand.TheVariants.{Begins, Rests}
use Rattle.fg_model.specs.Iteration.{after, first_bad}
use Rattle.fg_model.specs.Program.{Rules}
use Rattle.fg_model.specs.Run.{Ending, Run, from_begun, from_last_stand, from_stand, is_some_active, least_bid_above, led, run_from, stand, stand_at, stand_from}
use Rattle.fg_model.proofs.Each.{Each}

-- a fact of so many iterations holds of these states, and no vertex is active
pub record HoldsAtRest (P : Rules) (Kept : ℕ → List VState → Type 0) (limit : ℕ) (states : List VState) : Type 0 where
  pub iterations : ℕ
  pub few : iterations ≤ limit
  pub kept : Kept iterations states
  pub phase : ℕ
  pub idle : is_some_active P phase states ≡ false

idle_at : (active : Bool) (phase last : ℕ) (bid : Option ℕ) (rise : ℕ → Stand) → stand_at active phase bid rise ≡ Rests last → active ≡ false
idle_at true phase last bid rise is = absurd (cc)
idle_at false phase last bid rise is = refl

idle_from : (rises : ℕ) (P : Rules) (phase last : ℕ) (states : List VState) → stand_from rises P phase states ≡ Rests last → is_some_active P phase states ≡ false
unfolding stand_from
idle_from zero P phase last states is = idle_at (is_some_active P phase states) phase last (least_bid_above P phase states) (λ bid. Rests phase) is
idle_from (suc rises) P phase last states is = idle_at (is_some_active P phase states) phase last (least_bid_above P phase states) (λ bid. stand_from rises P bid states) is

idle : (P : Rules) (phase last : ℕ) (states : List VState) → stand P phase states ≡ Rests last → is_some_active P phase states ≡ false
unfolding stand
idle P phase last states is = idle_from _ P phase last states is

-- the last stand
last_stand : (P : Rules) (Kept : ℕ → List VState → Type 0) (limit number phase : ℕ) (states : List VState) (at : Stand) → stand P phase states ≡ at → number ≤ limit → Kept number states
    → (from_last_stand number states at).ending ≡ Ending.Settled → HoldsAtRest P Kept limit (from_last_stand number states at).states
last_stand P Kept limit number phase states (Rests last) is few kept settled = record { iterations = number; few = few; kept = kept; phase = phase; idle = idle P phase last states is }
last_stand P Kept limit number phase states (Begins last) is few kept settled = absurd (cc)

-- an iteration that began
begun_next : (P : Rules) (graph : Graph) (Kept : ℕ → List VState → Type 0) (limit number phase : ℕ) (states : List VState) (bad : Option BadEdge) (rest : List VState → Run)
    → ((rest (after P graph phase states)).ending ≡ Ending.Settled → HoldsAtRest P Kept limit (rest (after P graph phase states)).states)
    → (from_begun P graph number phase states bad rest).ending ≡ Ending.Settled → HoldsAtRest P Kept limit (from_begun P graph number phase states bad rest).states
unfolding led
begun_next P graph Kept limit number phase states (Some bad) rest later settled = absurd (cc)
begun_next P graph Kept limit number phase states None rest later settled = later settled

stand_next : (P : Rules) (graph : Graph) (Kept : ℕ → List VState → Type 0) (limit number phase : ℕ) (states : List VState) (at : Stand) (rest : ℕ → List VState → Run) → stand P phase states ≡ at → number ≤ limit → Kept number states
    → ((begins : ℕ) → (rest begins (after P graph begins states)).ending ≡ Ending.Settled → HoldsAtRest P Kept limit (rest begins (after P graph begins states)).states)
    → (from_stand P graph number states at rest).ending ≡ Ending.Settled → HoldsAtRest P Kept limit (from_stand P graph number states at rest).states
stand_next P graph Kept limit number phase states (Rests last) rest is few kept later settled = record { iterations = number; few = few; kept = kept; phase = phase; idle = idle P phase last states is }
stand_next P graph Kept limit number phase states (Begins begins) rest is few kept later settled =
    begun_next P graph Kept limit number begins states (first_bad P graph begins states) (rest begins) (later begins) settled

pub settles : (P : Rules) (graph : Graph) (Kept : ℕ → List VState → Type 0) (limit : ℕ)
    → ((number phase : ℕ) (states : List VState) → Kept number states → Kept (number + 1) (after P graph phase states))
    → (left number phase : ℕ) (states : List VState) → number + left ≤ limit → Kept number states
    → (run_from P graph left number phase states).ending ≡ Ending.Settled → HoldsAtRest P Kept limit (run_from P graph left number phase states).states
unfolding run_from
settles P graph Kept limit keeps zero number phase states few kept settled = last_stand P Kept limit number phase states (stand P phase states) refl (omega arith) kept settled
settles P graph Kept limit keeps (suc left) number phase states few kept settled =
    stand_next P graph Kept limit number phase states (stand P phase states) (λ begins next. run_from P graph left (number + 1) begins next) refl (omega arith) kept
    (λ begins later. settles P graph Kept limit keeps left (number + 1) begins (after P graph begins states) (omega arith) (keeps number begins states kept) later) settled

-- every finished iteration leaves states with what follows from what is kept
begun_all : (P : Rules) (graph : Graph) (Q : List VState → Type 0) (number phase : ℕ) (states : List VState) (bad : Option BadEdge) (rest : List VState → Run) → Q (after P graph phase states)
    → Each (λ finished. Q finished.states) (rest (after P graph phase states)).finished → Each (λ finished. Q finished.states) (from_begun P graph number phase states bad rest).finished
unfolding led
begun_all P graph Q number phase states (Some bad) rest here later = tt
begun_all P graph Q number phase states None rest here later = (here, later)

stand_all : (P : Rules) (graph : Graph) (Q : List VState → Type 0) (number : ℕ) (states : List VState) (at : Stand) (rest : ℕ → List VState → Run) → ((begins : ℕ) → Q (after P graph begins states))
    → ((begins : ℕ) → Each (λ finished. Q finished.states) (rest begins (after P graph begins states)).finished) → Each (λ finished. Q finished.states) (from_stand P graph number states at rest).finished
stand_all P graph Q number states (Rests last) rest here later = tt
stand_all P graph Q number states (Begins begins) rest here later = begun_all P graph Q number begins states (first_bad P graph begins states) (rest begins) (here begins) (later begins)

last_all : (Q : List VState → Type 0) (number : ℕ) (states : List VState) (at : Stand) → Each (λ finished. Q finished.states) (from_last_stand number states at).finished
last_all Q number states (Rests last) = tt
last_all Q number states (Begins last) = tt

pub finishes : (P : Rules) (graph : Graph) (Kept : ℕ → List VState → Type 0) (Q : List VState → Type 0) (limit : ℕ)
    → ((number phase : ℕ) (states : List VState) → Kept number states → Kept (number + 1) (after P graph phase states))
    → ((number : ℕ) (states : List VState) → number ≤ limit → Kept number states → Q states)
    → (left number phase : ℕ) (states : List VState) → number + left ≤ limit → Kept number states
    → Each (λ finished. Q finished.states) (run_from P graph left number phase states).finished
unfolding run_from
finishes P graph Kept Q limit keeps gives zero number phase states few kept = last_all Q number states (stand P phase states)
finishes P graph Kept Q limit keeps gives (suc left) number phase states few kept =
    stand_all P graph Q number states (stand P phase states) (λ begins next. run_from P graph left (number + 1) begins next)
    (λ begins. gives (number + 1) (after P graph begins states) (omega arith) (keeps number begins states kept))
    (λ begins. finishes P graph Kept Q limit keeps gives left (number + 1) begins (after P graph begins states) (omega arith) (keeps number begins states kept))
