-- What a run keeps: a fact of the phase and the states that every rise and every finished iteration keep holds at its end.
use Rattle.std.proofs.Common.{◌≡◌, ℕ, zero, suc, ◌+◌, ◌≤◌, Bool, true, false, Option, None, Some, Ok, List, length, refl, sym, ◌∙◌, subst, arith}
use Rattle.fg_base.specs.declared.plain.BadEdge.{BadEdge}
use Rattle.fg_base.specs.declared.plain.VState.{VState}
use Rattle.fg_model.specs.declared.graph.Graph.{Graph}
use Rattle.fg_model.specs.declared.run.End.{End}
use Rattle.fg_model.specs.declared.stand.Stand.{Stand}
use Rattle.fg_model.specs.declared.stand.Stand.TheVariants.{Begins, Rests}
use Rattle.fg_model.specs.Iteration.{after, first_bad}
use Rattle.fg_model.specs.Program.{Rules}
use Rattle.fg_model.specs.Run.{Ending, Run, answer_at, answer_of, from_begun, from_last_stand, from_stand, is_some_active, least_bid_above, led, opening_states, run, run_from, stand, stand_at, stand_from}
use Rattle.fg_model.proofs.StandLemmas.{bids-length, bids_above, least_rises, no_bids}

-- rises and finished iterations keep the fact
pub record IsKept (P : Rules) (graph : Graph) (Kept : ℕ → List VState → Type 0) : Type 0 where
  pub rises : (phase bid : ℕ) (states : List VState) → is_some_active P phase states ≡ false → least_bid_above P phase states ≡ Some bid → Kept phase states → Kept bid states
  pub iterates : (phase : ℕ) (states : List VState) → first_bad P graph phase states ≡ None → Kept phase states → Kept phase (after P graph phase states)

-- where nothing is left to do, no vertex is active and no bid is above the phase
pub record IsAtRest (P : Rules) (phase : ℕ) (states : List VState) : Type 0 where
  pub idle : is_some_active P phase states ≡ false
  pub no_bid : least_bid_above P phase states ≡ None

-- what holds where a run stands
abbrev pub KeptAt : Rules → (ℕ → List VState → Type 0) → List VState → Stand → Type 0
KeptAt P Kept states (Begins phase) = Kept phase states
KeptAt P Kept states (Rests phase) = Kept phase states × IsAtRest P phase states

-- what holds at a run's end
abbrev pub KeptEnd : Rules → (ℕ → List VState → Type 0) → Ending → ℕ → List VState → Type 0
KeptEnd P Kept Ending.Settled phase states = Kept phase states × IsAtRest P phase states
KeptEnd P Kept Ending.Stopped phase states = Kept phase states
KeptEnd P Kept (Ending.Refused begun bad) phase states = Unit {0}

-- the same of the answer
pub record AnswerKept (P : Rules) (Kept : ℕ → List VState → Type 0) (end : End) : Type 0 where
  pub kept : Kept end.phase end.states
  pub rest : end.settled ≡ true → IsAtRest P end.phase end.states

-- one look at the states
stood : (P : Rules) (Kept : ℕ → List VState → Type 0) (phase : ℕ) (states : List VState) (active : Bool) (bid : Option ℕ) (rise : ℕ → Stand)
    → is_some_active P phase states ≡ active → least_bid_above P phase states ≡ bid → Kept phase states
    → ((risen : ℕ) → active ≡ false → bid ≡ Some risen → KeptAt P Kept states (rise risen)) → KeptAt P Kept states (stand_at active phase bid rise)
stood P Kept phase states true bid rise is_active is_bid kept rises = kept
stood P Kept phase states false None rise is_active is_bid kept rises = (kept, record { idle = is_active; no_bid = is_bid })
stood P Kept phase states false (Some risen) rise is_active is_bid kept rises = rises risen refl refl

no_rise : (P : Rules) (phase risen : ℕ) (states : List VState) → bids_above P phase states ≤ 0 → least_bid_above P phase states ≡ Some risen → ⊥
no_rise P phase risen states empty is = let e : None ≡ Some risen = sym (no_bids P phase states empty) ∙ is in cc

-- rise by rise, as long as there are at least as many left as bids above
stand_keeps : (P : Rules) (graph : Graph) (Kept : ℕ → List VState → Type 0) → IsKept P graph Kept → (left phase : ℕ) (states : List VState) → bids_above P phase states ≤ left
    → Kept phase states → KeptAt P Kept states (stand_from left P phase states)
unfolding stand_from
stand_keeps P graph Kept is zero phase states few kept =
    stood P Kept phase states (is_some_active P phase states) (least_bid_above P phase states) (λ bid. Rests phase) refl refl kept
    (λ risen idle is_bid. absurd (no_rise P phase risen states few is_bid))
stand_keeps P graph Kept is (suc left) phase states few kept =
    stood P Kept phase states (is_some_active P phase states) (least_bid_above P phase states) (λ bid. stand_from left P bid states) refl refl kept
    (λ risen idle is_bid. let r = least_rises P phase risen states is_bid in
    stand_keeps P graph Kept is left risen states (omega (arith, r.fewer)) (is.rises phase risen states idle is_bid kept))

stand_kept : (P : Rules) (graph : Graph) (Kept : ℕ → List VState → Type 0) → IsKept P graph Kept → (phase : ℕ) (states : List VState) → Kept phase states → KeptAt P Kept states (stand P phase states)
unfolding stand
stand_kept P graph Kept is phase states kept = stand_keeps P graph Kept is (length states) phase states (bids-length P phase states) kept

-- how a run ends from here
abbrev EndKept : Rules → (ℕ → List VState → Type 0) → Run → Type 0
EndKept P Kept run = KeptEnd P Kept run.ending run.phase run.states

last_kept : (P : Rules) (Kept : ℕ → List VState → Type 0) (number : ℕ) (states : List VState) (at : Stand) → KeptAt P Kept states at → EndKept P Kept (from_last_stand number states at)
last_kept P Kept number states (Rests phase) kept = kept
last_kept P Kept number states (Begins phase) kept = kept

begun_kept : (P : Rules) (graph : Graph) (Kept : ℕ → List VState → Type 0) (number phase : ℕ) (states : List VState) (bad : Option BadEdge) (rest : List VState → Run) → first_bad P graph phase states ≡ bad
    → (first_bad P graph phase states ≡ None → EndKept P Kept (rest (after P graph phase states))) → EndKept P Kept (from_begun P graph number phase states bad rest)
unfolding led
begun_kept P graph Kept number phase states (Some bad) rest is later = tt
begun_kept P graph Kept number phase states None rest is later = later is

from_kept : (P : Rules) (graph : Graph) (Kept : ℕ → List VState → Type 0) → IsKept P graph Kept → (number : ℕ) (states : List VState) (at : Stand) (rest : ℕ → List VState → Run) → KeptAt P Kept states at
    → ((phase : ℕ) → Kept phase (after P graph phase states) → EndKept P Kept (rest phase (after P graph phase states))) → EndKept P Kept (from_stand P graph number states at rest)
from_kept P graph Kept is number states (Rests phase) rest kept later = kept
from_kept P graph Kept is number states (Begins phase) rest kept later =
    begun_kept P graph Kept number phase states (first_bad P graph phase states) (rest phase) refl (λ none. later phase (is.iterates phase states none kept))

run_keeps : (P : Rules) (graph : Graph) (Kept : ℕ → List VState → Type 0) → IsKept P graph Kept → (left number phase : ℕ) (states : List VState) → Kept phase states → EndKept P Kept (run_from P graph left number phase states)
unfolding run_from
run_keeps P graph Kept is zero number phase states kept = last_kept P Kept number states (stand P phase states) (stand_kept P graph Kept is phase states kept)
run_keeps P graph Kept is (suc left) number phase states kept =
    from_kept P graph Kept is number states (stand P phase states) (λ begins next. run_from P graph left (number + 1) begins next) (stand_kept P graph Kept is phase states kept)
    (λ begins next_kept. run_keeps P graph Kept is left (number + 1) begins (after P graph begins states) next_kept)

answered : (P : Rules) (Kept : ℕ → List VState → Type 0) (ending : Ending) (iterations phase : ℕ) (states : List VState) (end : End) → KeptEnd P Kept ending phase states
    → answer_at ending iterations phase states ≡ Ok end → AnswerKept P Kept end
answered P Kept Ending.Settled iterations phase states end kept is =
    let e : (let x : End = record { settled = true; iterations = iterations; phase = phase; states = states } in x) ≡ end = cc in
    subst (AnswerKept P Kept) e (record { kept = kept.0; rest = λ settled. kept.1 })
answered P Kept Ending.Stopped iterations phase states end kept is =
    let e : (let x : End = record { settled = false; iterations = iterations; phase = phase; states = states } in x) ≡ end = cc in
    subst (AnswerKept P Kept) e (record { kept = kept; rest = λ settled. absurd (cc) })
answered P Kept (Ending.Refused begun bad) iterations phase states end kept is = absurd (cc)

pub answer_keeps : (P : Rules) (graph : Graph) (Kept : ℕ → List VState → Type 0) (most : ℕ) (end : End) → IsKept P graph Kept → Kept 0 (opening_states P graph)
    → answer_of (run P graph most) ≡ Ok end → AnswerKept P Kept end
unfolding answer_of run
answer_keeps P graph Kept most end is opens answer =
    let r = run_from P graph most 0 0 (opening_states P graph) in
    answered P Kept r.ending r.iterations r.phase r.states end (run_keeps P graph Kept is most 0 0 (opening_states P graph) opens) answer
