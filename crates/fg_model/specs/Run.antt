-- A whole synchronous run as a function of the program, the graph and the most iterations.
use Rattle.std.specs.Prelude.{◌≡◌, ℕ, zero, suc, ◌+◌, nat_lt, min, Bool, true, false, Option, Some, None, Result, Ok, Err, List, [], ◌∷◌, ◌++◌, if◌then◌else◌, length, map, sum_by}
use Rattle.std.specs.List.{filter_map, list_any, range_with_len}
use Rattle.fg_base.specs.declared.plain.BadEdge.{BadEdge}
use Rattle.fg_base.specs.declared.plain.VState.{VState}
use Rattle.fg_model.specs.declared.graph.Graph.{Graph}
use Rattle.fg_model.specs.declared.run.End.{End}
use Rattle.fg_model.specs.declared.run.RunFault.{RunFault}
use Rattle.fg_model.specs.declared.stand.Stand.{Stand}
use Rattle.fg_model.specs.declared.stand.Stand.TheVariants.{Begins, Rests}
use Rattle.fg_model.specs.Graph.{row}
use Rattle.fg_model.specs.Iteration.{Begun, begun_at, first_bad, after}
use Rattle.fg_model.specs.Program.{Rules}

-- the opening states, from each vertex's two degrees
unfoldable pub opening_states : Rules → Graph → List VState
opening_states P graph = map (λ v. P.init v (length (row graph.outs v)) (length (row graph.ins v))) (range_with_len 0 graph.n)

-- the lesser of two numbers, where both are there
abbrev pub lesser : Option ℕ → Option ℕ → Option ℕ
lesser None other = other
lesser (Some x) None = Some x
lesser (Some x) (Some y) = Some (min x y)

-- the least number of a list
abbrev pub least : List ℕ → Option ℕ
least [] = None
least (x ∷ xs) = lesser (Some x) (least xs)

-- a bid, where it is above the phase
abbrev pub bid_above : ℕ → Option ℕ → Option ℕ
bid_above phase None = None
bid_above phase (Some bid) = if nat_lt phase bid then Some bid else None

-- the least bid above the phase
abbrev pub least_bid_above : Rules → ℕ → List VState → Option ℕ
least_bid_above P phase states = least (filter_map (λ s. bid_above phase (P.bid s)) states)

-- where a run stands before an iteration: with an active vertex an iteration begins; without one and without a bid nothing is left; else the phase rises
abbrev pub stand_at : Bool → ℕ → Option ℕ → (ℕ → Stand) → Stand
stand_at true phase bid rise = Begins phase
stand_at false phase None rise = Rests phase
stand_at false phase (Some bid) rise = rise bid

-- whether some vertex is active
abbrev pub is_some_active : Rules → ℕ → List VState → Bool
is_some_active P phase states = list_any (P.wake phase) states

-- while no vertex is active the phase becomes the least bid above it, at most `rises` times
unfoldable pub stand_from : ℕ → Rules → ℕ → List VState → Stand
stand_from zero P phase states = stand_at (is_some_active P phase states) phase (least_bid_above P phase states) (λ bid. Rests phase)
stand_from (suc rises) P phase states = stand_at (is_some_active P phase states) phase (least_bid_above P phase states) (λ bid. stand_from rises P bid states)

-- the same without a bound: each rise leaves a vertex's bid behind, so as many rises as there are vertices are enough,
-- and where the run rests no bid is above the phase
unfoldable pub stand : Rules → ℕ → List VState → Stand
stand P phase states = stand_from (length states) P phase states

-- where a run rests, no vertex is active and no bid is above the phase
abbrev pub IsRest : Rules → List VState → Stand → Type 0
IsRest P states (Begins phase) = is_some_active P phase states ≡ true
IsRest P states (Rests phase) = (is_some_active P phase states ≡ false) × (least_bid_above P phase states ≡ None)

-- a finished iteration: its number, what began, and the states after it
pub record Finished : Type 0 where
  pub number : ℕ
  pub begun : Begun
  pub states : List VState

-- how a run ends: nothing is left to do, the most iterations were done, or an iteration that began meets a bad edge
pub data Ending : Type 0 where
  Settled : Ending
  Stopped : Ending
  Refused : Begun → BadEdge → Ending

-- a run: its finished iterations, and its end with the number of these, the phase and the last states
pub record Run : Type 0 where
  pub finished : List Finished
  pub ending : Ending
  pub iterations : ℕ
  pub phase : ℕ
  pub states : List VState

-- a run that ends before a further iteration is finished
abbrev pub ended : Ending → ℕ → ℕ → List VState → Run
ended ending number phase states = record { finished = []; ending = ending; iterations = number; phase = phase; states = states }

-- a run with finished iterations put before it
unfoldable pub led : List Finished → Run → Run
led first run = record { finished = first ++ run.finished; ending = run.ending; iterations = run.iterations; phase = run.phase; states = run.states }

-- a run from an iteration on that began with this first bad edge; `rest` is what follows where there is none
abbrev pub from_begun : Rules → Graph → ℕ → ℕ → List VState → Option BadEdge → (List VState → Run) → Run
from_begun P graph number phase states (Some bad) rest = ended (Refused (begun_at P graph phase states) bad) number phase states
from_begun P graph number phase states None rest =
    let next = after P graph phase states in
    led (record { number = number; begun = begun_at P graph phase states; states = next } ∷ []) (rest next)

-- a run from a stand on, with at least one iteration left
abbrev pub from_stand : Rules → Graph → ℕ → List VState → Stand → (ℕ → List VState → Run) → Run
from_stand P graph number states (Rests phase) rest = ended Settled number phase states
from_stand P graph number states (Begins phase) rest = from_begun P graph number phase states (first_bad P graph phase states) (rest phase)

-- a run from a stand on, with no iteration left
abbrev pub from_last_stand : ℕ → List VState → Stand → Run
from_last_stand number states (Rests phase) = ended Settled number phase states
from_last_stand number states (Begins phase) = ended Stopped number phase states

-- the end of a run with no iteration left, from a stand on
abbrev pub last_end : ℕ → List VState → Stand → End
last_end number states (Rests phase) = record { settled = true; iterations = number; phase = phase; states = states }
last_end number states (Begins phase) = record { settled = false; iterations = number; phase = phase; states = states }

-- a run with so many iterations left, so many done, and a phase and states
unfoldable pub run_from : Rules → Graph → ℕ → ℕ → ℕ → List VState → Run
run_from P graph zero number phase states = from_last_stand number states (stand P phase states)
run_from P graph (suc left) number phase states =
    from_stand P graph number states (stand P phase states) (λ begins next. run_from P graph left (number + 1) begins next)

-- the run of a program on a graph, with at most `most` iterations
unfoldable pub run : Rules → Graph → ℕ → Run
run P graph most = run_from P graph most 0 0 (opening_states P graph)

-- the iteration that began and wasn't finished
abbrev pub begun_last : Ending → List Begun
begun_last Settled = []
begun_last Stopped = []
begun_last (Refused begun bad) = begun ∷ []

-- all iterations that began, in order
unfoldable pub begun_of : Run → List Begun
begun_of run = map (λ finished. finished.begun) run.finished ++ begun_last run.ending

-- how many vertices ran in the finished iterations, and over how many entries
abbrev pub runs_of : List Finished → ℕ
runs_of finished = sum_by (λ iteration. length iteration.begun.active) finished

abbrev pub entries_of : List Finished → ℕ
entries_of finished = sum_by (λ iteration. iteration.begun.messages) finished

-- what a call answers for a run where memory suffices and the outside doesn't fail
abbrev pub answer_at : Ending → ℕ → ℕ → List VState → Result End RunFault
answer_at Settled iterations phase states = Ok (record { settled = true; iterations = iterations; phase = phase; states = states })
answer_at Stopped iterations phase states = Ok (record { settled = false; iterations = iterations; phase = phase; states = states })
answer_at (Refused begun bad) iterations phase states = Err (RunFault.BadEdge bad)

unfoldable pub answer_of : Run → Result End RunFault
answer_of run = answer_at run.ending run.iterations run.phase run.states
