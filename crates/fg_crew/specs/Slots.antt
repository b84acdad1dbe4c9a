-- What a worker has in its slot, before a wave and after it.
use Rattle.std.specs.Prelude.{◌≡◌, ℕ, ◌<◌, Option, None, Some, Result, Ok, Err, List, [], ◌∷◌, IfErr, OnOk, length, slice_index_or}
use Rattle.fg_task.specs.declared.block_result.BlockResult.{BlockResult}
use Rattle.fg_task.specs.declared.block_result.WorkFault.{WorkFault}
use Rattle.fg_crew.specs.declared.slot.Desk.{Desk}
use Rattle.fg_crew.specs.declared.slot.Slot.{Slot}
use Rattle.fg_crew.specs.declared.working.Wave.{Wave}
use Rattle.fg_task.specs.Blocks.{Blocks, HasCause}
use Rattle.fg_crew.specs.Claimed.{AreResults, HasRoomFor, Plan, SpentOnDraws, plan_of}
use Rattle.fg_task.specs.Spending.{Counted, SpentOnMore}
use Rattle.fg_steal.specs.Claims.{ClaimsValue}
use Rattle.fg_steal.specs.Seat.{SeatValue, WasToldOfAll, fresh_seat}

-- there is one, of which this holds
abbrev pub Has : {X : Type 0} → (X → Type 0) → Option X → Type 0
Has P None = ⊥
Has P (Some x) = P x

-- nothing was drawn, and there are no results
pub record IsFresh {F : Type 0} (claims : ClaimsValue) (desk : Desk F) : Type 0 where
  pub seat : desk.seat ≡ fresh_seat claims desk.seat.number
  pub none : desk.results.items ≡ []

-- A worker that ended without a fault was told of each part that none is left, and has the results of all that it drew.
pub record HasFinished {F : Type 0} (plan : Plan) (old new : Counted) (desk : Desk F) : Type 0 where
  pub told : WasToldOfAll plan.counts desk.seat
  pub results : AreResults plan desk.seat.drawn desk.results.items
  pub exact : SpentOnMore plan.blocks old new [] desk.results.items

-- How a worker ended. Whether it failed or not, it counted no more than what it drew asks for.
pub record HasEnded {F : Type 0} (plan : Plan) (claims : ClaimsValue) (caused : F → Type 0) (old new : Counted) (desk : Desk F) : Type 0 where
  pub own : desk.seat.claims ≡ claims
  pub few : SpentOnDraws plan old new [] desk.seat.drawn
  pub ok : OnOk desk.end (HasFinished plan old new desk)
  pub fault : IfErr desk.end (HasCause caused)

-- a worker's slot before a wave: its seat is fresh, and what it kept has room for the whole wave
pub record IsReady {K F : Type 0} (plan : Plan) (claims : ClaimsValue) (lends : K → Type 0) (spent : K → Counted) (slot : Slot K F) : Type 0 where
  pub desk : Has (IsFresh claims) slot.desk
  pub lent : lends slot.kept
  pub room : HasRoomFor plan (spent slot.kept)

-- and after it
pub record HasWorked {K F : Type 0} (plan : Plan) (claims : ClaimsValue) (lends : K → Type 0) (spent : K → Counted) (caused : F → Type 0) (old new : Slot K F) : Type 0 where
  pub desk : Has (HasEnded plan claims caused (spent old.kept) (spent new.kept)) new.desk
  pub lent : lends new.kept

-- all slots, each in its place
pub record AllHaveWorked {K F : Type 0} (plan : Plan) (claims : ClaimsValue) (lends : K → Type 0) (spent : K → Counted) (caused : F → Type 0) (old new : List (Slot K F)) : Type 0 where
  pub count : length new ≡ length old
  pub each : (k : ℕ) (d : Slot K F) → k < length old → HasWorked plan claims lends spent caused (slice_index_or old k d) (slice_index_or new k d)

-- the same of those who work on this wave
abbrev pub HasWorkedOn : {B K F : Type 0} → (B → Blocks) → (B → K → Type 0) → (K → Counted) → (B → F → Type 0) → Wave B → Slot K F → Slot K F → Type 0
HasWorkedOn blocks lends spent caused wave old new =
    HasWorked (plan_of blocks wave) wave.claims (lends wave.runner.now) spent (caused wave.runner.now) old new

abbrev pub AllHaveWorkedOn : {B K F : Type 0} → (B → Blocks) → (B → K → Type 0) → (K → Counted) → (B → F → Type 0) → Wave B → List (Slot K F) → List (Slot K F) → Type 0
AllHaveWorkedOn blocks lends spent caused wave old new =
    AllHaveWorked (plan_of blocks wave) wave.claims (lends wave.runner.now) spent (caused wave.runner.now) old new

-- a fault of the worker, if it had one, has a cause
abbrev pub FaultHasCause : {K F : Type 0} → (F → Type 0) → Slot K F → Type 0
FaultHasCause caused slot = Has (λ (desk : Desk _). IfErr desk.end (HasCause caused)) slot.desk

-- the worker had none
abbrev pub HasEndedWell : {K F : Type 0} → Slot K F → Type 0
HasEndedWell slot = Has (λ (desk : Desk _). desk.end ≡ Ok tt) slot.desk

-- the seat at a desk, if there is one
abbrev pub desk_seat : {F : Type 0} → Option (Desk F) → List SeatValue
desk_seat None = []
desk_seat (Some desk) = desk.seat ∷ []

abbrev pub desk_results : {F : Type 0} → Option (Desk F) → List BlockResult
desk_results None = []
desk_results (Some desk) = desk.results.items

-- the seat at a slot, and the results that lie there
abbrev pub seat_at : {K F : Type 0} → Slot K F → List SeatValue
seat_at slot = desk_seat slot.desk

abbrev pub results_at : {K F : Type 0} → Slot K F → List BlockResult
results_at slot = desk_results slot.desk

-- the worse of two ends: a fault of what runs blocks before want of memory, and that before a good end; of two alike the first
abbrev pub worse_of : {F : Type 0} → Result (Unit {0}) (WorkFault F) → Result (Unit {0}) (WorkFault F) → Result (Unit {0}) (WorkFault F)
worse_of (Ok done) next = next
worse_of (Err (WorkFault.Fault fault)) next = Err (WorkFault.Fault fault)
worse_of (Err WorkFault.Memory) (Ok done) = Err WorkFault.Memory
worse_of (Err WorkFault.Memory) (Err WorkFault.Memory) = Err WorkFault.Memory
worse_of (Err WorkFault.Memory) (Err (WorkFault.Fault fault)) = Err (WorkFault.Fault fault)
