-- What contracts see of a seat, and what it remembers of spent runs.
use Rattle.std.specs.Prelude.{◌≡◌, ◌⊎◌, ℕ, ◌<◌, Bool, true, false, List, [], ◌∷◌, length, map, slice_index_or}
use Rattle.std.specs.List.{Contains}
use Rattle.atomic_table.specs.Seated.{TableId}
use Rattle.fg_steal.specs.declared.view.View.{View}
use Rattle.fg_steal.specs.Claims.{ClaimsValue, claims_of}
use Rattle.fg_steal.specs.Run.{run_lengths, block_at, spent_parts}

-- which claims a seat is of, its number, the blocks that it drew, each as its part and its number there, the runs that it
-- was told are spent, the last one first, and the parts of which it was told that none is left
pub record SeatValue : Type 0 where
  pub claims : ClaimsValue
  pub number : ℕ
  pub drawn : List (ℕ × ℕ)
  pub spent : List ℕ
  pub told : List ℕ

-- a seat that drew nothing and was told nothing
abbrev pub fresh_seat : ClaimsValue → ℕ → SeatValue
fresh_seat claims number = record { claims = claims; number = number; drawn = []; spent = []; told = [] }

-- what a seat of this number sees, whose place at the table of words has this view
abbrev pub seat_of : TableId → ℕ → View → SeatValue
seat_of table number v = record {
  claims = claims_of table v.counts v.seats;
  number = number;
  drawn = map (block_at v.counts) v.drawn;
  spent = v.spent;
  told = spent_parts v.counts v.spent;
}

-- a flag for each run: set where the run is among the spent ones
pub record IsMarked (flags : List Bool) (spent : List ℕ) : Type 0 where
  pub set : (run : ℕ) (d : Bool) → run < length flags → slice_index_or flags run d ≡ true → Contains spent run
  pub clear : (run : ℕ) (d : Bool) → run < length flags → slice_index_or flags run d ≡ false → ¬ Contains spent run

-- after a seat was told of a run, now or before
abbrev pub IsToldOf : ℕ → List ℕ → List ℕ → Type 0
IsToldOf run before after = (Contains before run × (after ≡ before)) ⊎ ((¬ Contains before run) × (after ≡ run ∷ before))

-- a seat that was told of each part that none is left
abbrev pub WasToldOfAll : List ℕ → SeatValue → Type 0
WasToldOfAll counts seat = (part : ℕ) → part < length counts → Contains seat.told part

-- a seat's flags mark, among all runs, those that it was told are spent
abbrev pub Remembers : View → List Bool → Type 0
Remembers v flags = (length flags ≡ length (run_lengths v.counts)) × IsMarked flags v.spent
