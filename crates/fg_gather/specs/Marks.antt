-- Marks of blocks: whether a vertex of the block is awake.
use Rattle.std.specs.Prelude.{◌≡◌, ℕ, ◌<◌, true, false, Bool, List, length, slice_index_or}
use Rattle.fg_base.specs.declared.plain.VState.{VState}
use Rattle.fg_gather.specs.Arrivals.{Arrivals}
use Rattle.fg_gather.specs.Gather.{KeepsOthers}
use Rattle.fg_model.specs.Iteration.{state_at}
use Rattle.fg_model.specs.Program.{Rules}
use Rattle.fg_model.specs.Run.{is_some_active}
use Rattle.fg_part.specs.declared.part_map.PartMap.{PartMap}
use Rattle.fg_part.specs.PartMap.{StandsIn, block_total}

-- a vertex of the block is awake
pub record HasAwake (P : Rules) (map : PartMap) (phase : ℕ) (states : List VState) (b : ℕ) : Type 0 where
  pub vertex : ℕ
  pub stands : StandsIn map b vertex
  pub awake : P.wake phase (state_at states vertex) ≡ true

-- the mark of a block says whether one is
pub record IsMark (P : Rules) (map : PartMap) (phase : ℕ) (states : List VState) (b : ℕ) (mark : Bool) : Type 0 where
  pub set : mark ≡ true → HasAwake P map phase states b
  pub clear : mark ≡ false → (v : ℕ) → StandsIn map b v → P.wake phase (state_at states v) ≡ false

-- the mark of a block made again after a gather: right for the states after it where it was for those before
abbrev pub IsMadeAgain : {X : Type 0} → Rules → Arrivals X → ℕ → List VState → ℕ → Bool → Bool → Type 0
IsMadeAgain P inboxes phase new b before after = (old : List VState) → IsMark P inboxes.map phase old b before
    → KeepsOthers P inboxes.map phase inboxes.parts old new → IsMark P inboxes.map phase new b after

-- each block has its mark
pub record AreMarks (P : Rules) (map : PartMap) (phase : ℕ) (states : List VState) (marks : List Bool) : Type 0 where
  pub one_each : length marks ≡ block_total map
  pub each : (b : ℕ) → b < block_total map → IsMark P map phase states b (slice_index_or marks b false)

-- the marks made again after a gather
abbrev pub AreMadeAgain : {X : Type 0} → Rules → Arrivals X → ℕ → List VState → List Bool → List Bool → Type 0
AreMadeAgain P inboxes phase new before after = (old : List VState) → AreMarks P inboxes.map phase old before
    → KeepsOthers P inboxes.map phase inboxes.parts old new → AreMarks P inboxes.map phase new after

-- whatever they are the marks for: whether a vertex is active
abbrev pub TellsActive : List Bool → Bool → Type 0
TellsActive marks answer = (P : Rules) (map : PartMap) (phase : ℕ) (states : List VState) → length states ≡ map.n
    → AreMarks P map phase states marks → answer ≡ is_some_active P phase states
