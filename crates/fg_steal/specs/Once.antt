-- The rule of the claims' table, and what each kind of step makes of a view.
use Rattle.std.specs.Prelude.{◌≡◌, ℕ, ◌+◌, ◌-◌, ◌^◌, ◌<◌, ◌≤◌, min, List, [], ◌∷◌, ◌++◌, length, slice_index}
use Rattle.std.specs.List.{sum_by}
use mathlib.Core.Option.{some}
use lib.ListN.{get_elem?}
use Rattle.fg_steal.specs.declared.view.Plan.{Plan}
use Rattle.fg_steal.specs.declared.view.View.{View}
use Rattle.fg_steal.specs.Claims.{times_drawn}
use Rattle.fg_steal.specs.Run.{run_lengths, run_length, times_in}

abbrev pub view_of : List ℕ → ℕ → ℕ → List (ℕ × ℕ) → List ℕ → View
view_of counts seats stands_for drawn spent = record { counts = counts; seats = seats; stands_for = stands_for; drawn = drawn; spent = spent }

-- the first view stands for all seats
abbrev pub opening_view : List ℕ → ℕ → View
opening_view counts seats = view_of counts seats seats [] []

-- a split: one seat goes, which has drawn nothing and was told nothing
abbrev pub one_less : View → View
one_less v = view_of v.counts v.seats (v.stands_for - 1) v.drawn v.spent

abbrev pub one_seat : View → View
one_seat v = view_of v.counts v.seats 1 [] []

-- a join: the kept view takes in the other's lists, before its own, and the other stands for nobody
abbrev pub joined : View → View → View
joined v w = view_of v.counts v.seats (v.stands_for + w.stands_for) (w.drawn ++ v.drawn) (w.spent ++ v.spent)

abbrev pub no_seat : View
no_seat = view_of [] 0 0 [] []

-- a draw from a near or a far run: a number below the run's length is a place in it, and any other tells the seat that the run is spent
abbrev pub drew : View → ℕ → ℕ → View
drew v run place = view_of v.counts v.seats v.stands_for (v.drawn ++ (run, place) ∷ []) v.spent

abbrev pub was_told : View → ℕ → View
was_told v run = view_of v.counts v.seats v.stands_for v.drawn (run ∷ v.spent)

-- What a draw from a run tells: beside the number, that all places drawn before lie in runs, and that this one isn't among them.
pub record Draws (run : ℕ) (before : View) (number : ℕ) (after : View) : Type 0 where
  pub place : number < run_length before.counts run → after ≡ drew before run number
  pub spent : run_length before.counts run ≤ number → after ≡ was_told before run
  pub new : number < run_length before.counts run → times_drawn run number before.drawn ≡ 0
  pub nothing_else : (other k : ℕ) → run_length before.counts other ≤ k → times_drawn other k before.drawn ≡ 0

-- how often the view was told that the run is spent
abbrev pub times_told : ℕ → View → ℕ
times_told run v = times_in run v.spent

-- how many places of the run were drawn
abbrev pub drawn_of : List ℕ → List ℕ → ℕ → ℕ
drawn_of counts words run = min (slice_index words run) (run_length counts run)

-- A view is told of a run at most once for each seat that it stands for. One that stands for nobody has drawn nothing.
pub record IsSound (counts : List ℕ) (seats : ℕ) (v : View) : Type 0 where
  pub plan : 0 < v.stands_for → (v.counts ≡ counts) × (v.seats ≡ seats)
  pub told : (run : ℕ) → times_told run v ≤ v.stands_for
  pub idle : v.stands_for ≡ 0 → v.drawn ≡ []

-- The rule. In the lists of all views the places of a run are 0 up to the lesser of its word and its length, each once,
-- and the word is their number and all that was told of the run.
pub record Kept (counts : List ℕ) (seats : ℕ) (words : List ℕ) (views : List View) : Type 0 where
  pub one_word_each : length words ≡ length (run_lengths counts)
  pub few_places : (run : ℕ) → run_length counts run < 2 ^ 32
  pub few_seats : seats < 2 ^ 32
  pub each_seat : sum_by (λ v. v.stands_for) views ≡ seats
  pub each_sound : (id : ℕ) (v : View) → get_elem? views id ≡ some v → IsSound counts seats v
  pub once : (run k : ℕ) → k < drawn_of counts words run → sum_by (λ v. times_drawn run k v.drawn) views ≡ 1
  pub nothing_else : (run k : ℕ) → drawn_of counts words run ≤ k → sum_by (λ v. times_drawn run k v.drawn) views ≡ 0
  pub counted : (run : ℕ) → drawn_of counts words run + sum_by (times_told run) views ≡ slice_index words run

-- what belongs together in claims: the table's key is their plan, they know how long each run is, each run has a word,
-- and there are parts and seats
abbrev pub AreOfPlan : Plan → Plan → List ℕ → ℕ → ℕ → Type 0
AreOfPlan key plan lengths words slots =
    (key ≡ plan) × (lengths ≡ run_lengths plan.counts.items) × (words ≡ length lengths) × (slots ≡ 0)
    × (0 < length plan.counts.items) × (0 < plan.seats) × ((part : ℕ) → slice_index plan.counts.items part < 2 ^ 32)
