-- The two runs of each part's blocks. They are numbered: a part's near run has the number of the part, and its far run
-- stands as many behind as there are parts.
use Rattle.std.specs.Prelude.{ℕ, ◌+◌, ◌-◌, ◌/◌, ◌<◌, ◌≤◌, nat_eq, nat_lt, if◌then◌else◌, List, [], ◌∷◌, ◌++◌, length, map, slice_index}
use Rattle.std.specs.List.{Contains, count_by}
use Rattle.fg_steal.specs.declared.run.Run.{Run}
use Rattle.fg_steal.specs.declared.run.Run.TheVariants.{Near, Far}

-- the near run of a part with so many blocks has the first half of them, rounded up
abbrev pub near_length : ℕ → ℕ
near_length count = (count + 1) / 2

-- and the far run the others
abbrev pub far_length : ℕ → ℕ
far_length count = count - near_length count

-- how long each run is
unfoldable pub run_lengths : List ℕ → List ℕ
run_lengths counts = map near_length counts ++ map far_length counts

abbrev pub run_length : List ℕ → ℕ → ℕ
run_length counts run = slice_index (run_lengths counts) run

-- the number of a part's run
abbrev pub run_of : List ℕ → ℕ → Run → ℕ
run_of counts part Near = part
run_of counts part Far = length counts + part

-- which part a run is of
abbrev pub part_of : List ℕ → ℕ → ℕ
part_of counts run = if nat_lt run (length counts) then run else run - length counts

-- the other run of the same part
abbrev pub twin : List ℕ → ℕ → ℕ
twin counts run = if nat_lt run (length counts) then length counts + run else run - length counts

-- which block stands at a place of a run, as its part and its number there
abbrev pub block_at : List ℕ → ℕ × ℕ → ℕ × ℕ
block_at counts draw =
    let part = draw.0 - length counts in
    if nat_lt draw.0 (length counts) then draw else (part, near_length (slice_index counts part) + draw.1)

-- block k of a part with so many blocks is in the run
abbrev pub IsInRun : ℕ → Run → ℕ → Type 0
IsInRun count Near k = k < near_length count
IsInRun count Far k = near_length count ≤ k

-- a seat draws from the part of its own number near run first, and from any other far run first
abbrev pub first_run : ℕ → ℕ → Run
first_run seat part = if nat_eq seat part then Near else Far

-- the other run of the part, which it tries second
abbrev pub second_run : ℕ → ℕ → Run
second_run seat part = if nat_eq seat part then Far else Near

-- block k of the part is in the run that the seat tries first
abbrev pub IsFirst : List ℕ → ℕ → ℕ → ℕ → Type 0
IsFirst counts seat part k = IsInRun (slice_index counts part) (first_run seat part) k

-- block k of the part is in the run that the seat tries second
abbrev pub IsSecond : List ℕ → ℕ → ℕ → ℕ → Type 0
IsSecond counts seat part k = IsInRun (slice_index counts part) (second_run seat part) k

-- the run of the part that the seat tries first is among the spent ones
abbrev pub FirstIsSpent : List ℕ → ℕ → ℕ → List ℕ → Type 0
FirstIsSpent counts seat part spent = Contains spent (run_of counts part (first_run seat part))

-- how often a run stands in a list of runs
abbrev pub times_in : ℕ → List ℕ → ℕ
times_in run runs = count_by (λ other. nat_eq other run) runs

-- the parts of which both runs stand in a list of spent runs, the last one first, as they came to be so
abbrev pub spent_parts : List ℕ → List ℕ → List ℕ
spent_parts counts [] = []
spent_parts counts (run ∷ earlier) = spent_parts counts earlier ++ (if nat_lt 0 (times_in (twin counts run) earlier) then part_of counts run ∷ [] else [])
