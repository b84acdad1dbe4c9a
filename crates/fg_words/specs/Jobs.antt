-- The jobs that words ask for, and the limits of their numbers.
use Rattle.std.specs.Prelude.{◌≤◌, ◌*◌, ℕ, Bool, true, false}
use Rattle.fg_base.specs.declared.limits.TheConstants.{MAX_DEPTH, MAX_DRIVES, MAX_ENTRIES, MAX_FRAMES, MAX_SETS, MAX_SHIFT, MAX_UNIT, MAX_VERTICES, MAX_WAYS, MAX_WORKERS}
use Rattle.fg_words.specs.declared.jobs.Job.{Job}
use Rattle.fg_words.specs.declared.jobs.Job.TheVariants.{Build, Run, Ref, Check, Gen, Large}
use Rattle.fg_words.specs.declared.jobs.Pick.{Pick}
use Rattle.fg_words.specs.declared.jobs.Pick.TheVariants.{Bfs, Sssp, Wcc, Core, Rank}

-- the job never waits
abbrev pub is_still : Job → Bool
is_still (Build unit number undirected) = true
is_still (Run pick max each quiet workers sets ways depth shift helpers stats) = false
is_still (Ref pick max each quiet) = true
is_still Check = true
is_still (Gen start nodes edges) = true
is_still (Large pick max workers sets ways depth shift helpers unit undirected start nodes edges drives) = false

-- a unit of so many pages, so many drives, and so many edges between so many vertices are within the limits
abbrev pub IsUnit : ℕ → Type 0
IsUnit pages = (1 ≤ pages) × (pages ≤ MAX_UNIT)

abbrev pub AreDrives : ℕ → Type 0
AreDrives count = (1 ≤ count) × (count ≤ MAX_DRIVES)

abbrev pub AreGenerable : ℕ → ℕ → Type 0
AreGenerable nodes edges = (1 ≤ nodes) × (nodes ≤ MAX_VERTICES) × (edges ≤ MAX_ENTRIES)

-- the program's cut is at least 1
abbrev pub IsPick : Pick → Type 0
IsPick (Bfs source) = Unit {0}
IsPick (Sssp source) = Unit {0}
IsPick Wcc = Unit {0}
IsPick Core = Unit {0}
IsPick (Rank cut) = 1 ≤ cut

-- a run of this program has so many iterations at most
abbrev pub IsRun : Pick → ℕ → Type 0
IsRun pick max = IsPick pick × (1 ≤ max)

-- an engine is within the limits: so many workers, a cache of so many sets of so many ways, queues of so many loads, and
-- blocks of 2^shift vertices
pub record IsEngine (workers sets ways depth shift : ℕ) : Type 0 where
  pub some_workers : 1 ≤ workers
  pub few_workers : workers ≤ MAX_WORKERS
  pub some_sets : 1 ≤ sets
  pub few_sets : sets ≤ MAX_SETS
  pub some_ways : 1 ≤ ways
  pub few_ways : ways ≤ MAX_WAYS
  pub few_frames : sets * ways ≤ MAX_FRAMES
  pub some_depth : 1 ≤ depth
  pub small_depth : depth ≤ MAX_DEPTH
  pub small_shift : shift ≤ MAX_SHIFT

-- the job's numbers are within the limits
abbrev pub JobFits : Job → Type 0
JobFits (Build unit number undirected) = IsUnit unit
JobFits (Run pick max each quiet workers sets ways depth shift helpers stats) = IsRun pick max × IsEngine workers sets ways depth shift
JobFits (Ref pick max each quiet) = IsRun pick max
JobFits Check = Unit {0}
JobFits (Gen start nodes edges) = AreGenerable nodes edges
JobFits (Large pick max workers sets ways depth shift helpers unit undirected start nodes edges drives) =
    IsRun pick max × IsUnit unit × AreGenerable nodes edges × AreDrives drives × IsEngine workers sets ways depth shift

-- so many drives are what the job works on: none where it makes its own, or none at all
abbrev pub HasDrives : Job → ℕ → Type 0
HasDrives (Build unit number undirected) count = AreDrives count
HasDrives (Run pick max each quiet workers sets ways depth shift helpers stats) count = AreDrives count
HasDrives (Ref pick max each quiet) count = AreDrives count
HasDrives Check count = AreDrives count
HasDrives (Gen start nodes edges) count = count ≤ 0
HasDrives (Large pick max workers sets ways depth shift helpers unit undirected start nodes edges drives) count = count ≤ 0
