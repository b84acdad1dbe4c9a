-- What the status of a call says of its job.
use Rattle.std.specs.Prelude.{◌≡◌, ◌≢◌, ℕ, ◌⊎◌}

-- the job is done
abbrev pub Succeeded : ℕ → Type 0
Succeeded status = status ≡ 0

-- the source or the sink failed
abbrev pub FailedOutside : ℕ → Type 0
FailedOutside status = (status ≡ 3) ⊎ (status ≡ 4)

-- a text was refused for what it says
abbrev pub RefusedText : ℕ → Type 0
RefusedText status = status ≡ 6

-- drives were refused for what they hold
abbrev pub RefusedDrives : ℕ → Type 0
RefusedDrives status = status ≡ 7

-- the job was refused before anything was done: it isn't done, and neither its sink nor a drive failed
abbrev pub RefusedFirst : ℕ → Type 0
RefusedFirst status = (status ≢ 0) × (status ≢ 4) × (status ≢ 5)

-- a run came to its end, or there was none: the job is done, or a graph was refused for what it is
abbrev pub CameToEnd : ℕ → Type 0
CameToEnd status = (status ≡ 0) ⊎ (status ≡ 8)
