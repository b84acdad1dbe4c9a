-- The answer of a run by what its workers answered and by what the drives' counts say.
use Rattle.std.specs.Prelude.{ℕ, Option, None, Some, Result, Ok, Err}
use Rattle.fg_model.specs.declared.run.End.{End}
use Rattle.fg_model.specs.declared.run.RunFault.{RunFault}

-- Where no drive failed: a worker's fault is then want of memory.
abbrev pub unfailed : Result End RunFault → Result End RunFault
unfailed (Ok end) = Ok end
unfailed (Err RunFault.Memory) = Err RunFault.Memory
unfailed (Err (RunFault.Drive drive)) = Err RunFault.Memory
unfailed (Err (RunFault.BadEdge bad)) = Err (RunFault.BadEdge bad)
unfailed (Err RunFault.Watch) = Err RunFault.Watch

-- Where this drive failed: once the watch failed its fault stays, since nothing more can be told of the run.
abbrev pub failed_by : Result End RunFault → ℕ → Result End RunFault
failed_by (Ok end) drive = Err (RunFault.Drive drive)
failed_by (Err RunFault.Memory) drive = Err (RunFault.Drive drive)
failed_by (Err (RunFault.Drive other)) drive = Err (RunFault.Drive drive)
failed_by (Err (RunFault.BadEdge bad)) drive = Err (RunFault.Drive drive)
failed_by (Err RunFault.Watch) drive = Err RunFault.Watch

-- the answer, where this is the least drive that failed
abbrev pub settled : Result End RunFault → Option ℕ → Result End RunFault
settled answer None = unfailed answer
settled answer (Some drive) = failed_by answer drive
