-- A drive was made of each name so far.
use Rattle.std.proofs.Common.{◌≡◌, vec_len}
use Rattle.fg_run.proofs.open_drives.Given as goal

abbrev pub invariant-loop-name : goal.invariant-loop-name
invariant-loop-name g l = vec_len l.drives ≡ l.name-index
