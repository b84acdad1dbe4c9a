-- The log of a drive.
use Rattle.std.specs.Prelude.{ℕ}
use Rattle.fg_outside.specs.declared.drive.Read.{Read}

-- the read of so many pages from this one on
abbrev pub read_of : ℕ → ℕ → Read
read_of first count = record { first = first; count = count }
