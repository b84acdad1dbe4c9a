use Rattle.std.proofs.Common.{ap, length}
use Rattle.clap.specs.Words.{found_of}
use Rattle.fg_words.proofs.FoundLemmas.{drive_count, no_drives}
use Rattle.fg_words.proofs.reading.count_drives.Goals as goal

pub returns-in-Some : goal.returns-in-Some
returns-in-Some c = drive_count (found_of c.args.found.now) c.in-Some.names.now c.in-Some.ensures

pub returns-in-None : goal.returns-in-None
returns-in-None c = ap length (no_drives (found_of c.args.found.now) c.in-None.ensures)
