-- What stands in words that are read.
use Rattle.std.specs.Prelude.{◌≡◌, Bool, true, false, Option, None, Result, Ok, Err, List, [], codes, if◌then◌else◌, unwrap_or}
use Rattle.clap.specs.Walk.{Row, Text, all_of, first_of, rows_of}
use Rattle.clap.specs.Takes.{is_given}
use Rattle.clap.specs.Matches.{found_of}
use Rattle.clap.specs.declared.error.kind.ErrorKind.{ErrorKind}
use Rattle.clap.specs.declared.error.kind.ErrorKind.TheVariants.{OutOfMemory}
use Rattle.clap.specs.declared.parser.matches.ArgMatches.{ArgMatches}
use Rattle.fg_base.specs.declared.refusal.Opt.{Opt}
use Rattle.fg_base.specs.declared.refusal.WordFault.TheVariants.{Parse}
use Rattle.fg_base.specs.Options.{option_name}
use Rattle.fg_words.specs.Grammar.{is_read, read}
use Rattle.fg_words.specs.declared.jobs.JobFault.{JobFault}
use Rattle.fg_words.specs.declared.jobs.JobFault.TheVariants.{Memory, Words}

-- what `clap` found, argument by argument
abbrev pub rows_in : ArgMatches → List Row
rows_in found = rows_of (found_of found)

-- the word in COMMAND's place
abbrev pub command_in : List Row → Option Text
command_in rows = first_of (codes "command") rows

-- the value of an option that the words have; a flag that isn't there has a row too, with a default in it
abbrev pub value_of : Opt → List Row → Option Text
value_of option rows = if is_given (option_name option) rows then first_of (option_name option) rows else None

-- the names of the drives, in their order
abbrev pub drives_in : List Row → List Text
drives_in rows = unwrap_or (all_of (codes "drive") rows) []

-- the kind is that of want of memory
abbrev pub is_memory : ErrorKind → Bool
is_memory OutOfMemory = true
is_memory _ = false

-- why words aren't read, by the kind of the error
abbrev pub refusal_by : ErrorKind → JobFault
refusal_by kind = if is_memory kind then Memory else Words Parse

-- an answer says what stands in the words, or that they have no reading, or that memory is wanting
abbrev pub IsReading : List Text → Result ArgMatches JobFault → Type 0
IsReading words (Ok found) = (is_read words ≡ true) × (rows_in found ≡ read words)
IsReading words (Err (Words fault)) = (is_read words ≡ false) × (fault ≡ Parse)
IsReading words (Err Memory) = Unit {0}
