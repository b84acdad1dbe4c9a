-- What the words of the command line behind the program's name, each a list of bytes, ask for.
use Rattle.std.specs.Prelude.{◌≡◌, ℕ, Bool, true, false, Option, Some, None, Result, Ok, Err, List, [], if◌then◌else◌, is_ok, option_and_then, option_map}
use Rattle.clap.specs.Walk.{Row}
use Rattle.clap.specs.declared.parser.matches.ArgMatches.{ArgMatches}
use Rattle.fg_base.specs.declared.refusal.Opt.TheVariants.{Program, Input}
use Rattle.fg_base.specs.declared.refusal.WordFault.{WordFault}
use Rattle.fg_base.specs.declared.refusal.WordFault.TheVariants.{Parse, Command as UnknownCommand, Range}
use Rattle.fg_words.specs.declared.jobs.Job.{Job}
use Rattle.fg_words.specs.declared.jobs.JobFault.{JobFault}
use Rattle.fg_words.specs.declared.jobs.JobFault.TheVariants.{Memory, Words}
use Rattle.fg_words.specs.declared.jobs.Pick.{Pick}
use Rattle.fg_words.specs.declared.jobs.Pick.TheVariants.{Bfs as PickBfs, Sssp as PickSssp, Wcc as PickWcc, Core as PickCore, Rank as PickRank}
use Rattle.fg_words.specs.declared.jobs.Recipe.{Recipe}
use Rattle.fg_words.specs.declared.command.Command.{Command}
use Rattle.fg_words.specs.declared.command.Command.TheVariants.{Build, Run, Ref, Check, Gen, Large}
use Rattle.fg_words.specs.declared.command.ProgramName.{ProgramName}
use Rattle.fg_words.specs.declared.command.ProgramName.TheVariants.{Bfs, Sssp, Wcc, Core, Rank}
use Rattle.fg_words.specs.declared.command_line.CommandLine.{CommandLine}
use Rattle.fg_words.specs.declared.said.Said.{Said}
use Rattle.fg_words.specs.declared.said.Said.TheVariants.{Value}
use Rattle.fg_words.specs.CommandLine.{command_of, fault_of, line_of, value_or}
use Rattle.fg_words.specs.Grammar.{is_read, read}
use Rattle.fg_words.specs.Reading.{command_in, drives_in, rows_in, value_of}

-- the vertex program that is named, with its source or its cut; there is one where nothing is wrong with the words
abbrev pub picked : Said ProgramName → Said ℕ → Said ℕ → Option Pick
picked (Value Bfs) (Value source) cut = Some (PickBfs source)
picked (Value Sssp) (Value source) cut = Some (PickSssp source)
picked (Value Wcc) source cut = Some PickWcc
picked (Value Core) source cut = Some PickCore
picked (Value Rank) source cut = Some (PickRank (value_or cut 1048))
picked program source cut = None

-- the pick of a line
abbrev pub pick_of : CommandLine → Option Pick
pick_of line = picked line.program line.source line.cut

-- how edges are generated, where the words say all of it; they do where nothing is wrong with them
abbrev pub recipe_from : Said ℕ → Said ℕ → Said ℕ → Bool → Option Recipe
recipe_from (Value start) (Value nodes) (Value edges) undirected =
    Some (record { start = start; nodes = nodes; edges = edges; undirected = undirected })
recipe_from start nodes edges undirected = None

-- the recipe of a line
abbrev pub recipe_of : CommandLine → Option Recipe
recipe_of line = recipe_from line.start line.nodes line.edges line.undirected

-- the job of each command, where there is a pick and a recipe for those that need them
abbrev pub build_from : CommandLine → Job
build_from line = Job.Build (value_or line.unit 16) (value_or line.number 0) line.undirected

abbrev pub run_from : CommandLine → Pick → Job
run_from line pick =
    Job.Run pick (value_or line.max 4294967295) line.each line.quiet (value_or line.workers 4) (value_or line.sets 64)
    (value_or line.ways 8) (value_or line.depth 64) (value_or line.shift 10) line.helpers line.stats

abbrev pub ref_from : CommandLine → Pick → Job
ref_from line pick = Job.Ref pick (value_or line.max 4294967295) line.each line.quiet

abbrev pub gen_from : Recipe → Job
gen_from recipe = Job.Gen recipe.start recipe.nodes recipe.edges

abbrev pub large_from : CommandLine → Option Pick → Option Recipe → Option Job
large_from line (Some pick) (Some recipe) =
    Some (Job.Large pick (value_or line.max 4294967295) (value_or line.workers 4) (value_or line.sets 64) (value_or line.ways 8)
    (value_or line.depth 64) (value_or line.shift 10) line.helpers (value_or line.unit 16) recipe.undirected recipe.start
    recipe.nodes recipe.edges (value_or line.made 1))
large_from line pick recipe = None

-- the job of a command; there is one where nothing is wrong with the words
abbrev pub job_from : Command → CommandLine → Option Job
job_from Build line = Some (build_from line)
job_from Run line = option_map (run_from line) (pick_of line)
job_from Ref line = option_map (ref_from line) (pick_of line)
job_from Check line = Some Job.Check
job_from Gen line = option_map gen_from (recipe_of line)
job_from Large line = large_from line (pick_of line) (recipe_of line)

-- the answer, by what is wrong with the words; where nothing is, there is a job
abbrev pub answer : Option WordFault → Option Job → Result Job WordFault
answer (Some fault) job = Err fault
answer None (Some job) = Ok job
answer None None = Err (Range Program)

-- the answer, by the command and by what the words say
abbrev pub judged : Option Command → CommandLine → Result Job WordFault
judged None line = Err UnknownCommand
judged (Some command) line = answer (fault_of command line) (job_from command line)

-- the answer, by what stands in words that are read
abbrev pub answer_of : List Row → Result Job WordFault
answer_of rows = judged (option_and_then command_of (command_in rows)) (line_of rows)

-- the job that the words ask for, or what is wrong with them: words that have no reading are refused first
abbrev pub job_of : List (List ℕ) → Result Job WordFault
job_of words = if is_read words then answer_of (read words) else Err Parse

-- the drives that an accepted job names; none where the words are refused
abbrev pub names_of : List (List ℕ) → List (List ℕ)
names_of words = if is_ok (job_of words) then drives_in (read words) else []

-- the file that an accepted job reads in place of the program's input; none where the words are refused
abbrev pub input_of : List (List ℕ) → Option (List ℕ)
input_of words = if is_ok (job_of words) then value_of Input (read words) else None

-- an answer says what the words ask for, or what is wrong with them, or that memory is wanting
abbrev pub IsJobOf : List (List ℕ) → Result Job JobFault → Type 0
IsJobOf words (Ok job) = job_of words ≡ Ok job
IsJobOf words (Err (Words fault)) = job_of words ≡ Err fault
IsJobOf words (Err Memory) = Unit {0}

-- words are accepted, and this stands in them; or they are refused
abbrev pub AreAccepted : List (List ℕ) → Option ArgMatches → Type 0
AreAccepted words (Some found) = (is_ok (job_of words) ≡ true) × (rows_in found ≡ read words)
AreAccepted words None = is_ok (job_of words) ≡ false
