-- What the words say of each option: the options' ranges, which commands and programs take them or need
-- them, and what is wrong.
use Rattle.std.specs.Prelude.{ℕ, ◌*◌, Bool, true, false, Option, Some, None, List, ◌&&◌, ◌||◌, not, nat_le, nat_lt, nat_eq, is_some, length, if◌then◌else◌, codes, find, option_map}
use Rattle.std.specs.Option.{option_or}
use Rattle.std.specs.Cmp.Lexicographic.{pointwise}
use Rattle.std.specs.List.{list_all}
use Rattle.std.specs.Str.Parse.{digits_value}
use Rattle.std.specs.Char.{is_ascii_digit}
use Rattle.fg_base.specs.declared.refusal.Opt.{Opt}
use Rattle.fg_base.specs.declared.refusal.Opt.TheVariants.{Program, Source, Max, Cut, Each, Quiet, Workers, Sets, Ways, Depth, Shift, Helpers, Stats, Unit as UnitPages, Number, Undirected, Input, Start, Nodes, Edges, Drives, Drive}
use Rattle.fg_base.specs.declared.refusal.WordFault.{WordFault}
use Rattle.fg_base.specs.declared.refusal.WordFault.TheVariants.{Extra, Missing, Range}
use Rattle.clap.specs.Walk.{Row}
use Rattle.fg_words.specs.Options.{table}
use Rattle.fg_words.specs.Reading.{drives_in, value_of}
use Rattle.fg_words.specs.declared.command.Command.{Command}
use Rattle.fg_words.specs.declared.command.Command.TheVariants.{Build, Run, Ref, Check, Gen, Large}
use Rattle.fg_words.specs.declared.command.ProgramName.{ProgramName}
use Rattle.fg_words.specs.declared.command.ProgramName.TheVariants.{Bfs, Sssp, Wcc, Core, Rank}
use Rattle.fg_words.specs.declared.command_line.CommandLine.{CommandLine}
use Rattle.fg_words.specs.declared.said.Said.{Said}
use Rattle.fg_words.specs.declared.said.Said.TheVariants.{Nothing, OutOfRange, Value}

-- two words are the same
abbrev pub is_word : List ℕ → List ℕ → Bool
is_word word text = pointwise nat_eq word text

-- the command of a name, among those that are built
abbrev pub command_of : List ℕ → Option Command
command_of word =
    if is_word word (codes "build") then Some Build else
    if is_word word (codes "run") then Some Run else
    if is_word word (codes "ref") then Some Ref else
    if is_word word (codes "check") then Some Check else
    if is_word word (codes "gen") then Some Gen else
    if is_word word (codes "large") then Some Large else
    None

-- the vertex program of a name, among those that are built
abbrev pub program_of : List ℕ → Option ProgramName
program_of word =
    if is_word word (codes "bfs") then Some Bfs else
    if is_word word (codes "sssp") then Some Sssp else
    if is_word word (codes "wcc") then Some Wcc else
    if is_word word (codes "core") then Some Core else
    if is_word word (codes "rank") then Some Rank else
    None

-- a number is one to twenty digits
abbrev pub is_number : List ℕ → Bool
is_number word = nat_le 1 (length word) && nat_le (length word) 20 && list_all is_ascii_digit word

-- the number within a range that a word is
abbrev pub number_within : ℕ → ℕ → List ℕ → Option ℕ
number_within least most word =
    if is_number word && nat_le least (digits_value 10 word) && nat_le (digits_value 10 word) most
    then Some (digits_value 10 word)
    else None

-- so many times the number that a word is are more than this; what is no number isn't
abbrev pub is_past : ℕ → ℕ → List ℕ → Bool
is_past most times word = is_number word && nat_lt most (times * digits_value 10 word)

-- what an option's value says, by what was found within the option's range
abbrev pub found : {A : Type 0} → Option A → Said A
found None = OutOfRange
found (Some value) = Value value

-- what the words say of an option, by its value where it is there
abbrev pub said : {A : Type 0} → (List ℕ → Option A) → Option (List ℕ) → Said A
said within None = Nothing
said within (Some word) = found (within word)

-- the option is there
abbrev pub is_there : {A : Type 0} → Said A → Bool
is_there Nothing = false
is_there OutOfRange = true
is_there (Value value) = true

-- the option is there with a value that isn't in its range
abbrev pub is_out_of_range : {A : Type 0} → Said A → Bool
is_out_of_range Nothing = false
is_out_of_range OutOfRange = true
is_out_of_range (Value value) = false

-- the option's value, or a default where there is none
abbrev pub value_or : {A : Type 0} → Said A → A → A
value_or Nothing default = default
value_or OutOfRange default = default
value_or (Value value) default = value

-- the number within a range that the words give an option
abbrev pub number_in : ℕ → ℕ → Opt → List Row → Said ℕ
number_in least most option rows = said (number_within least most) (value_of option rows)

-- the program that the words name
abbrev pub program_in : List Row → Said ProgramName
program_in rows = said program_of (value_of Program rows)

-- so many sets of the ways that the words give, in their range or not, are more frames than a cache has
abbrev pub is_crowded : ℕ → Option (List ℕ) → Bool
is_crowded sets None = nat_lt 262144 (sets * 8)
is_crowded sets (Some ways) = is_past 262144 sets ways

-- what the words say, each value within its option's range
abbrev pub line_of : List Row → CommandLine
line_of rows = record {
  program = program_in rows;
  source = number_in 0 4294967295 Source rows;
  max = number_in 1 4294967295 Max rows;
  cut = number_in 1 18446744073709551615 Cut rows;
  each = is_some (value_of Each rows);
  quiet = is_some (value_of Quiet rows);
  workers = number_in 1 64 Workers rows;
  sets = number_in 1 262144 Sets rows;
  ways = number_in 1 16 Ways rows;
  crowded = is_crowded (value_or (number_in 1 262144 Sets rows) 64) (value_of Ways rows);
  depth = number_in 1 1024 Depth rows;
  shift = number_in 0 16 Shift rows;
  helpers = is_some (value_of Helpers rows);
  stats = is_some (value_of Stats rows);
  unit = number_in 1 256 UnitPages rows;
  number = number_in 0 18446744073709551615 Number rows;
  undirected = is_some (value_of Undirected rows);
  input = is_some (value_of Input rows);
  start = number_in 0 18446744073709551615 Start rows;
  nodes = number_in 1 16777216 Nodes rows;
  edges = number_in 0 67108864 Edges rows;
  made = number_in 1 16 Drives rows;
  drives = length (drives_in rows);
}

-- the option is there
abbrev pub is_given : CommandLine → Opt → Bool
is_given line Program = is_there line.program
is_given line Source = is_there line.source
is_given line Max = is_there line.max
is_given line Cut = is_there line.cut
is_given line Each = line.each
is_given line Quiet = line.quiet
is_given line Workers = is_there line.workers
is_given line Sets = is_there line.sets
is_given line Ways = is_there line.ways
is_given line Depth = is_there line.depth
is_given line Shift = is_there line.shift
is_given line Helpers = line.helpers
is_given line Stats = line.stats
is_given line UnitPages = is_there line.unit
is_given line Number = is_there line.number
is_given line Undirected = line.undirected
is_given line Input = line.input
is_given line Start = is_there line.start
is_given line Nodes = is_there line.nodes
is_given line Edges = is_there line.edges
is_given line Drives = is_there line.made
is_given line Drive = nat_lt 0 line.drives

-- the option's value isn't in its range; sets times ways are 262144 at most, and of drives there are 16 at most
abbrev pub is_beyond : CommandLine → Opt → Bool
is_beyond line Program = is_out_of_range line.program
is_beyond line Source = is_out_of_range line.source
is_beyond line Max = is_out_of_range line.max
is_beyond line Cut = is_out_of_range line.cut
is_beyond line Workers = is_out_of_range line.workers
is_beyond line Sets = is_out_of_range line.sets || line.crowded
is_beyond line Ways = is_out_of_range line.ways
is_beyond line Depth = is_out_of_range line.depth
is_beyond line Shift = is_out_of_range line.shift
is_beyond line UnitPages = is_out_of_range line.unit
is_beyond line Number = is_out_of_range line.number
is_beyond line Start = is_out_of_range line.start
is_beyond line Nodes = is_out_of_range line.nodes
is_beyond line Edges = is_out_of_range line.edges
is_beyond line Drives = is_out_of_range line.made
is_beyond line Drive = nat_lt 16 line.drives
is_beyond line _ = false

-- the options of each run, also of one in memory
abbrev pub is_of_runs : Opt → Bool
is_of_runs Program = true
is_of_runs Source = true
is_of_runs Max = true
is_of_runs Cut = true
is_of_runs Each = true
is_of_runs Quiet = true
is_of_runs Drive = true
is_of_runs _ = false

-- the options of the engine that a run goes through
abbrev pub is_of_engines : Opt → Bool
is_of_engines Workers = true
is_of_engines Sets = true
is_of_engines Ways = true
is_of_engines Depth = true
is_of_engines Shift = true
is_of_engines Helpers = true
is_of_engines _ = false

-- what a run over drives takes and no other command does
abbrev pub is_of_drive_runs : Opt → Bool
is_of_drive_runs Stats = true
is_of_drive_runs _ = false

-- the options of a build
abbrev pub is_of_builds : Opt → Bool
is_of_builds UnitPages = true
is_of_builds Number = true
is_of_builds Undirected = true
is_of_builds Input = true
is_of_builds Drive = true
is_of_builds _ = false

-- what says which edges are generated
abbrev pub is_of_generating : Opt → Bool
is_of_generating Start = true
is_of_generating Nodes = true
is_of_generating Edges = true
is_of_generating _ = false

-- the options of a run on generated edges: those of a run that picks a program, those of generating, and those of the
-- drives in memory
abbrev pub is_of_large_runs : Opt → Bool
is_of_large_runs Program = true
is_of_large_runs Source = true
is_of_large_runs Max = true
is_of_large_runs Cut = true
is_of_large_runs UnitPages = true
is_of_large_runs Undirected = true
is_of_large_runs Start = true
is_of_large_runs Nodes = true
is_of_large_runs Edges = true
is_of_large_runs Drives = true
is_of_large_runs _ = false

-- the drives, of which no build and no check is without some, and a check takes nothing else
abbrev pub is_the_drives : Opt → Bool
is_the_drives Drive = true
is_the_drives _ = false

-- the command takes the option
abbrev pub is_taken_by : Command → Opt → Bool
is_taken_by Build option = is_of_builds option
is_taken_by Run option = is_of_runs option || is_of_engines option || is_of_drive_runs option
is_taken_by Ref option = is_of_runs option
is_taken_by Check option = is_the_drives option
is_taken_by Gen option = is_of_generating option
is_taken_by Large option = is_of_large_runs option || is_of_engines option

-- what no run and no run on generated edges is without
abbrev pub is_in_each_run : Opt → Bool
is_in_each_run Program = true
is_in_each_run Drive = true
is_in_each_run _ = false

abbrev pub is_in_each_large_run : Opt → Bool
is_in_each_large_run Program = true
is_in_each_large_run option = is_of_generating option

-- the command needs the option
abbrev pub is_needed_by : Command → Opt → Bool
is_needed_by Build option = is_the_drives option
is_needed_by Run option = is_in_each_run option
is_needed_by Ref option = is_in_each_run option
is_needed_by Check option = is_the_drives option
is_needed_by Gen option = is_of_generating option
is_needed_by Large option = is_in_each_large_run option

-- the program has a use for the option
abbrev pub has_use_for : ProgramName → Opt → Bool
has_use_for Bfs Cut = false
has_use_for Sssp Cut = false
has_use_for Wcc Source = false
has_use_for Wcc Cut = false
has_use_for Core Source = false
has_use_for Core Cut = false
has_use_for Rank Source = false
has_use_for program option = true

-- the program can't do without the option
abbrev pub depends_on : ProgramName → Opt → Bool
depends_on Bfs Source = true
depends_on Sssp Source = true
depends_on program option = false

-- the program that is named has a use for the option; where its name isn't known, or isn't there, no option is held
-- against it
abbrev pub is_useful : Said ProgramName → Opt → Bool
is_useful (Value program) option = has_use_for program option
is_useful unknown option = true

-- the program that is named can't do without the option; one that isn't known or isn't there misses none
abbrev pub is_vital : Said ProgramName → Opt → Bool
is_vital (Value program) option = depends_on program option
is_vital unknown option = false

-- the option is there and isn't taken
abbrev pub is_extra : Command → CommandLine → Opt → Bool
is_extra command line option = is_given line option && not (is_taken_by command option && is_useful line.program option)

-- the option isn't there and is required
abbrev pub is_missing : Command → CommandLine → Opt → Bool
is_missing command line option = not (is_given line option) && (is_needed_by command option || is_vital line.program option)

-- what is wrong: the first option that is extra, or else the first that is missing, or else the first out of its range
abbrev pub fault_of : Command → CommandLine → Option WordFault
fault_of command line =
    option_or (option_map Extra (find (is_extra command line) table))
    (option_or (option_map Missing (find (is_missing command line) table))
    (option_map Range (find (is_beyond line) table)))
