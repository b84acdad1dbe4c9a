-- What some words ask for, computed from the definition: each case in which `clap` decides, and the order of the faults.
use Rattle.std.proofs.Common.{◌≡◌, ℕ, ◌==◌, Bool, true, false, Some, None, Ok, Err, List, [], ◌∷◌, codes, refl}
use Rattle.clap.proofs.OnLiterals.{clap_on_literals}
use Rattle.fg_base.specs.declared.refusal.Opt.TheVariants.{Program, Source, Max, Cut, Quiet, Unit as UnitPages, Drives, Drive}
use Rattle.fg_base.specs.declared.refusal.WordFault.TheVariants.{Parse, Command, Extra, Missing, Range}
use Rattle.fg_words.specs.declared.jobs.Job.{Job}
use Rattle.fg_words.specs.declared.jobs.Job.TheVariants.{Build, Run, Ref, Check, Gen, Large}
use Rattle.fg_words.specs.declared.jobs.Pick.{Pick}
use Rattle.fg_words.specs.declared.jobs.Pick.TheVariants.{Bfs, Sssp, Wcc, Core, Rank}
use Rattle.fg_words.specs.Grammar.{grammar, is_read, read}
use Rattle.fg_words.specs.Words.{input_of, job_of, names_of}

-- the words of a line, between single spaces
abbrev spaced : Bool → ℕ → List (List ℕ) → List (List ℕ)
spaced true c words = [] ∷ words
spaced false c [] = (c ∷ []) ∷ []
spaced false c (word ∷ words) = (c ∷ word) ∷ words

abbrev pub line : List ℕ → List (List ℕ)
line [] = [] ∷ []
line (c ∷ rest) = spaced (c == 32) c (line rest)

-- a run through the engine that the words say nothing of
abbrev pub plain_run : Pick → ℕ → Bool → Bool → Job
plain_run pick max each quiet = Run pick max each quiet 4 64 8 64 10 false false

-- Values behind `=` and behind their option's name, and options on either side of COMMAND and of drives.

value_behind_equals : job_of (line (codes "run --program=bfs --source=0 D")) ≡ Ok (plain_run (Bfs 0) 4294967295 false false)
unfolding grammar is_read read clap_on_literals
value_behind_equals = refl

both_forms : job_of (line (codes "run --program=bfs --source 0 D")) ≡ Ok (plain_run (Bfs 0) 4294967295 false false)
unfolding grammar is_read read clap_on_literals
both_forms = refl

options_before_the_command : job_of (line (codes "--program bfs run --source 0 D")) ≡ Ok (plain_run (Bfs 0) 4294967295 false false)
unfolding grammar is_read read clap_on_literals
options_before_the_command = refl

drives_between_options : job_of (line (codes "run D0 --program bfs D1 --source 0 D2")) ≡ Ok (plain_run (Bfs 0) 4294967295 false false)
unfolding grammar is_read read clap_on_literals
drives_between_options = refl

drives_between_options-drives : names_of (line (codes "run D0 --program bfs D1 --source 0 D2")) ≡ codes "D0" ∷ codes "D1" ∷ codes "D2" ∷ []
unfolding grammar is_read read clap_on_literals
drives_between_options-drives = refl

drives_before_the_last_option : job_of (line (codes "run --source=0 D0 --program=bfs")) ≡ Ok (plain_run (Bfs 0) 4294967295 false false)
unfolding grammar is_read read clap_on_literals
drives_before_the_last_option = refl

drives_before_the_last_option-drives : names_of (line (codes "run --source=0 D0 --program=bfs")) ≡ codes "D0" ∷ []
unfolding grammar is_read read clap_on_literals
drives_before_the_last_option-drives = refl

-- Behind the first `--` all words are positional, a second `--` too.

drives_behind_dashes : job_of (line (codes "run --program bfs --source 0 -- -D --x")) ≡ Ok (plain_run (Bfs 0) 4294967295 false false)
unfolding grammar is_read read clap_on_literals
drives_behind_dashes = refl

drives_behind_dashes-drives : names_of (line (codes "run --program bfs --source 0 -- -D --x")) ≡ codes "-D" ∷ codes "--x" ∷ []
unfolding grammar is_read read clap_on_literals
drives_behind_dashes-drives = refl

dashes_as_a_drive : job_of (line (codes "run --program bfs --source 0 -- D -- E")) ≡ Ok (plain_run (Bfs 0) 4294967295 false false)
unfolding grammar is_read read clap_on_literals
dashes_as_a_drive = refl

dashes_as_a_drive-drives : names_of (line (codes "run --program bfs --source 0 -- D -- E")) ≡ codes "D" ∷ codes "--" ∷ codes "E" ∷ []
unfolding grammar is_read read clap_on_literals
dashes_as_a_drive-drives = refl

options_behind_dashes : job_of (line (codes "-- run D --program bfs")) ≡ Err (Missing Program)
unfolding grammar is_read read clap_on_literals
options_behind_dashes = refl

help_behind_dashes : job_of (line (codes "-- --help")) ≡ Err Command
unfolding grammar is_read read clap_on_literals
help_behind_dashes = refl

-- A drive is any word that doesn't begin with `-`, or is that word.

drive_of_a_dash : job_of (line (codes "run --program bfs --source 0 -")) ≡ Ok (plain_run (Bfs 0) 4294967295 false false)
unfolding grammar is_read read clap_on_literals
drive_of_a_dash = refl

drive_of_a_dash-drives : names_of (line (codes "run --program bfs --source 0 -")) ≡ codes "-" ∷ []
unfolding grammar is_read read clap_on_literals
drive_of_a_dash-drives = refl

drive_of_no_letter : job_of (line (codes "run --program bfs --source 0 ")) ≡ Ok (plain_run (Bfs 0) 4294967295 false false)
unfolding grammar is_read read clap_on_literals
drive_of_no_letter = refl

drive_of_no_letter-drives : names_of (line (codes "run --program bfs --source 0 ")) ≡ [] ∷ []
unfolding grammar is_read read clap_on_literals
drive_of_no_letter-drives = refl

drive_with_dashes_inside : job_of (line (codes "run --program bfs --source 0 a-b--c")) ≡ Ok (plain_run (Bfs 0) 4294967295 false false)
unfolding grammar is_read read clap_on_literals
drive_with_dashes_inside = refl

drive_with_dashes_inside-drives : names_of (line (codes "run --program bfs --source 0 a-b--c")) ≡ codes "a-b--c" ∷ []
unfolding grammar is_read read clap_on_literals
drive_with_dashes_inside-drives = refl

drive_behind_a_dash : job_of (line (codes "run --program bfs --source 0 -D")) ≡ Err Parse
unfolding grammar is_read read clap_on_literals
drive_behind_a_dash = refl

-- A value of its own doesn't begin with `-`, unless it is that word; behind `=` it may be anything.

negative_value : job_of (line (codes "run --program bfs --source -1 D")) ≡ Err Parse
unfolding grammar is_read read clap_on_literals
negative_value = refl

flag_as_a_value : job_of (line (codes "build --input --unit D")) ≡ Err Parse
unfolding grammar is_read read clap_on_literals
flag_as_a_value = refl

short_flag_as_a_value : job_of (line (codes "build --input -x D")) ≡ Err Parse
unfolding grammar is_read read clap_on_literals
short_flag_as_a_value = refl

negative_value_behind_equals : job_of (line (codes "run --program bfs --source=-1 D")) ≡ Err (Range Source)
unfolding grammar is_read read clap_on_literals
negative_value_behind_equals = refl

empty_value_behind_equals : job_of (line (codes "run --program bfs --source= D")) ≡ Err (Range Source)
unfolding grammar is_read read clap_on_literals
empty_value_behind_equals = refl

dash_as_a_value : job_of (line (codes "run --program bfs --source - D")) ≡ Err (Range Source)
unfolding grammar is_read read clap_on_literals
dash_as_a_value = refl

empty_value : job_of (line (codes "run --program bfs --source  D")) ≡ Err (Range Source)
unfolding grammar is_read read clap_on_literals
empty_value = refl

two_equals : job_of (line (codes "run --program==bfs D")) ≡ Err (Range Program)
unfolding grammar is_read read clap_on_literals
two_equals = refl

-- Each option and each flag comes at most once, and a flag has no value.

option_twice : job_of (line (codes "run --source 0 --source 1 D")) ≡ Err Parse
unfolding grammar is_read read clap_on_literals
option_twice = refl

option_twice_in_both_forms : job_of (line (codes "run --source=0 --program bfs --source 1 D")) ≡ Err Parse
unfolding grammar is_read read clap_on_literals
option_twice_in_both_forms = refl

flag_twice : job_of (line (codes "run --each --each --program bfs --source 0 D")) ≡ Err Parse
unfolding grammar is_read read clap_on_literals
flag_twice = refl

flag_with_a_value : job_of (line (codes "run --each=1 --program bfs --source 0 D")) ≡ Err Parse
unfolding grammar is_read read clap_on_literals
flag_with_a_value = refl

flag_with_an_empty_value : job_of (line (codes "run --each= --program bfs --source 0 D")) ≡ Err Parse
unfolding grammar is_read read clap_on_literals
flag_with_an_empty_value = refl

word_behind_a_flag : job_of (line (codes "run --program bfs --source 0 --each 1")) ≡ Ok (plain_run (Bfs 0) 4294967295 true false)
unfolding grammar is_read read clap_on_literals
word_behind_a_flag = refl

word_behind_a_flag-drives : names_of (line (codes "run --program bfs --source 0 --each 1")) ≡ codes "1" ∷ []
unfolding grammar is_read read clap_on_literals
word_behind_a_flag-drives = refl

no_value : job_of (line (codes "run --program bfs D --source")) ≡ Err Parse
unfolding grammar is_read read clap_on_literals
no_value = refl

no_value_before_dashes : job_of (line (codes "run --program bfs --source -- D")) ≡ Err Parse
unfolding grammar is_read read clap_on_literals
no_value_before_dashes = refl

-- Names are those of the options, whole, and nothing asks for help or a version.

first_letters_of_an_option : job_of (line (codes "run --prog bfs --source 0 D")) ≡ Err Parse
unfolding grammar is_read read clap_on_literals
first_letters_of_an_option = refl

option_in_capitals : job_of (line (codes "run --Program bfs --source 0 D")) ≡ Err Parse
unfolding grammar is_read read clap_on_literals
option_in_capitals = refl

drive_as_an_option : job_of (line (codes "run --program bfs --source 0 --drive D")) ≡ Err Parse
unfolding grammar is_read read clap_on_literals
drive_as_an_option = refl

command_as_an_option : job_of (line (codes "--command run --program bfs --source 0 D")) ≡ Err Parse
unfolding grammar is_read read clap_on_literals
command_as_an_option = refl

equals_alone : job_of (line (codes "run --= D")) ≡ Err Parse
unfolding grammar is_read read clap_on_literals
equals_alone = refl

option_that_is_not_built : job_of (line (codes "run --steps --program bfs --source 0 D")) ≡ Err Parse
unfolding grammar is_read read clap_on_literals
option_that_is_not_built = refl

short_help : job_of (line (codes "-h")) ≡ Err Parse
unfolding grammar is_read read clap_on_literals
short_help = refl

short_version : job_of (line (codes "-V")) ≡ Err Parse
unfolding grammar is_read read clap_on_literals
short_version = refl

help_flag : job_of (line (codes "run --help")) ≡ Err Parse
unfolding grammar is_read read clap_on_literals
help_flag = refl

version_flag : job_of (line (codes "run --version")) ≡ Err Parse
unfolding grammar is_read read clap_on_literals
version_flag = refl

help_as_a_command : job_of (line (codes "help")) ≡ Err Command
unfolding grammar is_read read clap_on_literals
help_as_a_command = refl

-- COMMAND is required, and looked at once the words are read.

no_word : job_of [] ≡ Err Parse
unfolding grammar is_read read clap_on_literals
no_word = refl

dashes_alone : job_of (line (codes "--")) ≡ Err Parse
unfolding grammar is_read read clap_on_literals
dashes_alone = refl

options_alone : job_of (line (codes "--program bfs")) ≡ Err Parse
unfolding grammar is_read read clap_on_literals
options_alone = refl

empty_command : job_of (line []) ≡ Err Command
unfolding grammar is_read read clap_on_literals
empty_command = refl

dash_as_a_command : job_of (line (codes "-")) ≡ Err Command
unfolding grammar is_read read clap_on_literals
dash_as_a_command = refl

unknown_command : job_of (line (codes "walk D0")) ≡ Err Command
unfolding grammar is_read read clap_on_literals
unknown_command = refl

unreadable_before_unknown : job_of (line (codes "walk --steps 3 D")) ≡ Err Parse
unfolding grammar is_read read clap_on_literals
unreadable_before_unknown = refl

-- Then what isn't taken comes before what is missing, and that before what isn't in its range.

no_program : job_of (line (codes "run D0")) ≡ Err (Missing Program)
unfolding grammar is_read read clap_on_literals
no_program = refl

no_source : job_of (line (codes "run --program bfs D0")) ≡ Err (Missing Source)
unfolding grammar is_read read clap_on_literals
no_source = refl

no_drive : job_of (line (codes "run --program bfs --source 0")) ≡ Err (Missing Drive)
unfolding grammar is_read read clap_on_literals
no_drive = refl

unknown_program : job_of (line (codes "run --program fast --source x --cut 0 D")) ≡ Err (Range Program)
unfolding grammar is_read read clap_on_literals
unknown_program = refl

unknown_program_without_a_drive : job_of (line (codes "run --program fast --source x")) ≡ Err (Missing Drive)
unfolding grammar is_read read clap_on_literals
unknown_program_without_a_drive = refl

source_of_rank : job_of (line (codes "run --program rank --source 0 D")) ≡ Err (Extra Source)
unfolding grammar is_read read clap_on_literals
source_of_rank = refl

source_of_components : job_of (line (codes "run --program wcc --source 0 D0")) ≡ Err (Extra Source)
unfolding grammar is_read read clap_on_literals
source_of_components = refl

cut_of_cores : job_of (line (codes "ref --cut 1 --program core --max 0 D")) ≡ Err (Extra Cut)
unfolding grammar is_read read clap_on_literals
cut_of_cores = refl

extra_before_missing : job_of (line (codes "run --unit 1")) ≡ Err (Extra UnitPages)
unfolding grammar is_read read clap_on_literals
extra_before_missing = refl

missing_before_range : job_of (line (codes "run --max 0 D")) ≡ Err (Missing Program)
unfolding grammar is_read read clap_on_literals
missing_before_range = refl

no_iteration : job_of (line (codes "run --max 0 --program bfs --source 0 D")) ≡ Err (Range Max)
unfolding grammar is_read read clap_on_literals
no_iteration = refl

twenty_digits : job_of (line (codes "run --program bfs --source 00000000000000000000 D")) ≡ Ok (plain_run (Bfs 0) 4294967295 false false)
unfolding grammar is_read read clap_on_literals
twenty_digits = refl

twenty_one_digits : job_of (line (codes "run --program bfs --source 000000000000000000000 D")) ≡ Err (Range Source)
unfolding grammar is_read read clap_on_literals
twenty_one_digits = refl

cut_past_its_range : job_of (line (codes "run --program rank --cut 18446744073709551616 D")) ≡ Err (Range Cut)
unfolding grammar is_read read clap_on_literals
cut_past_its_range = refl

program_of_a_build : job_of (line (codes "build --program bfs D")) ≡ Err (Extra Program)
unfolding grammar is_read read clap_on_literals
program_of_a_build = refl

drive_of_generated_edges : job_of (line (codes "gen --start 1 --nodes 1 --edges 1 D")) ≡ Err (Extra Drive)
unfolding grammar is_read read clap_on_literals
drive_of_generated_edges = refl

too_many_made_drives : job_of (line (codes "large --program rank --drives 17 --start 1 --nodes 1 --edges 1")) ≡ Err (Range Drives)
unfolding grammar is_read read clap_on_literals
too_many_made_drives = refl

check_without_a_drive : job_of (line (codes "check")) ≡ Err (Missing Drive)
unfolding grammar is_read read clap_on_literals
check_without_a_drive = refl

option_of_a_check : job_of (line (codes "check --quiet")) ≡ Err (Extra Quiet)
unfolding grammar is_read read clap_on_literals
option_of_a_check = refl

-- Jobs with all that they may say.

run_of_components : job_of (line (codes "run --program wcc D0")) ≡ Ok (plain_run Wcc 4294967295 false false)
unfolding grammar is_read read clap_on_literals
run_of_components = refl

run_of_components-drives : names_of (line (codes "run --program wcc D0")) ≡ codes "D0" ∷ []
unfolding grammar is_read read clap_on_literals
run_of_components-drives = refl

run_of_cores : job_of (line (codes "run --each --program core --max 7 D0")) ≡ Ok (plain_run Core 7 true false)
unfolding grammar is_read read clap_on_literals
run_of_cores = refl

quiet_rank : job_of (line (codes "ref --program rank --quiet D")) ≡ Ok (Ref (Rank 1048) 4294967295 false true)
unfolding grammar is_read read clap_on_literals
quiet_rank = refl

quiet_rank-drives : names_of (line (codes "ref --program rank --quiet D")) ≡ codes "D" ∷ []
unfolding grammar is_read read clap_on_literals
quiet_rank-drives = refl

weights : job_of (line (codes "ref --source 4294967295 --program sssp --max 1 D")) ≡ Ok (Ref (Sssp 4294967295) 1 false false)
unfolding grammar is_read read clap_on_literals
weights = refl

check_of_three_drives : job_of (line (codes "check D0 D1 D2")) ≡ Ok Check
unfolding grammar is_read read clap_on_literals
check_of_three_drives = refl

check_of_three_drives-drives : names_of (line (codes "check D0 D1 D2")) ≡ codes "D0" ∷ codes "D1" ∷ codes "D2" ∷ []
unfolding grammar is_read read clap_on_literals
check_of_three_drives-drives = refl

plain_build : job_of (line (codes "build D")) ≡ Ok (Build 16 0 false)
unfolding grammar is_read read clap_on_literals
plain_build = refl

plain_build-drives : names_of (line (codes "build D")) ≡ codes "D" ∷ []
unfolding grammar is_read read clap_on_literals
plain_build-drives = refl

whole_build : job_of (line (codes "build D0 --unit 256 --undirected D1 --number 18446744073709551615")) ≡ Ok (Build 256 18446744073709551615 true)
unfolding grammar is_read read clap_on_literals
whole_build = refl

whole_build-drives : names_of (line (codes "build D0 --unit 256 --undirected D1 --number 18446744073709551615")) ≡ codes "D0" ∷ codes "D1" ∷ []
unfolding grammar is_read read clap_on_literals
whole_build-drives = refl

generated_edges : job_of (line (codes "gen --edges 67108864 --nodes 16777216 --start 42")) ≡ Ok (Gen 42 16777216 67108864)
unfolding grammar is_read read clap_on_literals
generated_edges = refl

generated_edges-drives : names_of (line (codes "gen --edges 67108864 --nodes 16777216 --start 42")) ≡ []
unfolding grammar is_read read clap_on_literals
generated_edges-drives = refl

whole_large_run : job_of (line (codes "large --drives 16 --unit 1 --undirected --max 3 --cut 2 --program rank --start 5 --nodes 6 --edges 7")) ≡ Ok (Large (Rank 2) 3 4 64 8 64 10 false 1 true 5 6 7 16)
unfolding grammar is_read read clap_on_literals
whole_large_run = refl

whole_large_run-drives : names_of (line (codes "large --drives 16 --unit 1 --undirected --max 3 --cut 2 --program rank --start 5 --nodes 6 --edges 7")) ≡ []
unfolding grammar is_read read clap_on_literals
whole_large_run-drives = refl

-- The drives of refused words, and the input.

drives_of_refused_words : names_of (line (codes "run --program bfs D")) ≡ []
unfolding grammar is_read read clap_on_literals
drives_of_refused_words = refl

input_named : input_of (line (codes "build --input a.txt D")) ≡ Some (codes "a.txt")
unfolding grammar is_read read clap_on_literals
input_named = refl

input_like_an_option : input_of (line (codes "build --input=--unit D")) ≡ Some (codes "--unit")
unfolding grammar is_read read clap_on_literals
input_like_an_option = refl

input_with_equals : input_of (line (codes "build --input=a=b D")) ≡ Some (codes "a=b")
unfolding grammar is_read read clap_on_literals
input_with_equals = refl

input_of_no_letter : input_of (line (codes "build --input= D")) ≡ Some []
unfolding grammar is_read read clap_on_literals
input_of_no_letter = refl

input_of_refused_words : input_of (line (codes "build --input a.txt")) ≡ None
unfolding grammar is_read read clap_on_literals
input_of_refused_words = refl

no_input : input_of (line (codes "build D")) ≡ None
unfolding grammar is_read read clap_on_literals
no_input = refl
