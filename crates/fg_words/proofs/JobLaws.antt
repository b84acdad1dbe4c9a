-- Words without a fault give a job, whose numbers are within the limits and which has the drives that it works on.
use Rattle.std.proofs.Common.{◌≡◌, ℕ, ◌*◌, ◌≤◌, Bool, true, false, ◌&&◌, ◌||◌, not, nat_le, nat_lt, Option, Some, None, IfSome, Result, Ok, Err, List, [], ◌∷◌, if◌then◌else◌, find, suc, zero, is_ok, is_some, length, option_map, option_and_then, refl, sym, ◌∙◌, ap, subst, arith}
use Rattle.std.proofs.lemmas.Bool.Decides.{nat_tests}
use Rattle.std.proofs.lemmas.Option.{same_Some}
use Rattle.std.specs.Option.{option_or}
use Rattle.std.specs.Prelude.{slice_get}
use Rattle.std.specs.Str.Parse.{digits_value}
use Rattle.clap.specs.Walk.{Row}
use Rattle.fg_base.specs.declared.refusal.Opt.{Opt}
use Rattle.fg_base.specs.declared.refusal.Opt.TheVariants.{Program, Source, Max, Cut, Workers, Sets, Ways, Depth, Shift, Unit as UnitPages, Start, Nodes, Edges, Drives, Drive}
use Rattle.fg_base.specs.declared.refusal.WordFault.{WordFault}
use Rattle.fg_base.specs.declared.refusal.WordFault.TheVariants.{Parse, Extra, Missing, Range}
use Rattle.fg_words.specs.declared.jobs.Job.{Job}
use Rattle.fg_words.specs.declared.jobs.Pick.{Pick}
use Rattle.fg_words.specs.declared.jobs.Recipe.{Recipe}
use Rattle.fg_words.specs.declared.command.Command.{Command}
use Rattle.fg_words.specs.declared.command.Command.TheVariants.{Build, Run, Ref, Check, Gen, Large}
use Rattle.fg_words.specs.declared.command.ProgramName.{ProgramName}
use Rattle.fg_words.specs.declared.command.ProgramName.TheVariants.{Bfs, Sssp, Wcc, Core, Rank}
use Rattle.fg_words.specs.declared.command_line.CommandLine.{CommandLine}
use Rattle.fg_words.specs.declared.said.Said.{Said}
use Rattle.fg_words.specs.declared.said.Said.TheVariants.{Nothing, OutOfRange, Value}
use Rattle.fg_words.specs.Options.{table}
use Rattle.fg_words.specs.Grammar.{is_read, read}
use Rattle.fg_words.specs.Reading.{command_in, drives_in, value_of}
use Rattle.fg_words.specs.CommandLine.{command_of, fault_of, found, is_beyond, is_crowded, is_extra, is_missing, is_needed_by, is_number, is_out_of_range, is_taken_by, is_there, is_useful, is_vital, line_of, number_within, said, value_or}
use Rattle.fg_words.specs.Jobs.{AreDrives, AreGenerable, HasDrives, IsEngine, IsPick, IsRun, IsUnit, JobFits}
use Rattle.fg_words.specs.Words.{answer, answer_of, build_from, gen_from, job_from, job_of, judged, large_from, names_of, pick_of, picked, recipe_from, recipe_of, ref_from, run_from}

absent : (b : Bool) (option : Opt) (rest : Option Opt) → (if b then Some option else rest) ≡ None → b ≡ false
absent true option rest none = absurd (cc)
absent false option rest none = refl

passed : (b : Bool) (option : Opt) (rest : Option Opt) → (if b then Some option else rest) ≡ None → rest ≡ None
passed true option rest none = absurd (cc)
passed false option rest none = none

-- no option has a fault where there is none
pub record Sound (command : Command) (line : CommandLine) : Type 0 where
  pub extra : find (is_extra command line) table ≡ None
  pub missing : find (is_missing command line) table ≡ None
  pub beyond : find (is_beyond line) table ≡ None

all_none : (extra missing beyond : Option Opt) → option_or (option_map Extra extra) (option_or (option_map Missing missing) (option_map Range beyond)) ≡ None → (extra ≡ None) × (missing ≡ None) × (beyond ≡ None)
all_none None None None none = (refl, refl, refl)
all_none None None (Some option) none = absurd (cc)
all_none None (Some option) beyond none = absurd (cc)
all_none (Some option) missing beyond none = absurd (cc)

sound : (command : Command) (line : CommandLine) → fault_of command line ≡ None → Sound command line
sound command line none =
    let all = all_none (find (is_extra command line) table) (find (is_missing command line) table) (find (is_beyond line) table) none in
    record { extra = all.0; missing = all.1; beyond = all.2 }

not_missing : (b needed c : Bool) → needed ≡ true → (not b && (needed || c)) ≡ false → b ≡ true
not_missing true needed c is here = refl
not_missing false true c is here = absurd (cc)
not_missing false false c is here = absurd (cc)

-- what holds of no option of a list doesn't hold of the one at this place
clear_at : (p : Opt → Bool) (list : List Opt) (place : ℕ) (option : Opt) → slice_get list place ≡ Some option → find p list ≡ None → p option ≡ false
clear_at p [] place option is none = absurd (cc)
clear_at p (other ∷ list) zero option is none =
    subst (λ (option : Opt). p option ≡ false) (same_Some other option is) (absent (p other) other (find p list) none)
clear_at p (other ∷ list) (suc place) option is none = clear_at p list place option is (passed (p other) other (find p list) none)

-- Words without a fault pick a program where the command needs one, with the source that it needs.

is_wanted : (needed : Bool) → (true && (needed || true)) ≡ false → ⊥
is_wanted true none = cc
is_wanted false none = cc

picked_by : (program : Said ProgramName) (source cut : Said ℕ) (needed : Bool) → is_there program ≡ true → is_out_of_range program ≡ false → (not (is_there source) && (needed || is_vital program Source)) ≡ false → is_out_of_range source ≡ false → is_some (picked program source cut) ≡ true
picked_by Nothing source cut needed there within given inside = absurd (cc)
picked_by OutOfRange source cut needed there within given inside = absurd (cc)
picked_by (Value Wcc) source cut needed there within given inside = refl
picked_by (Value Core) source cut needed there within given inside = refl
picked_by (Value Rank) source cut needed there within given inside = refl
picked_by (Value Bfs) Nothing cut needed there within given inside = absurd (is_wanted needed given)
picked_by (Value Bfs) OutOfRange cut needed there within given inside = absurd (cc)
picked_by (Value Bfs) (Value source) cut needed there within given inside = refl
picked_by (Value Sssp) Nothing cut needed there within given inside = absurd (is_wanted needed given)
picked_by (Value Sssp) OutOfRange cut needed there within given inside = absurd (cc)
picked_by (Value Sssp) (Value source) cut needed there within given inside = refl

at_program : (p : Opt → Bool) → find p table ≡ None → p Program ≡ false
at_program p none = clear_at p table 0 Program refl none

at_source : (p : Opt → Bool) → find p table ≡ None → p Source ≡ false
at_source p none = clear_at p table 1 Source refl none

picks : (command : Command) (line : CommandLine) → is_needed_by command Program ≡ true → fault_of command line ≡ None → is_some (pick_of line) ≡ true
picks command line needed none =
    let clear = sound command line none in
    let there = not_missing (is_there line.program) (is_needed_by command Program) (is_vital line.program Program) needed (at_program (is_missing command line) clear.missing) in
    picked_by line.program line.source line.cut (is_needed_by command Source) there (at_program (is_beyond line) clear.beyond) (at_source (is_missing command line) clear.missing) (at_source (is_beyond line) clear.beyond)

-- They say how edges are generated where the command needs that.

at_start : (p : Opt → Bool) → find p table ≡ None → p Start ≡ false
at_start p none = clear_at p table 17 Start refl none

at_nodes : (p : Opt → Bool) → find p table ≡ None → p Nodes ≡ false
at_nodes p none = clear_at p table 18 Nodes refl none

at_edges : (p : Opt → Bool) → find p table ≡ None → p Edges ≡ false
at_edges p none = clear_at p table 19 Edges refl none

at_drive : (p : Opt → Bool) → find p table ≡ None → p Drive ≡ false
at_drive p none = clear_at p table 21 Drive refl none

-- a value is there, within its range
abbrev IsSaid : Said ℕ → Type 0
IsSaid what = (is_there what ≡ true) × (is_out_of_range what ≡ false)

recipe_by : (start nodes edges : Said ℕ) (undirected : Bool) → IsSaid start → IsSaid nodes → IsSaid edges → is_some (recipe_from start nodes edges undirected) ≡ true
recipe_by Nothing nodes edges undirected one two three = absurd (cc)
recipe_by OutOfRange nodes edges undirected one two three = absurd (cc)
recipe_by (Value start) Nothing edges undirected one two three = absurd (cc)
recipe_by (Value start) OutOfRange edges undirected one two three = absurd (cc)
recipe_by (Value start) (Value nodes) Nothing undirected one two three = absurd (cc)
recipe_by (Value start) (Value nodes) OutOfRange undirected one two three = absurd (cc)
recipe_by (Value start) (Value nodes) (Value edges) undirected one two three = refl

says_recipe : (command : Command) (line : CommandLine) → is_needed_by command Start ≡ true → is_needed_by command Nodes ≡ true → is_needed_by command Edges ≡ true →
    fault_of command line ≡ None → is_some (recipe_of line) ≡ true
says_recipe command line start nodes edges none =
    let clear = sound command line none in
    let missing = is_missing command line in
    recipe_by line.start line.nodes line.edges line.undirected
    (not_missing (is_there line.start) (is_needed_by command Start) (is_vital line.program Start) start (at_start missing clear.missing), at_start (is_beyond line) clear.beyond)
    (not_missing (is_there line.nodes) (is_needed_by command Nodes) (is_vital line.program Nodes) nodes (at_nodes missing clear.missing), at_nodes (is_beyond line) clear.beyond)
    (not_missing (is_there line.edges) (is_needed_by command Edges) (is_vital line.program Edges) edges (at_edges missing clear.missing), at_edges (is_beyond line) clear.beyond)

-- So they give a job.

mapped : {A B : Type 0} (f : A → B) (value : Option A) → is_some value ≡ true → is_some (option_map f value) ≡ true
mapped f None there = absurd (cc)
mapped f (Some value) there = refl

large_there : (line : CommandLine) (pick : Option Pick) (recipe : Option Recipe) → is_some pick ≡ true → is_some recipe ≡ true → is_some (large_from line pick recipe) ≡ true
large_there line None recipe one two = absurd (cc)
large_there line (Some pick) None one two = absurd (cc)
large_there line (Some pick) (Some recipe) one two = refl

pub names_a_job : (command : Command) (line : CommandLine) → fault_of command line ≡ None → is_some (job_from command line) ≡ true
names_a_job Build line none = refl
names_a_job Run line none = mapped (run_from line) (pick_of line) (picks Run line refl none)
names_a_job Ref line none = mapped (ref_from line) (pick_of line) (picks Ref line refl none)
names_a_job Check line none = refl
names_a_job Gen line none = mapped gen_from (recipe_of line) (says_recipe Gen line refl refl refl none)
names_a_job Large line none = large_there line (pick_of line) (recipe_of line) (picks Large line refl none) (says_recipe Large line refl refl refl none)

-- The job of a command, and what it is made of.

map_of : {A B : Type 0} (f : A → B) (value : Option A) (made : B) → option_map f value ≡ Some made → (x : A) × (value ≡ Some x) × (f x ≡ made)
map_of f None made is = absurd (cc)
map_of f (Some x) made is = (x, refl, same_Some (f x) made is)

large_of : (line : CommandLine) (pick : Option Pick) (recipe : Option Recipe) (job : Job) → large_from line pick recipe ≡ Some job →
    (some_pick : Pick) × (some_recipe : Recipe) × (pick ≡ Some some_pick) × (recipe ≡ Some some_recipe) × (large_from line (Some some_pick) (Some some_recipe) ≡ Some job)
large_of line None recipe job is = absurd (cc)
large_of line (Some pick) None job is = absurd (cc)
large_of line (Some pick) (Some recipe) job is = (pick, recipe, refl, refl, is)

-- an answer that gives a job
given_job : (fault : Option WordFault) (made : Option Job) (job : Job) → answer fault made ≡ Ok job → (fault ≡ None) × (made ≡ Some job)
given_job (Some fault) made job is = absurd (cc)
given_job None None job is = absurd (cc)
given_job None (Some made) job is = (refl, cc)

-- A job has the drives that it works on.

some_drives : (command : Command) (line : CommandLine) → is_needed_by command Drive ≡ true → fault_of command line ≡ None → AreDrives line.drives
some_drives command line needed none =
    let clear = sound command line none in
    let some : nat_lt 0 line.drives ≡ true =
    not_missing (nat_lt 0 line.drives) (is_needed_by command Drive) (is_vital line.program Drive) needed (at_drive (is_missing command line) clear.missing) in
    let few : nat_lt 16 line.drives ≡ false = at_drive (is_beyond line) clear.beyond in
    (grind (arith, nat_tests), grind (arith, nat_tests))

not_there : (given taken useful : Bool) → taken ≡ false → (given && not (taken && useful)) ≡ false → given ≡ false
not_there false taken useful none is = refl
not_there true false useful none is = absurd (cc)
not_there true true useful none is = absurd (cc)

no_drives : (command : Command) (line : CommandLine) → is_taken_by command Drive ≡ false → fault_of command line ≡ None → line.drives ≤ 0
no_drives command line taken none =
    let clear = sound command line none in
    let nowhere : nat_lt 0 line.drives ≡ false =
    not_there (nat_lt 0 line.drives) (is_taken_by command Drive) (is_useful line.program Drive) taken (at_drive (is_extra command line) clear.extra) in
    grind (arith, nat_tests)

has_drives : (command : Command) (line : CommandLine) (job : Job) → fault_of command line ≡ None → job_from command line ≡ Some job → HasDrives job line.drives
has_drives Build line job none is =
    let P : Job → Type 0 = λ job. HasDrives job line.drives in subst P (same_Some (build_from line) job is) (some_drives Build line refl none)
has_drives Run line job none is =
    let P : Job → Type 0 = λ job. HasDrives job line.drives in subst P (map_of (run_from line) (pick_of line) job is).2 (some_drives Run line refl none)
has_drives Ref line job none is =
    let P : Job → Type 0 = λ job. HasDrives job line.drives in subst P (map_of (ref_from line) (pick_of line) job is).2 (some_drives Ref line refl none)
has_drives Check line job none is =
    let P : Job → Type 0 = λ job. HasDrives job line.drives in subst P (same_Some Job.Check job is) (some_drives Check line refl none)
has_drives Gen line job none is =
    let P : Job → Type 0 = λ job. HasDrives job line.drives in subst P (map_of gen_from (recipe_of line) job is).2 (no_drives Gen line refl none)
has_drives Large line job none is =
    let P : Job → Type 0 = λ job. HasDrives job line.drives in
    subst P (same_Some _ job (large_of line (pick_of line) (recipe_of line) job is).4) (no_drives Large line refl none)

-- The numbers of a job are within the limits.

-- what holds of a value that is said within its range
abbrev IfSaid : Said ℕ → (ℕ → Type 0) → Type 0
IfSaid Nothing P = Unit {0}
IfSaid OutOfRange P = Unit {0}
IfSaid (Value value) P = P value

found_fits : (value : Option ℕ) (P : ℕ → Type 0) → IfSome value P → IfSaid (found value) P
found_fits None P fits = tt
found_fits (Some value) P fits = fits

if_within : (a b c : Bool) (number : ℕ) (P : ℕ → Type 0) → (b ≡ true → c ≡ true → P number) → IfSome (if a && b && c then Some number else None) P
if_within true true true number P fits = fits refl refl
if_within true true false number P fits = tt
if_within true false c number P fits = tt
if_within false b c number P fits = tt

-- a number within a range, said or not
abbrev IsWithin : ℕ → ℕ → ℕ → Type 0
IsWithin least most number = (least ≤ number) × (number ≤ most)

from_least : (least most number : ℕ) → nat_le least number ≡ true → nat_le number most ≡ true → IsWithin least most number
from_least least most number from_ to = (grind (arith, nat_tests), grind (arith, nat_tests))

said_within : (least most : ℕ) (word : Option (List ℕ)) → IfSaid (said (number_within least most) word) (IsWithin least most)
said_within least most None = tt
said_within least most (Some word) =
    let number = digits_value 10 word in
    found_fits (number_within least most word) (IsWithin least most)
    (if_within (is_number word) (nat_le least number) (nat_le number most) number (IsWithin least most) (from_least least most number))

or_default : (what : Said ℕ) (default : ℕ) (P : ℕ → Type 0) → IfSaid what P → P default → P (value_or what default)
or_default Nothing default P fits default_fits = default_fits
or_default OutOfRange default P fits default_fits = default_fits
or_default (Value value) default P fits default_fits = fits

first_of_both : (what : Said ℕ) (least most : ℕ) → IfSaid what (IsWithin least most) → IfSaid what (λ number. least ≤ number)
first_of_both Nothing least most fits = tt
first_of_both OutOfRange least most fits = tt
first_of_both (Value value) least most fits = fits.0

unit_fits : (word : Option (List ℕ)) → IsUnit (value_or (said (number_within 1 256) word) 16)
unit_fits word = or_default (said (number_within 1 256) word) 16 IsUnit (said_within 1 256 word) (omega arith, omega arith)

made_fits : (word : Option (List ℕ)) → AreDrives (value_or (said (number_within 1 16) word) 1)
made_fits word = or_default (said (number_within 1 16) word) 1 AreDrives (said_within 1 16 word) (omega arith, omega arith)

recipe_fits : (start nodes edges : Said ℕ) (undirected : Bool) (recipe : Recipe) → IfSaid nodes (IsWithin 1 16777216) → IfSaid edges (IsWithin 0 67108864) →
    recipe_from start nodes edges undirected ≡ Some recipe → AreGenerable recipe.nodes recipe.edges
recipe_fits Nothing nodes edges undirected recipe two three is = absurd (cc)
recipe_fits OutOfRange nodes edges undirected recipe two three is = absurd (cc)
recipe_fits (Value start) Nothing edges undirected recipe two three is = absurd (cc)
recipe_fits (Value start) OutOfRange edges undirected recipe two three is = absurd (cc)
recipe_fits (Value start) (Value nodes) Nothing undirected recipe two three is = absurd (cc)
recipe_fits (Value start) (Value nodes) OutOfRange undirected recipe two three is = absurd (cc)
recipe_fits (Value start) (Value nodes) (Value edges) undirected recipe two three is =
    let P : Recipe → Type 0 = λ recipe. AreGenerable recipe.nodes recipe.edges in
    subst P (same_Some (record { start = start; nodes = nodes; edges = edges; undirected = undirected }) recipe is) (two.0, two.1, three.1)

line_recipe_fits : (rows : List Row) (recipe : Recipe) → recipe_of (line_of rows) ≡ Some recipe → AreGenerable recipe.nodes recipe.edges
line_recipe_fits rows recipe is =
    let line = line_of rows in
    recipe_fits line.start line.nodes line.edges line.undirected recipe (said_within 1 16777216 (value_of Nodes rows)) (said_within 0 67108864 (value_of Edges rows)) is

most_fits : (word : Option (List ℕ)) → 1 ≤ value_or (said (number_within 1 4294967295) word) 4294967295
most_fits word =
    let P : ℕ → Type 0 = λ most. 1 ≤ most in
    or_default (said (number_within 1 4294967295) word) 4294967295 P (first_of_both (said (number_within 1 4294967295) word) 1 4294967295 (said_within 1 4294967295 word)) (omega arith)

pick_fits : (program : Said ProgramName) (source cut : Said ℕ) (pick : Pick) → IfSaid cut (IsWithin 1 18446744073709551615) →
    picked program source cut ≡ Some pick → IsPick pick
pick_fits Nothing source cut pick fits is = absurd (cc)
pick_fits OutOfRange source cut pick fits is = absurd (cc)
pick_fits (Value Bfs) Nothing cut pick fits is = absurd (cc)
pick_fits (Value Bfs) OutOfRange cut pick fits is = absurd (cc)
pick_fits (Value Bfs) (Value source) cut pick fits is = subst IsPick (same_Some _ pick is) tt
pick_fits (Value Sssp) Nothing cut pick fits is = absurd (cc)
pick_fits (Value Sssp) OutOfRange cut pick fits is = absurd (cc)
pick_fits (Value Sssp) (Value source) cut pick fits is = subst IsPick (same_Some _ pick is) tt
pick_fits (Value Wcc) source cut pick fits is = subst IsPick (same_Some _ pick is) tt
pick_fits (Value Core) source cut pick fits is = subst IsPick (same_Some _ pick is) tt
pick_fits (Value Rank) source cut pick fits is =
    let P : ℕ → Type 0 = λ cut. 1 ≤ cut in
    subst IsPick (same_Some _ pick is) (or_default cut 1048 P (first_of_both cut 1 18446744073709551615 fits) (omega arith))

run_fits : (rows : List Row) (pick : Pick) → pick_of (line_of rows) ≡ Some pick → IsRun pick (value_or (line_of rows).max 4294967295)
run_fits rows pick is =
    let line = line_of rows in
    (pick_fits line.program line.source line.cut pick (said_within 1 18446744073709551615 (value_of Cut rows)) is, most_fits (value_of Max rows))

-- The engine of a run.

-- so many sets of so many ways are no more than the frames of a cache
abbrev AreFew : ℕ → ℕ → Type 0
AreFew sets ways = sets * ways ≤ 262144

few_frames_at : (number : Bool) (sets ways : ℕ) → number ≡ true → (number && nat_lt 262144 (sets * ways)) ≡ false → AreFew sets ways
few_frames_at true sets ways is few = grind (arith, nat_tests)
few_frames_at false sets ways is few = absurd (cc)

-- the ways that a word gives within their range are its number
few_frames_by : (number least most : Bool) (sets ways : ℕ) → is_out_of_range (found (if number && least && most then Some ways else None)) ≡ false →
    (number && nat_lt 262144 (sets * ways)) ≡ false → AreFew sets (value_or (found (if number && least && most then Some ways else None)) 8)
few_frames_by true true true sets ways inside few = few_frames_at true sets ways refl few
few_frames_by true true false sets ways inside few = absurd (cc)
few_frames_by true false most sets ways inside few = absurd (cc)
few_frames_by false least most sets ways inside few = absurd (cc)

few_frames : (sets : ℕ) (word : Option (List ℕ)) → is_out_of_range (said (number_within 1 16) word) ≡ false → is_crowded sets word ≡ false →
    AreFew sets (value_or (said (number_within 1 16) word) 8)
few_frames sets None inside few = grind (arith, nat_tests)
few_frames sets (Some word) inside few =
    let ways = digits_value 10 word in few_frames_by (is_number word) (nat_le 1 ways) (nat_le ways 16) sets ways inside few

neither : (a b : Bool) → (a || b) ≡ false → b ≡ false
neither true b none = absurd (cc)
neither false b none = none

at_sets : (p : Opt → Bool) → find p table ≡ None → p Sets ≡ false
at_sets p none = clear_at p table 7 Sets refl none

at_ways : (p : Opt → Bool) → find p table ≡ None → p Ways ≡ false
at_ways p none = clear_at p table 8 Ways refl none

line_few_frames : (command : Command) (rows : List Row) → fault_of command (line_of rows) ≡ None → AreFew (value_or (line_of rows).sets 64) (value_or (line_of rows).ways 8)
line_few_frames command rows none =
    let line = line_of rows in
    let clear = sound command line none in
    few_frames (value_or line.sets 64) (value_of Ways rows) (at_ways (is_beyond line) clear.beyond)
    (neither (is_out_of_range line.sets) line.crowded (at_sets (is_beyond line) clear.beyond))

within_or : (least most default : ℕ) (word : Option (List ℕ)) → IsWithin least most default → IsWithin least most (value_or (said (number_within least most) word) default)
within_or least most default word fits = or_default (said (number_within least most) word) default (IsWithin least most) (said_within least most word) fits

engine_fits : (command : Command) (rows : List Row) → fault_of command (line_of rows) ≡ None →
    let line = line_of rows in IsEngine (value_or line.workers 4) (value_or line.sets 64) (value_or line.ways 8) (value_or line.depth 64) (value_or line.shift 10)
engine_fits command rows none =
    let workers = within_or 1 64 4 (value_of Workers rows) (omega arith, omega arith) in
    let sets = within_or 1 262144 64 (value_of Sets rows) (omega arith, omega arith) in
    let ways = within_or 1 16 8 (value_of Ways rows) (omega arith, omega arith) in
    let depth = within_or 1 1024 64 (value_of Depth rows) (omega arith, omega arith) in
    let shift = within_or 0 16 10 (value_of Shift rows) (omega arith, omega arith) in
    record {
      some_workers = workers.0;
      few_workers = workers.1;
      some_sets = sets.0;
      few_sets = sets.1;
      some_ways = ways.0;
      few_ways = ways.1;
      few_frames = line_few_frames command rows none;
      some_depth = depth.0;
      small_depth = depth.1;
      small_shift = shift.1;
    }

job_fits_by : (command : Command) (rows : List Row) (job : Job) → fault_of command (line_of rows) ≡ None → job_from command (line_of rows) ≡ Some job → JobFits job
job_fits_by Build rows job none is = subst JobFits (same_Some (build_from (line_of rows)) job is) (unit_fits (value_of UnitPages rows))
job_fits_by Run rows job none is =
    let made = map_of (run_from (line_of rows)) (pick_of (line_of rows)) job is in
    subst JobFits made.2 (run_fits rows made.0 made.1, engine_fits Run rows none)
job_fits_by Ref rows job none is =
    let made = map_of (ref_from (line_of rows)) (pick_of (line_of rows)) job is in subst JobFits made.2 (run_fits rows made.0 made.1)
job_fits_by Check rows job none is = subst JobFits (same_Some Job.Check job is) tt
job_fits_by Gen rows job none is =
    let made = map_of gen_from (recipe_of (line_of rows)) job is in
    subst JobFits made.2 (line_recipe_fits rows made.0 made.1)
job_fits_by Large rows job none is =
    let line = line_of rows in
    let made = large_of line (pick_of line) (recipe_of line) job is in
    subst JobFits (same_Some _ job made.4)
    (run_fits rows made.0 made.2, unit_fits (value_of UnitPages rows), line_recipe_fits rows made.1 made.3, made_fits (value_of Drives rows), engine_fits Large rows none)

-- An accepted job.

-- the job has the drives that these rows name, and its numbers are within the limits
record Sounds (job : Job) (rows : List Row) : Type 0 where
  drives : HasDrives job (length (drives_in rows))
  fits : JobFits job

sound_by : (command : Option Command) (rows : List Row) (job : Job) → judged command (line_of rows) ≡ Ok job → Sounds job rows
sound_by None rows job accepted = absurd (cc)
sound_by (Some command) rows job accepted =
    let line = line_of rows in
    let made = given_job (fault_of command line) (job_from command line) job accepted in
    record { drives = has_drives command line job made.0 made.1; fits = job_fits_by command rows job made.0 made.1 }

-- what words ask for stands in them, where they are read
asked : (is_there : Bool) (answer : Result Job WordFault) (job : Job) → (if is_there then answer else Err Parse) ≡ Ok job → answer ≡ Ok job
asked true answer job is = is
asked false answer job is = absurd (cc)

-- what is asked for in words that are read is their job
pub accepted_by : (words : List (List ℕ)) (rows : List Row) (job : Job) → (is_read words ≡ true) × (rows ≡ read words) → Ok job ≡ answer_of rows → job_of words ≡ Ok job
accepted_by words rows job reads answers =
    ap (λ (is_there : Bool). if is_there then answer_of (read words) else Err Parse) reads.0 ∙ ap answer_of (sym reads.1) ∙ sym answers

sound_words : (words : List (List ℕ)) (job : Job) → job_of words ≡ Ok job → Sounds job (read words)
sound_words words job accepted =
    sound_by (option_and_then command_of (command_in (read words))) (read words) job (asked (is_read words) (answer_of (read words)) job accepted)

-- an accepted job names the drives that it works on
pub named_drives : (words : List (List ℕ)) (job : Job) → job_of words ≡ Ok job → HasDrives job (length (names_of words))
named_drives words job accepted =
    let P : List (List ℕ) → Type 0 = λ names. HasDrives job (length names) in
    subst P (sym (ap (λ (answer : Result Job WordFault). if is_ok answer then drives_in (read words) else []) accepted)) (sound_words words job accepted).drives

-- its numbers are within the limits
pub accepted_fits : (words : List (List ℕ)) (job : Job) → job_of words ≡ Ok job → JobFits job
accepted_fits words job accepted = (sound_words words job accepted).fits
