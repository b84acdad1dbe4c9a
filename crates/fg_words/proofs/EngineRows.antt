-- What words ask for that say something of the engine, computed from the definition: the limits of its numbers, and their
-- order among the faults.
use Rattle.std.proofs.Common.{◌≡◌, true, false, Ok, Err, codes, refl}
use Rattle.clap.proofs.OnLiterals.{clap_on_literals}
use Rattle.fg_base.specs.declared.refusal.Opt.TheVariants.{Source, Max, Quiet, Workers, Sets, Ways, Depth, Shift, Helpers, Stats, Unit as UnitPages, Drive}
use Rattle.fg_base.specs.declared.refusal.WordFault.TheVariants.{Parse, Extra, Missing, Range}
use Rattle.fg_words.specs.declared.jobs.Job.TheVariants.{Run, Large}
use Rattle.fg_words.specs.declared.jobs.Pick.TheVariants.{Bfs, Wcc}
use Rattle.fg_words.specs.Grammar.{grammar, is_read, read}
use Rattle.fg_words.specs.Words.{job_of}
use Rattle.fg_words.proofs.Rows.{line}

-- Each number at its least and at its most, and just outside.

one_worker : job_of (line (codes "run --program bfs --source 0 --workers 1 D")) ≡ Ok (Run (Bfs 0) 4294967295 false false 1 64 8 64 10 false false)
unfolding grammar is_read read clap_on_literals
one_worker = refl

most_workers : job_of (line (codes "run --program bfs --source 0 --workers 64 D")) ≡ Ok (Run (Bfs 0) 4294967295 false false 64 64 8 64 10 false false)
unfolding grammar is_read read clap_on_literals
most_workers = refl

no_worker : job_of (line (codes "run --program bfs --source 0 --workers 0 D")) ≡ Err (Range Workers)
unfolding grammar is_read read clap_on_literals
no_worker = refl

too_many_workers : job_of (line (codes "run --program bfs --source 0 --workers 65 D")) ≡ Err (Range Workers)
unfolding grammar is_read read clap_on_literals
too_many_workers = refl

one_set : job_of (line (codes "run --program bfs --source 0 --sets 1 D")) ≡ Ok (Run (Bfs 0) 4294967295 false false 4 1 8 64 10 false false)
unfolding grammar is_read read clap_on_literals
one_set = refl

most_sets : job_of (line (codes "run --program bfs --source 0 --sets 262144 --ways 1 D")) ≡ Ok (Run (Bfs 0) 4294967295 false false 4 262144 1 64 10 false false)
unfolding grammar is_read read clap_on_literals
most_sets = refl

no_set : job_of (line (codes "run --program bfs --source 0 --sets 0 D")) ≡ Err (Range Sets)
unfolding grammar is_read read clap_on_literals
no_set = refl

too_many_sets : job_of (line (codes "run --program bfs --source 0 --sets 262145 --ways 1 D")) ≡ Err (Range Sets)
unfolding grammar is_read read clap_on_literals
too_many_sets = refl

one_way : job_of (line (codes "run --program bfs --source 0 --ways 1 D")) ≡ Ok (Run (Bfs 0) 4294967295 false false 4 64 1 64 10 false false)
unfolding grammar is_read read clap_on_literals
one_way = refl

most_ways : job_of (line (codes "run --program bfs --source 0 --ways 16 D")) ≡ Ok (Run (Bfs 0) 4294967295 false false 4 64 16 64 10 false false)
unfolding grammar is_read read clap_on_literals
most_ways = refl

no_way : job_of (line (codes "run --program bfs --source 0 --ways 0 D")) ≡ Err (Range Ways)
unfolding grammar is_read read clap_on_literals
no_way = refl

too_many_ways : job_of (line (codes "run --program bfs --source 0 --ways 17 D")) ≡ Err (Range Ways)
unfolding grammar is_read read clap_on_literals
too_many_ways = refl

depth_of_one : job_of (line (codes "run --program bfs --source 0 --depth 1 D")) ≡ Ok (Run (Bfs 0) 4294967295 false false 4 64 8 1 10 false false)
unfolding grammar is_read read clap_on_literals
depth_of_one = refl

most_depth : job_of (line (codes "run --program bfs --source 0 --depth 1024 D")) ≡ Ok (Run (Bfs 0) 4294967295 false false 4 64 8 1024 10 false false)
unfolding grammar is_read read clap_on_literals
most_depth = refl

depth_of_none : job_of (line (codes "run --program bfs --source 0 --depth 0 D")) ≡ Err (Range Depth)
unfolding grammar is_read read clap_on_literals
depth_of_none = refl

too_deep : job_of (line (codes "run --program bfs --source 0 --depth 1025 D")) ≡ Err (Range Depth)
unfolding grammar is_read read clap_on_literals
too_deep = refl

shift_of_none : job_of (line (codes "run --program bfs --source 0 --shift 0 D")) ≡ Ok (Run (Bfs 0) 4294967295 false false 4 64 8 64 0 false false)
unfolding grammar is_read read clap_on_literals
shift_of_none = refl

most_shift : job_of (line (codes "run --program bfs --source 0 --shift 16 D")) ≡ Ok (Run (Bfs 0) 4294967295 false false 4 64 8 64 16 false false)
unfolding grammar is_read read clap_on_literals
most_shift = refl

shift_below_none : job_of (line (codes "run --program bfs --source 0 --shift=-1 D")) ≡ Err (Range Shift)
unfolding grammar is_read read clap_on_literals
shift_below_none = refl

too_far : job_of (line (codes "run --program bfs --source 0 --shift 17 D")) ≡ Err (Range Shift)
unfolding grammar is_read read clap_on_literals
too_far = refl

helpers_of_a_run : job_of (line (codes "run --helpers --program bfs --source 0 D")) ≡ Ok (Run (Bfs 0) 4294967295 false false 4 64 8 64 10 true false)
unfolding grammar is_read read clap_on_literals
helpers_of_a_run = refl

helpers_with_a_value : job_of (line (codes "run --helpers=1 --program bfs --source 0 D")) ≡ Err Parse
unfolding grammar is_read read clap_on_literals
helpers_with_a_value = refl

helpers_twice : job_of (line (codes "run --helpers --program bfs --helpers --source 0 D")) ≡ Err Parse
unfolding grammar is_read read clap_on_literals
helpers_twice = refl

workers_twice : job_of (line (codes "run --workers 1 --workers=1 --program bfs --source 0 D")) ≡ Err Parse
unfolding grammar is_read read clap_on_literals
workers_twice = refl

whole_engine : job_of (line (codes "run --shift 2 --depth=3 --helpers --ways 5 --program bfs --sets=7 --source 0 --workers 11 D")) ≡ Ok (Run (Bfs 0) 4294967295 false false 11 7 5 3 2 true false)
unfolding grammar is_read read clap_on_literals
whole_engine = refl

-- Sets times ways are 262144 at most; ways count there in their range or not, unless they are no number.

product_at_its_most : job_of (line (codes "run --program bfs --source 0 --sets 16384 --ways 16 D")) ≡ Ok (Run (Bfs 0) 4294967295 false false 4 16384 16 64 10 false false)
unfolding grammar is_read read clap_on_literals
product_at_its_most = refl

product_past_its_most : job_of (line (codes "run --program bfs --source 0 --sets 16385 --ways 16 D")) ≡ Err (Range Sets)
unfolding grammar is_read read clap_on_literals
product_past_its_most = refl

most_sets_of_two_ways : job_of (line (codes "run --program bfs --source 0 --sets 262144 --ways 2 D")) ≡ Err (Range Sets)
unfolding grammar is_read read clap_on_literals
most_sets_of_two_ways = refl

most_sets_of_too_many_ways : job_of (line (codes "run --program bfs --source 0 --sets 262144 --ways 17 D")) ≡ Err (Range Sets)
unfolding grammar is_read read clap_on_literals
most_sets_of_too_many_ways = refl

most_sets_of_no_way : job_of (line (codes "run --program bfs --source 0 --sets 262144 --ways 0 D")) ≡ Err (Range Ways)
unfolding grammar is_read read clap_on_literals
most_sets_of_no_way = refl

most_sets_of_ways_in_letters : job_of (line (codes "run --program bfs --source 0 --sets 262144 --ways x D")) ≡ Err (Range Ways)
unfolding grammar is_read read clap_on_literals
most_sets_of_ways_in_letters = refl

sets_at_their_most_by_default_ways : job_of (line (codes "run --program bfs --source 0 --sets 32768 D")) ≡ Ok (Run (Bfs 0) 4294967295 false false 4 32768 8 64 10 false false)
unfolding grammar is_read read clap_on_literals
sets_at_their_most_by_default_ways = refl

sets_past_their_most_by_default_ways : job_of (line (codes "run --program bfs --source 0 --sets 32769 D")) ≡ Err (Range Sets)
unfolding grammar is_read read clap_on_literals
sets_past_their_most_by_default_ways = refl

ways_past_the_default_sets : job_of (line (codes "run --program bfs --source 0 --ways 4097 D")) ≡ Err (Range Sets)
unfolding grammar is_read read clap_on_literals
ways_past_the_default_sets = refl

ways_within_the_default_sets : job_of (line (codes "run --program bfs --source 0 --ways 4096 D")) ≡ Err (Range Ways)
unfolding grammar is_read read clap_on_literals
ways_within_the_default_sets = refl

ways_of_33_bits : job_of (line (codes "run --program bfs --source 0 --sets 1 --ways 4294967296 D")) ≡ Err (Range Sets)
unfolding grammar is_read read clap_on_literals
ways_of_33_bits = refl

ways_of_twenty_digits : job_of (line (codes "run --program bfs --source 0 --sets 262144 --ways 99999999999999999999 D")) ≡ Err (Range Sets)
unfolding grammar is_read read clap_on_literals
ways_of_twenty_digits = refl

ways_of_twenty_one_digits : job_of (line (codes "run --program bfs --source 0 --sets 262144 --ways 999999999999999999999 D")) ≡ Err (Range Ways)
unfolding grammar is_read read clap_on_literals
ways_of_twenty_one_digits = refl

no_set_of_too_many_ways : job_of (line (codes "run --program bfs --source 0 --sets 0 --ways 17 D")) ≡ Err (Range Sets)
unfolding grammar is_read read clap_on_literals
no_set_of_too_many_ways = refl

-- Runs take these options alone, behind `quiet` and before `unit` in the order of refusals.

workers_of_a_run_in_memory : job_of (line (codes "ref --workers 2 --program bfs --source 0 D")) ≡ Err (Extra Workers)
unfolding grammar is_read read clap_on_literals
workers_of_a_run_in_memory = refl

workers_of_a_build : job_of (line (codes "build --workers 2 D")) ≡ Err (Extra Workers)
unfolding grammar is_read read clap_on_literals
workers_of_a_build = refl

workers_of_a_check : job_of (line (codes "check --workers 2 D")) ≡ Err (Extra Workers)
unfolding grammar is_read read clap_on_literals
workers_of_a_check = refl

workers_of_generated_edges : job_of (line (codes "gen --workers 2 --start 1 --nodes 1 --edges 1")) ≡ Err (Extra Workers)
unfolding grammar is_read read clap_on_literals
workers_of_generated_edges = refl

sets_of_a_run_in_memory : job_of (line (codes "ref --sets 0 --program bfs --source 0 D")) ≡ Err (Extra Sets)
unfolding grammar is_read read clap_on_literals
sets_of_a_run_in_memory = refl

ways_of_a_build : job_of (line (codes "build --ways 2 D")) ≡ Err (Extra Ways)
unfolding grammar is_read read clap_on_literals
ways_of_a_build = refl

depth_of_a_check : job_of (line (codes "check --depth 2 D")) ≡ Err (Extra Depth)
unfolding grammar is_read read clap_on_literals
depth_of_a_check = refl

shift_of_generated_edges : job_of (line (codes "gen --shift 2 --start 1 --nodes 1 --edges 1")) ≡ Err (Extra Shift)
unfolding grammar is_read read clap_on_literals
shift_of_generated_edges = refl

helpers_of_a_run_in_memory : job_of (line (codes "ref --helpers --program bfs --source 0 D")) ≡ Err (Extra Helpers)
unfolding grammar is_read read clap_on_literals
helpers_of_a_run_in_memory = refl

quiet_before_workers : job_of (line (codes "check --workers 2 --quiet D")) ≡ Err (Extra Quiet)
unfolding grammar is_read read clap_on_literals
quiet_before_workers = refl

workers_before_sets : job_of (line (codes "check --sets 2 --workers 2 D")) ≡ Err (Extra Workers)
unfolding grammar is_read read clap_on_literals
workers_before_sets = refl

helpers_before_unit : job_of (line (codes "ref --unit 1 --helpers --program bfs --source 0 D")) ≡ Err (Extra Helpers)
unfolding grammar is_read read clap_on_literals
helpers_before_unit = refl

extra_unit_before_range_of_workers : job_of (line (codes "run --unit 1 --workers 0 --program bfs --source 0 D")) ≡ Err (Extra UnitPages)
unfolding grammar is_read read clap_on_literals
extra_unit_before_range_of_workers = refl

missing_source_before_range_of_workers : job_of (line (codes "run --workers 0 --program bfs D")) ≡ Err (Missing Source)
unfolding grammar is_read read clap_on_literals
missing_source_before_range_of_workers = refl

missing_drive_before_range_of_the_product : job_of (line (codes "run --program bfs --source 0 --sets 262144")) ≡ Err (Missing Drive)
unfolding grammar is_read read clap_on_literals
missing_drive_before_range_of_the_product = refl

max_before_workers : job_of (line (codes "run --workers 0 --max 0 --program bfs --source 0 D")) ≡ Err (Range Max)
unfolding grammar is_read read clap_on_literals
max_before_workers = refl

workers_before_the_product : job_of (line (codes "run --sets 262144 --workers 65 --program bfs --source 0 D")) ≡ Err (Range Workers)
unfolding grammar is_read read clap_on_literals
workers_before_the_product = refl

the_product_before_depth : job_of (line (codes "run --depth 0 --sets 262144 --program bfs --source 0 D")) ≡ Err (Range Sets)
unfolding grammar is_read read clap_on_literals
the_product_before_depth = refl

ways_before_depth : job_of (line (codes "run --depth 0 --ways 17 --program bfs --source 0 D")) ≡ Err (Range Ways)
unfolding grammar is_read read clap_on_literals
ways_before_depth = refl

shift_before_unit : job_of (line (codes "large --unit 0 --shift 17 --program wcc --start 1 --nodes 1 --edges 1")) ≡ Err (Range Shift)
unfolding grammar is_read read clap_on_literals
shift_before_unit = refl

whole_engine_of_a_large_run : job_of (line (codes "large --shift 0 --depth 1 --helpers --ways 1 --program wcc --sets 1 --workers 8 --start 5 --nodes 6 --edges 7")) ≡ Ok (Large Wcc 4294967295 8 1 1 1 0 true 16 false 5 6 7 1)
unfolding grammar is_read read clap_on_literals
whole_engine_of_a_large_run = refl

product_of_a_large_run : job_of (line (codes "large --sets 32769 --program wcc --start 5 --nodes 6 --edges 7")) ≡ Err (Range Sets)
unfolding grammar is_read read clap_on_literals
product_of_a_large_run = refl

-- A run over drives alone takes `stats`, behind `helpers` and before `unit`.

stats_of_a_run : job_of (line (codes "run --stats --program bfs --source 0 D")) ≡ Ok (Run (Bfs 0) 4294967295 false false 4 64 8 64 10 false true)
unfolding grammar is_read read clap_on_literals
stats_of_a_run = refl

stats_with_a_value : job_of (line (codes "run --stats=1 --program bfs --source 0 D")) ≡ Err Parse
unfolding grammar is_read read clap_on_literals
stats_with_a_value = refl

stats_twice : job_of (line (codes "run --stats --program bfs --source 0 D --stats")) ≡ Err Parse
unfolding grammar is_read read clap_on_literals
stats_twice = refl

stats_of_a_run_in_memory : job_of (line (codes "ref --stats --program bfs --source 0 D")) ≡ Err (Extra Stats)
unfolding grammar is_read read clap_on_literals
stats_of_a_run_in_memory = refl

stats_of_a_large_run : job_of (line (codes "large --stats --program wcc --start 5 --nodes 6 --edges 7")) ≡ Err (Extra Stats)
unfolding grammar is_read read clap_on_literals
stats_of_a_large_run = refl

stats_of_a_build : job_of (line (codes "build --stats D")) ≡ Err (Extra Stats)
unfolding grammar is_read read clap_on_literals
stats_of_a_build = refl

stats_of_a_check : job_of (line (codes "check --stats D")) ≡ Err (Extra Stats)
unfolding grammar is_read read clap_on_literals
stats_of_a_check = refl

stats_of_generated_edges : job_of (line (codes "gen --stats --start 1 --nodes 1 --edges 1")) ≡ Err (Extra Stats)
unfolding grammar is_read read clap_on_literals
stats_of_generated_edges = refl

helpers_before_stats : job_of (line (codes "ref --stats --helpers --program bfs --source 0 D")) ≡ Err (Extra Helpers)
unfolding grammar is_read read clap_on_literals
helpers_before_stats = refl

stats_before_unit : job_of (line (codes "ref --unit 1 --stats --program bfs --source 0 D")) ≡ Err (Extra Stats)
unfolding grammar is_read read clap_on_literals
stats_before_unit = refl

extra_unit_of_a_run_with_stats : job_of (line (codes "run --unit 1 --stats --program bfs --source 0 D")) ≡ Err (Extra UnitPages)
unfolding grammar is_read read clap_on_literals
extra_unit_of_a_run_with_stats = refl
