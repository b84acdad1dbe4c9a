use Rattle.std.proofs.Common.{◌≡◌, ◌+◌, ◌-◌, ◌≤◌, ◌++◌, drop, length, vec_len}
use Rattle.fg_model.specs.Iteration.{states_after_runs}
use Rattle.fg_model.specs.Plain.{all_active}
use Rattle.fg_model.proofs.PlainLemmas.{active_from, runs_from}
use Rattle.fg_model.proofs.plain.begin_runs.Given as goal

abbrev pub invariant-loop-v : goal.invariant-loop-v
invariant-loop-v g l =
    let P = g.P.Program.rules l.program in
    record {
      the_end : l.v-end ≡ length l.states;
      one_entries : g.T.Tally.entries l.tally ≡ g.T.Tally.entries l.initial.tally;
      more_runs : g.T.Tally.runs l.tally ≡ g.T.Tally.runs l.initial.tally + vec_len l.active;
      few_active : vec_len l.active ≤ l.v;
      rest_next : l.next.items ++ runs_from l.v P l.phase (drop l.v l.states) ≡ states_after_runs P l.phase l.states;
      rest_active : l.active.items ++ active_from l.v (length l.states - l.v) P l.phase l.states ≡ all_active P l.phase l.states;
    }
