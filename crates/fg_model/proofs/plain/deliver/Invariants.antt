use Rattle.std.proofs.Common.{◌≡◌, ◌+◌, drop, length}
use Rattle.std.specs.Prelude.{find}
use Rattle.fg_model.specs.Iteration.{folded, is_bad}
use Rattle.fg_model.specs.Plain.{edges_over, messages_over}
use Rattle.fg_model.proofs.plain.deliver.Given as goal

abbrev pub invariant-loop-from : goal.invariant-loop-from
invariant-loop-from g l =
    let P = g.P.Program.rules l.program in
    let rest = drop l.from-index l.active in
    record {
      one_runs : g.T.Tally.runs l.tally ≡ g.T.Tally.runs l.initial.tally;
      rest_entries : g.T.Tally.entries l.tally + length (edges_over l.need l.graph rest) ≡ g.T.Tally.entries l.initial.tally + length (edges_over l.need l.graph l.active);
      rest_count : l.messages + length (edges_over l.need l.graph rest) ≡ length (edges_over l.need l.graph l.active);
      rest_bad : find (is_bad l.graph.n) (edges_over l.need l.graph rest) ≡ find (is_bad l.graph.n) (edges_over l.need l.graph l.active);
      rest_folded : folded P (messages_over P l.need l.graph rest) l.states ≡ folded P (messages_over P l.need l.graph l.active) l.initial.states;
    }
