use Rattle.std.proofs.Common.{◌≡◌, ◌+◌, drop, length, map}
use Rattle.std.specs.Prelude.{find}
use Rattle.fg_model.specs.Iteration.{folded, is_bad}
use Rattle.fg_model.specs.VertexRun.{edges_from, message_along}
use Rattle.fg_model.proofs.plain.send_along.Given as goal

abbrev pub invariant-loop-place : goal.invariant-loop-place
invariant-loop-place g l =
    let P = g.P.Program.rules l.program in
    let n = length l.initial.states in
    record {
      one_runs : g.T.Tally.runs l.tally ≡ g.T.Tally.runs l.initial.tally;
      more_entries : g.T.Tally.entries l.tally ≡ g.T.Tally.entries l.initial.tally + l.place;
      rest_bad : find (is_bad n) (edges_from l.from.v l.dir l.place (drop l.place l.entries)) ≡ find (is_bad n) (edges_from l.from.v l.dir 0 l.entries);
      rest_folded : folded P (map (message_along P l.from.carry l.dir) (drop l.place l.entries)) l.states ≡ folded P (map (message_along P l.from.carry l.dir) l.entries) l.initial.states;
    }
