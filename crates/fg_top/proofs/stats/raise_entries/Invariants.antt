-- So many entries were counted so far.
use Rattle.std.proofs.Common.{◌≡◌, ◌+◌}
use Rattle.fg_top.proofs.stats.raise_entries.Given as goal

abbrev pub invariant-loop : goal.invariant-loop
invariant-loop g l =
    (g.T.Tally.runs l.tally ≡ g.T.Tally.runs l.fn.tally) × (g.T.Tally.entries l.tally ≡ g.T.Tally.entries l.fn.tally + l.counter)
