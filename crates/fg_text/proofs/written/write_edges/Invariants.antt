-- The count stood still so far, and what was written and what is still to be written are all the lines.
use Rattle.std.proofs.Common.{◌≡◌, ℕ, ◌-◌, ◌++◌, List}
use Rattle.fg_base.specs.Told.{grown}
use Rattle.fg_text.specs.Generator.{edges_text}
use Rattle.fg_text.proofs.written.write_edges.Given as goal

abbrev pub invariant-loop-turn : goal.invariant-loop-turn
invariant-loop-turn g l =
    (g.K.Sink.faults l.out ≡ g.K.Sink.faults l.fn.out)
    × (l.generator.nodes ≡ l.fn.generator.nodes)
    × ((done : List ℕ)
    × (g.K.Sink.written l.out ≡ grown (g.K.Sink.written l.fn.out) done)
    × (edges_text l.fn.generator.nodes l.count l.fn.generator.words.state ≡ done ++ edges_text l.generator.nodes (l.count - l._turn) l.generator.words.state))
