-- What reading on comes to is what it comes to with the lines of the edges so far.
use Rattle.std.proofs.Common.{◌≡◌, ℕ, ◌+◌, ◌-◌, ◌++◌, Bool, List}
use Rattle.fg_text.specs.declared.line.Line.TheVariants.{Start}
use Rattle.fg_text.specs.Generator.{edges_text}
use Rattle.fg_text.specs.Reader.{reads_on}
use Rattle.fg_text.proofs.made.take_edges.Given as goal

abbrev pub invariant-loop-turn : goal.invariant-loop-turn
invariant-loop-turn l =
    (l.reader.line ≡ Start)
    × (l.reader.number ≡ l.initial.reader.number + l._turn)
    × (l.generator.nodes ≡ l.initial.generator.nodes)
    × ((done : List ℕ)
    × (edges_text l.initial.generator.nodes l.count l.initial.generator.words.state ≡ done ++ edges_text l.generator.nodes (l.count - l._turn) l.generator.words.state)
    × ((whole : Bool) (rest : List ℕ) → reads_on whole l.reader rest ≡ reads_on whole l.initial.reader (done ++ rest)))
