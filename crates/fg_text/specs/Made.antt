-- Generated edges as they are read from their text.
use Rattle.std.specs.Prelude.{◌≡◌, ◌++◌, ℕ, Bool, Err, List}
use Rattle.fg_base.specs.declared.refusal.Refusal.{Refusal}
use Rattle.fg_base.specs.declared.refusal.Refusal.TheVariants.{Memory, TooManyEdges}
use Rattle.fg_text.specs.declared.reader.Reader.{Reader}
use Rattle.fg_text.specs.Reader.{reads_on}
use Rattle.fg_text.specs.Text.{read_text}

-- why edges weren't made: want of memory, or this text has too many
abbrev pub MadeRefused : Bool → List ℕ → Refusal → Type 0
MadeRefused undirected text Memory = Unit {0}
MadeRefused undirected text (TooManyEdges line) = read_text undirected text ≡ Err (TooManyEdges line)
MadeRefused undirected text refusal = ⊥

-- why a reader took no more edges of these lines: want of memory, or there are too many
abbrev pub EdgesRefused : Reader → List ℕ → Refusal → Type 0
EdgesRefused reader text Memory = Unit {0}
EdgesRefused reader text (TooManyEdges line) = (whole : Bool) (rest : List ℕ) → reads_on whole reader (text ++ rest) ≡ Err (TooManyEdges line)
EdgesRefused reader text refusal = ⊥
