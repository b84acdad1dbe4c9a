-- The lines of the values of all vertices.
use Rattle.std.specs.Prelude.{ℕ, List, [], ◌∷◌, ◌+◌, ◌++◌, codes, decimal}
use Rattle.fg_base.specs.declared.plain.Value.{Value}
use Rattle.fg_base.specs.declared.plain.Value.TheVariants.{Absent, One, Two}
use Rattle.fg_base.specs.declared.plain.VState.{VState}

-- what stands behind the vertex: ` -`, one number or two
abbrev pub value_text : Value → List ℕ
value_text Absent = codes " -"
value_text (One x) = codes " " ++ decimal x
value_text (Two x y) = codes " " ++ decimal x ++ codes " " ++ decimal y

-- the line of one vertex, with its end
abbrev pub value_line : ℕ → Value → List ℕ
value_line v value = decimal v ++ value_text value ++ codes "\n"

-- the lines of the vertices from `v` on, one a state, ascending
abbrev pub value_lines_from : (VState → Value) → ℕ → List VState → List ℕ
value_lines_from show v [] = []
value_lines_from show v (state ∷ states) = value_line v (show state) ++ value_lines_from show (v + 1) states

-- the lines of all vertices
abbrev pub value_lines : (VState → Value) → List VState → List ℕ
value_lines show states = value_lines_from show 0 states
