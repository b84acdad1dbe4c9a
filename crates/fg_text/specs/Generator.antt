-- The generator of edges, and the text of what it generates.
use Rattle.std.specs.Prelude.{ℕ, zero, suc, ◌+◌, ◌*◌, ◌/◌, ◌%◌, ◌^◌, None, List, [], ◌∷◌, ◌++◌, bit_xor, codes, decimal}
use Rattle.std.specs.Int.{w32, rotate_right}
use Rattle.std.specs.List.{flat_map}
use Rattle.fg_text.specs.declared.verdict.Edge.{Edge}

-- a state, below 2^64, gives the next one by this multiplier and this increment
abbrev pub multiplier : ℕ
multiplier = 6364136223846793005

abbrev pub increment : ℕ
increment = 109

abbrev pub next_state : ℕ → ℕ
next_state state = (state * multiplier + increment) % 2 ^ 64

-- the state that a start opens with
abbrev pub opening_state : ℕ → ℕ
opening_state start = next_state (start + increment)

-- the word of a state: 32 of its bits, mixed with its upper bits and then rotated right by its upper five
abbrev pub word_of : ℕ → ℕ
word_of state = rotate_right w32 (bit_xor (state / 2 ^ 18) state / 2 ^ 27 % 2 ^ 32) (state / 2 ^ 59)

-- the edge of a state: its source is the state's word modulo the number of vertices, its target the word after it
abbrev pub edge_at : ℕ → ℕ → Edge
edge_at nodes state = record { source = word_of state % nodes; target = word_of (next_state state) % nodes; weight = None }

-- so many edges from a state on
unfoldable pub edges_from : ℕ → ℕ → ℕ → List Edge
edges_from nodes zero state = []
edges_from nodes (suc count) state = edge_at nodes state ∷ edges_from nodes count (next_state (next_state state))

-- the first line, with its end
abbrev pub head_line : ℕ → ℕ → ℕ → List ℕ
head_line start nodes edges = codes "# gen " ++ decimal start ++ codes " " ++ decimal nodes ++ codes " " ++ decimal edges ++ codes "\n"

-- the line of an edge, with its end
abbrev pub edge_line : Edge → List ℕ
edge_line edge = decimal edge.source ++ codes " " ++ decimal edge.target ++ codes "\n"

-- the lines of so many edges from a state on
abbrev pub edges_text : ℕ → ℕ → ℕ → List ℕ
edges_text nodes count state = flat_map edge_line (edges_from nodes count state)

-- the text of the edges that are generated
unfoldable pub generated_text : ℕ → ℕ → ℕ → List ℕ
generated_text start nodes edges = head_line start nodes edges ++ edges_text nodes edges (opening_state start)
