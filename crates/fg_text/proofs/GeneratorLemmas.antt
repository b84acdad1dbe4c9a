-- The lines of generated edges, one by one, and how long they are together.
use Rattle.std.proofs.Common.{◌≡◌, ℕ, zero, suc, ◌+◌, ◌-◌, ◌*◌, ◌<◌, ◌≤◌, ◌^◌, ◌++◌, ◌∷◌, ◌∙◌, [], length, refl, ap, sym, arith}
use Rattle.std.specs.Prelude.{codes, decimal}
use Rattle.std.proofs.lemmas.Fmt.{length-decimal-le}
use Rattle.std.proofs.lemmas.List.{length-append}
use Rattle.fg_base.specs.declared.limits.TheConstants.{MAX_ENTRIES, MAX_TEXT_BYTES, MAX_VERTICES}
use Rattle.fg_text.specs.declared.verdict.Edge.{Edge}
use Rattle.fg_text.specs.Generator.{edge_at, edge_line, edges_from, edges_text, generated_text, head_line, next_state, opening_state}

-- no edges, and one more
pub edges_none : (nodes state : ℕ) → edges_text nodes 0 state ≡ []
unfolding edges_from
edges_none nodes state = refl

pub edges_more : (nodes count state : ℕ) → 0 < count → edges_text nodes count state ≡ edge_line (edge_at nodes state) ++ edges_text nodes (count - 1) (next_state (next_state state))
unfolding edges_from
edges_more nodes zero state some = absurd (omega arith)
edges_more nodes (suc count) state some = let e : suc count - 1 ≡ count = omega arith in rw e refl

-- the text is never too long
edge_line_short : (edge : Edge) → edge.source < MAX_VERTICES → edge.target < MAX_VERTICES → length (edge_line edge) ≤ 18
edge_line_short edge source target =
    let one = length-decimal-le 8 edge.source (omega arith) (omega arith) (omega arith) in
    let other = length-decimal-le 8 edge.target (omega arith) (omega arith) (omega arith) in
    let first = length-append (decimal edge.source) (32 ∷ []) in
    let second = length-append (decimal edge.source ++ (32 ∷ [])) (decimal edge.target) in
    let third = length-append ((decimal edge.source ++ (32 ∷ [])) ++ decimal edge.target) (10 ∷ []) in
    omega arith

edges_short : (nodes count state : ℕ) → 0 < nodes → nodes ≤ MAX_VERTICES → length (edges_text nodes count state) ≤ 18 * count
unfolding edges_from
edges_short nodes zero state some few = omega arith
edges_short nodes (suc count) state some few =
    let edge = edge_at nodes state in
    let line = edge_line_short edge (omega arith) (omega arith) in
    let rest = edges_short nodes count (next_state (next_state state)) some few in
    omega (arith, length-append (edge_line edge) (edges_text nodes count (next_state (next_state state))))

head_short : (start nodes edges : ℕ) → start < 2 ^ 64 → nodes < 2 ^ 32 → edges < 2 ^ 32 → length (head_line start nodes edges) ≤ 69
head_short start nodes edges fits fits' fits'' =
    let one = length-decimal-le 20 start (omega arith) (omega arith) fits in
    let two = length-decimal-le 20 nodes (omega arith) (omega arith) (omega arith) in
    let three = length-decimal-le 20 edges (omega arith) (omega arith) (omega arith) in
    let a = codes "# gen " in
    let b = a ++ decimal start in
    let d = b ++ codes " " in
    let e = d ++ decimal nodes in
    let f = e ++ codes " " in
    let h = f ++ decimal edges in
    omega (arith, length-append a (decimal start), length-append b (codes " "), length-append d (decimal nodes), length-append e (codes " "), length-append f (decimal edges), length-append h (codes "\n"))

pub generated_short : (start nodes edges : ℕ) → start < 2 ^ 64 → 0 < nodes → nodes ≤ MAX_VERTICES → edges ≤ MAX_ENTRIES → length (generated_text start nodes edges) ≤ MAX_TEXT_BYTES
unfolding generated_text
generated_short start nodes edges fits some few few' =
    let head = head_short start nodes edges fits (omega arith) (omega arith) in
    let lines = edges_short nodes edges (opening_state start) some few in
    omega (arith, length-append (head_line start nodes edges) (edges_text nodes edges (opening_state start)))

-- the lines from a turn on, and behind the last turn
pub next_lines : (nodes count turn state nodes' state' : ℕ) → turn < count → nodes' ≡ nodes → state' ≡ next_state (next_state state) →
    edges_text nodes (count - turn) state ≡ edge_line (edge_at nodes state) ++ edges_text nodes' (count - (turn + 1)) state'
next_lines nodes count turn state nodes' state' below same next =
    let left : count - turn - 1 ≡ count - (turn + 1) = omega arith in
    let line = edge_line (edge_at nodes state) in
    edges_more nodes (count - turn) state (omega arith)
    ∙ ap (λ left. line ++ edges_text nodes left (next_state (next_state state))) left
    ∙ ap (λ nodes. line ++ edges_text nodes (count - (turn + 1)) (next_state (next_state state))) (sym same)
    ∙ ap (λ state. line ++ edges_text nodes' (count - (turn + 1)) state) (sym next)

pub no_lines : (nodes count turn state : ℕ) → count ≤ turn → edges_text nodes (count - turn) state ≡ []
no_lines nodes count turn state le = let none : count - turn ≡ 0 = omega arith in ap (λ left. edges_text nodes left state) none ∙ edges_none nodes state

pub all_lines : (nodes count state : ℕ) → edges_text nodes count state ≡ edges_text nodes (count - 0) state
all_lines nodes count state = let all : count ≡ count - 0 = omega arith in ap (λ left. edges_text nodes left state) all

-- the text is its first line and the lines of its edges
pub text_parts : (start nodes edges : ℕ) → generated_text start nodes edges ≡ head_line start nodes edges ++ edges_text nodes edges (opening_state start)
unfolding generated_text
text_parts start nodes edges = refl
