-- One synchronous iteration: every active vertex runs on the states as they stand, then every vertex folds its mail.
use Rattle.std.specs.Prelude.{◌≡◌, ℕ, ◌==◌, nat_le, Bool, Option, None, List, All, filter, find, fold, length, map, slice_index_or, if◌then◌else◌}
use Rattle.std.specs.List.{enumerate_from, flat_map, range_with_len}
use Rattle.fg_base.specs.declared.plain.BadEdge.{BadEdge}
use Rattle.fg_base.specs.declared.plain.VState.{VState}
use Rattle.fg_model.specs.declared.graph.Graph.{Graph}
use Rattle.fg_model.specs.declared.iteration.Iteration.{Iteration}
use Rattle.fg_model.specs.declared.mail.Mail.{Mail}
use Rattle.fg_model.specs.Program.{Rules, IsInRange}
use Rattle.fg_model.specs.VertexRun.{ran, edges_of}

-- the state of the vertex v
abbrev pub state_at : List VState → ℕ → VState
state_at states v = slice_index_or states v (record { a = 0; b = 0; c = 0 })

-- a state for each of the n vertices, in range
pub record AreStates (n : ℕ) (states : List VState) : Type 0 where
  pub state_count : length states ≡ n
  pub all_fit : All IsInRange states

-- the active vertices, ascending
abbrev pub active_vertices : Rules → ℕ → List VState → List ℕ
active_vertices P phase states = filter (λ v. P.wake phase (state_at states v)) (range_with_len 0 (length states))

-- the needed entries of the active vertices, by vertex, the out-list before the in-list, then by place
unfoldable pub needed : Rules → Graph → ℕ → List VState → List BadEdge
needed P graph phase states = flat_map (edges_of P.need graph) (active_vertices P phase states)

-- whether an entry leads to none of n vertices
abbrev pub is_bad : ℕ → BadEdge → Bool
is_bad n edge = nat_le n edge.found

-- the first needed entry whose target is no vertex
unfoldable pub first_bad : Rules → Graph → ℕ → List VState → Option BadEdge
first_bad P graph phase states = find (is_bad graph.n) (needed P graph phase states)

-- all messages, by ascending sender and then in list order
unfoldable pub mail : Rules → Graph → ℕ → List VState → List Mail
mail P graph phase states = flat_map (λ v. (ran P graph phase v (state_at states v)).messages) (active_vertices P phase states)

-- each active vertex with the state of its run, every other one as it was
abbrev pub own_state : Rules → ℕ → ℕ → VState → VState
own_state P phase v s = if P.wake phase s then (P.begin phase v s).0 else s

unfoldable pub states_after_runs : Rules → ℕ → List VState → List VState
states_after_runs P phase states = map (λ (v, s). own_state P phase v s) (enumerate_from 0 states)

-- what was sent to v, in the mail's order
abbrev pub sent_to : ℕ → List Mail → List ℕ
sent_to v messages = map (λ one. one.message) (filter (λ one. one.target == v) messages)

-- every vertex with the mail to it folded in
unfoldable pub folded : Rules → List Mail → List VState → List VState
folded P messages states = map (λ (v, s). fold P.receive s (sent_to v messages)) (enumerate_from 0 states)

-- the states after the iteration; it is a finished one where `first_bad` is none
unfoldable pub after : Rules → Graph → ℕ → List VState → List VState
after P graph phase states = folded P (mail P graph phase states) (states_after_runs P phase states)

-- an iteration that began: its phase, its active vertices, and the number of their needed entries
pub record Begun : Type 0 where
  pub phase : ℕ
  pub active : List ℕ
  pub messages : ℕ

unfoldable pub begun_at : Rules → Graph → ℕ → List VState → Begun
begun_at P graph phase states = record { phase = phase; active = active_vertices P phase states; messages = length (needed P graph phase states) }

-- what the code answers is the iteration of the definition
pub record IsIteration (P : Rules) (graph : Graph) (phase : ℕ) (states : List VState) (iteration : Iteration) : Type 0 where
  pub no_bad_edge : first_bad P graph phase states ≡ None
  pub next_states : iteration.states ≡ after P graph phase states
  pub active_count : iteration.active ≡ length (begun_at P graph phase states).active
  pub message_count : iteration.messages ≡ (begun_at P graph phase states).messages
