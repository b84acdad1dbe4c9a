-- What the run in memory keeps of the active vertices of an iteration: each with its carry.
use Rattle.std.specs.Prelude.{ℕ, List, map}
use Rattle.std.specs.List.{flat_map}
use Rattle.fg_base.specs.declared.plain.BadEdge.{BadEdge}
use Rattle.fg_base.specs.declared.plain.Need.{Need}
use Rattle.fg_base.specs.declared.plain.VState.{VState}
use Rattle.fg_model.specs.declared.graph.Graph.{Graph}
use Rattle.fg_model.specs.declared.plain.Active.{Active}
use Rattle.fg_model.specs.declared.mail.Mail.{Mail}
use Rattle.fg_model.specs.Iteration.{active_vertices, state_at}
use Rattle.fg_model.specs.Program.{Rules}
use Rattle.fg_model.specs.VertexRun.{edges_of, message_along, over_lists}

-- an active vertex with the carry of its run
abbrev pub active_at : Rules → ℕ → List VState → ℕ → Active
active_at P phase states v = record { v = v; carry = (P.begin phase v (state_at states v)).1 }

unfoldable pub all_active : Rules → ℕ → List VState → List Active
all_active P phase states = map (active_at P phase states) (active_vertices P phase states)

-- what an active vertex sends
abbrev pub sent_from : Rules → Need → Graph → Active → List Mail
sent_from P need graph from = over_lists need graph from.v (λ dir entries. map (message_along P from.carry dir) entries)

-- the messages of these vertices, and the entries that they go along
unfoldable pub messages_over : Rules → Need → Graph → List Active → List Mail
messages_over P need graph active = flat_map (sent_from P need graph) active

unfoldable pub edges_over : Need → Graph → List Active → List BadEdge
edges_over need graph active = flat_map (λ from. edges_of need graph from.v) active
