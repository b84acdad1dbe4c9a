-- The run of one active vertex.
use Rattle.std.specs.Prelude.{ℕ, ◌+◌, List, [], ◌∷◌, ◌++◌, map}
use Rattle.fg_base.specs.declared.plain.BadEdge.{BadEdge}
use Rattle.fg_base.specs.declared.plain.Dir.{Dir}
use Rattle.fg_base.specs.declared.plain.Entry.{Entry}
use Rattle.fg_base.specs.declared.plain.Need.{Need}
use Rattle.fg_base.specs.declared.plain.VState.{VState}
use Rattle.fg_model.specs.declared.graph.Graph.{Graph}
use Rattle.fg_model.specs.declared.mail.Mail.{Mail}
use Rattle.fg_model.specs.Graph.{row}
use Rattle.fg_model.specs.Program.{Rules}

-- what f makes of the needed lists of v, the out-list before the in-list
abbrev pub over_lists : {X : Type 0} → Need → Graph → ℕ → (Dir → List Entry → List X) → List X
over_lists Need.Out graph v f = f Dir.Out (row graph.outs v)
over_lists Need.In graph v f = f Dir.In (row graph.ins v)
over_lists Need.Both graph v f = f Dir.Out (row graph.outs v) ++ f Dir.In (row graph.ins v)

-- the message along one entry
abbrev pub message_along : Rules → ℕ → Dir → Entry → Mail
message_along P carry dir entry = record { target = entry.target; message = P.edge carry dir entry }

-- the messages of a vertex with this carry: one for each entry of its needed lists, in list order
abbrev pub sent : Rules → Graph → ℕ → ℕ → List Mail
sent P graph carry v = over_lists P.need graph v (λ dir entries. map (message_along P carry dir) entries)

-- a vertex run: the vertex's own new state, and what it sends
pub record Ran : Type 0 where
  pub state : VState
  pub messages : List Mail

abbrev pub ran : Rules → Graph → ℕ → ℕ → VState → Ran
ran P graph phase v s = let begun = P.begin phase v s in record { state = begun.0; messages = sent P graph begun.1 v }

-- the entries of one list of v from a place on, each as the bad edge that it is where its target is no vertex
abbrev pub edges_from : ℕ → Dir → ℕ → List Entry → List BadEdge
edges_from v dir place [] = []
edges_from v dir place (entry ∷ entries) = record { v = v; dir = dir; place = place; found = entry.target } ∷ edges_from v dir (place + 1) entries

-- the entries of the needed lists of v
abbrev pub edges_of : Need → Graph → ℕ → List BadEdge
edges_of need graph v = over_lists need graph v (λ dir entries. edges_from v dir 0 entries)
