-- What a finished iteration of an engine counts.
use Rattle.std.proofs.Common.{ℕ, ◌≤◌, ◌^◌, List, arith}
use Rattle.fg_base.specs.declared.plain.VState.{VState}
use Rattle.fg_model.proofs.PlainLemmas.{few_active, few_needed}
use Rattle.fg_model.specs.declared.graph.Graph.{Graph}
use Rattle.fg_model.specs.declared.iteration.Counts.{Counts}
use Rattle.fg_model.specs.Engine.{HasCounted}
use Rattle.fg_model.specs.Graph.{IsWithinLimits}
use Rattle.fg_model.specs.Iteration.{AreStates, begun_at}
use Rattle.fg_model.specs.Program.{Rules}

-- the counts are small where the graph is within the limits
module _ (P : Rules) (graph : Graph) (phase : ℕ) (states : List VState) (counts : Counts) (limits : IsWithinLimits graph) (are : AreStates graph.n states)
    (counted : HasCounted counts (begun_at P graph phase states)) where
  pub active_fits : counts.active ≤ 2 ^ 24
  unfolding begun_at
  active_fits = omega (arith, counted.active_count, few_active P phase states, are.state_count, limits.vertex_count)

  pub messages_fit : counts.messages ≤ 2 ^ 27
  unfolding begun_at
  messages_fit = omega (arith, counted.message_count, few_needed P graph phase states limits are.state_count)
