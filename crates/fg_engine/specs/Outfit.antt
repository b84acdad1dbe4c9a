-- What is made for a run before its cache is opened.
use Rattle.std.specs.Prelude.{◌≡◌, ℕ, ◌<◌, ◌≤◌, List, [], All, length, vec_capacity}
use Rattle.fg_batch.specs.Outbox.{IsUnsent, Sending}
use Rattle.fg_build.specs.declared.opened.Opened.{Opened}
use Rattle.fg_build.specs.ToldImage.{graph_over}
use Rattle.fg_iter.specs.Lists.{AreBlockWeights}
use Rattle.fg_model.specs.Iteration.{AreStates}
use Rattle.fg_model.specs.Program.{Rules}
use Rattle.fg_model.specs.Run.{opening_states}
use Rattle.fg_part.specs.declared.part_map.PartMap.{PartMap}
use Rattle.fg_engine.specs.declared.outfit.Outfit.{Outfit}

-- nothing is sent in it, and it is over this map
pub record IsOutboxOf (map : PartMap) (outbox : Sending) : Type 0 where
  pub same_map : outbox.map ≡ map
  pub unsent : IsUnsent outbox

-- The opening states and the blocks' weights, whatever the bytes of the image; an outbox for each worker; no more helpers than
-- drives; and room for the way back.
pub record IsOutfit (P : Rules) (opened : Opened) (map : PartMap) (outfit : Outfit) : Type 0 where
  pub opening : (image : List ℕ) → outfit.states.items ≡ opening_states P (graph_over opened image)
  pub are_states : (image : List ℕ) → AreStates (graph_over opened image).n outfit.states.items
  pub weighed : (image : List ℕ) → AreBlockWeights P (graph_over opened image) map outfit.weights.items
  pub one_each : length outfit.outboxes.items ≡ map.parts
  pub are_outboxes : All (IsOutboxOf map) outfit.outboxes.items
  pub room_for_passes : (outfit.passes.items ≡ []) × (map.parts ≤ vec_capacity outfit.passes)
  pub few_helpers : length outfit.ends.items ≤ opened.layout.drives
  pub room_for_shares : (outfit.shares.items ≡ []) × (length outfit.ends.items < vec_capacity outfit.shares)
