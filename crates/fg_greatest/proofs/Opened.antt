-- What the values mean on drives that were opened.
use Rattle.std.proofs.Common.{ℕ, Option, None, Some, IfSome, Result, Ok, Err, List, All}
use Rattle.std.specs.Prelude.{IfOk}
use Rattle.fg_build.specs.declared.opened.Opened.{Opened}
use Rattle.fg_build.specs.Answers.{OpenedFits}
use Rattle.fg_build.specs.Opening.{graph_on, image_of}
use Rattle.fg_build.proofs.HeldLaws.{AreBytes, all_told-all, image_bytes}
use Rattle.fg_image.proofs.LimitLaws.{graph_by-limits}
use Rattle.fg_model.specs.declared.graph.Graph.{Graph}
use Rattle.fg_model.specs.declared.run.End.{End}
use Rattle.fg_model.specs.declared.run.RunFault.{RunFault}
use Rattle.fg_model.specs.Engine.{TellsEnd}
use Rattle.fg_model.specs.Graph.{IsWithinLimits}
use Rattle.fg_model.specs.Run.{run}
use Rattle.fg_outside.specs.Drives.{all_told}
use Rattle.fg_greatest.specs.Greatest.{greatest}
use Rattle.fg_greatest.specs.Reaching.{AreGreatestReaching}
use Rattle.fg_greatest.proofs.Greatests.{values_are_greatest}

-- the graph on drives that were opened is within the limits
within : (opened : Opened) (helds : List (List ℕ)) → OpenedFits opened → All AreBytes helds → IsWithinLimits (graph_on opened helds)
within opened helds fits bytes =
    graph_by-limits opened.layout opened.index (image_of opened helds) fits.index (image_bytes opened.layout.unit opened.layout.pages helds bytes)

-- of what a run answers
answered : (graph : Graph) (max : ℕ) (answer : Result End RunFault) → IsWithinLimits graph → TellsEnd answer (run greatest graph max) → IfOk answer (AreGreatestReaching graph)
answered graph max (Ok end) limits tells = values_are_greatest graph max end limits tells
answered graph max (Err fault) limits tells = tt

pub opened_greatest : {D : Type 0} (held : D → Option (List ℕ)) → ((drive : D) → IfSome (held drive) AreBytes) → (drives : List D) (opened : Opened) (max : ℕ) (answer : Result End RunFault) → OpenedFits opened
    → IfSome (all_told held drives) (λ helds. TellsEnd answer (run greatest (graph_on opened helds) max)) → IfSome (all_told held drives) (λ helds. IfOk answer (AreGreatestReaching (graph_on opened helds)))
opened_greatest held law drives opened max answer fits tells = of (all_told held drives) (all_told-all held AreBytes law drives) tells where
  of : (told : Option (List (List ℕ))) → IfSome told (All AreBytes) → IfSome told (λ helds. TellsEnd answer (run greatest (graph_on opened helds) max)) → IfSome told (λ helds. IfOk answer (AreGreatestReaching (graph_on opened helds)))
  of None bytes tells = tt
  of (Some helds) bytes tells = answered (graph_on opened helds) max answer (within opened helds fits bytes) tells
