-- The engine that a run is done by.
use Rattle.fg_words.specs.Jobs.{IsEngine}
use Rattle.fg_top.specs.declared.engine.Engine.{Engine}

-- an engine within its limits
abbrev pub FitsLimits : Engine → Type 0
FitsLimits engine = IsEngine engine.workers engine.sets engine.ways engine.depth engine.shift
