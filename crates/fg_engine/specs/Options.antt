-- How a run is to be done.
use Rattle.std.specs.Prelude.{◌*◌, ◌<◌, ◌≤◌}
use Rattle.fg_base.specs.declared.limits.TheConstants.{MAX_DEPTH, MAX_FRAMES, MAX_SETS, MAX_SHIFT, MAX_WAYS, MAX_WORKERS}
use Rattle.fg_cache.specs.declared.shape.Shape.{Shape}
use Rattle.fg_engine.specs.declared.options.Options.{Options}

-- the options are within their limits
pub record AreOptions (options : Options) : Type 0 where
  pub some_worker : 0 < options.workers
  pub few_workers : options.workers ≤ MAX_WORKERS
  pub some_set : 0 < options.sets
  pub few_sets : options.sets ≤ MAX_SETS
  pub some_way : 0 < options.ways
  pub few_ways : options.ways ≤ MAX_WAYS
  pub few_frames : options.sets * options.ways ≤ MAX_FRAMES
  pub few_loads : options.depth ≤ MAX_DEPTH
  pub small_blocks : options.shift ≤ MAX_SHIFT

-- the cache's shape: a pass for each worker
abbrev pub shape_of : Options → Shape
shape_of options = record { sets = options.sets; ways = options.ways; depth = options.depth; passes = options.workers }
