-- A run by the workers over the cache: what it asks, and what comes of it.
use Rattle.std.specs.Prelude.{◌≡◌, ℕ, ◌+◌, ◌^◌, ◌<◌, ◌≤◌, true, None, List, All, IfOk, OnOk, length}
use Rattle.fg_base.specs.declared.limits.TheConstants.{MAX_WORKERS}
use Rattle.fg_base.specs.declared.plain.VState.{VState}
use Rattle.fg_base.specs.declared.tally.Tally.{Ghosts as TallyGhosts}
use Rattle.fg_build.specs.declared.opened.Opened.{Opened}
use Rattle.fg_cache.specs.Site.{Site}
use Rattle.fg_cache.specs.Slips.{FaultOf}
use Rattle.fg_crew.specs.declared.slot.Slot.{Slot}
use Rattle.fg_crew.specs.Slots.{Has}
use Rattle.fg_iter.specs.declared.running.CrewRun.{CrewRun}
use Rattle.fg_iter.specs.Lists.{AreBlockWeights, Lists}
use Rattle.fg_iter.specs.Running.{CrewWent, FoundAll, RunShown, RunTallied}
use Rattle.fg_model.specs.declared.watch.Watch.{Ghosts as WatchGhosts}
use Rattle.fg_model.specs.Engine.{TallyRoseWith, TellsEnd, TellsFaults}
use Rattle.fg_model.specs.Graph.{IsWithinLimits}
use Rattle.fg_model.specs.Iteration.{AreStates}
use Rattle.fg_model.specs.Program.{Rules}
use Rattle.fg_model.specs.Run.{opening_states, run}
use Rattle.fg_model.specs.Watch.{Grew}
use Rattle.fg_part.specs.declared.part_map.PartMap.{PartMap}
use Rattle.fg_worker.specs.declared.hand.Hand.{Hand}
use Rattle.fg_worker.specs.Hand.{counted_by}
use Rattle.fg_engine.specs.Hands.{AreHands, AreSettled}
use Rattle.fg_engine.specs.Runner.{AllowsCached, IsCacheOf, lists_in}

-- a run: the program's rules, the image and its cache, the blocks, and the most iterations
pub record RunOn : Type 0 where
  pub rules : Rules
  pub opened : Opened
  pub site : Site
  pub map : PartMap
  pub max : ℕ

abbrev pub run_on : Rules → Opened → Site → PartMap → ℕ → RunOn
run_on rules opened site map max = record { rules = rules; opened = opened; site = site; map = map; max = max }

module _ (on : RunOn) where
  -- the lists that it reads
  abbrev pub lists_on : Lists
  lists_on = lists_in on.opened on.site

  -- it may be run: the cache is of this image, and the weights and the states are its opening ones
  pub record MayRunOn (weights : List ℕ) (states : List VState) : Type 0 where
    pub cache : IsCacheOf on.opened.layout on.opened.index on.site
    pub limits : IsWithinLimits lists_on.graph
    pub vertices : on.map.n ≡ lists_on.graph.n
    pub weighed : AreBlockWeights on.rules lists_on.graph on.map weights
    pub opening : states ≡ opening_states on.rules lists_on.graph
    pub are_states : AreStates lists_on.graph.n states
    pub allowed : AllowsCached on.opened on.site on.rules on.max

  -- each worker has its hand, and the tally has room
  pub record AreReady {T F : Type 0} (tells : TallyGhosts T) (slots : List (Slot (Hand T) F)) (tally : T) : Type 0 where
    pub workers : (0 < length slots) × (length slots ≤ MAX_WORKERS)
    pub hands : AreHands on.site on.map slots
    pub settled : AreSettled tells.runs tells.entries slots
    pub room_of_runs : tells.runs tally + 2 ^ 57 ≤ 2 ^ 64
    pub room_of_entries : tells.entries tally + 2 ^ 60 ≤ 2 ^ 64

  -- what came of it, and what the tally and the watch were told
  pub record CameOf {T W N : Type 0} (tells : TallyGhosts T) (watches : WatchGhosts W N) (slots : List (Slot (Hand T) FaultOf)) (tally : T) (watch : W)
      (ran : CrewRun (Hand T) FaultOf) (tally_then : T) (watch_then : W) : Type 0 where
    pub went : CrewWent lists_on on.rules on.max (TallyRoseWith tells.runs tells.entries tally tally_then) ran.answer
    pub same_told : watches.told watch_then ≡ watches.told watch
    pub same_borrows : watches.same_borrows watch watch_then
    pub grew : Grew (watches.notes watch) (watches.notes watch_then)
    pub faults : TellsFaults ran.answer (ran.fault ≡ None) (λ _. Has (λ share. share.books ≡ on.site.books) ran.fault)
        (watches.faults watch) (watches.faults watch_then)
    pub answer : lists_on.knows ≡ true → TellsEnd ran.answer (run on.rules lists_on.graph on.max)
    pub shown : RunShown lists_on on.rules on.max watches.told watches.notes watch watch_then ran.answer
    pub ok_states : IfOk ran.answer (λ end. AreStates lists_on.graph.n end.states)
    pub ok_tally : OnOk ran.answer (RunTallied lists_on on.rules on.max tells.runs tells.entries tally tally_then)
    pub ok_hits : OnOk ran.answer (FoundAll (counted_by tells.runs tells.entries) lists_on on.rules on.map on.max slots ran.slots.items)
    pub count : length ran.slots.items ≡ length slots
    pub hands : AreHands on.site on.map ran.slots.items
    pub settled : AreSettled tells.runs tells.entries ran.slots.items
