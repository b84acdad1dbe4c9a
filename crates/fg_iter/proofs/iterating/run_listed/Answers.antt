use Rattle.std.proofs.Common.{◌≡◌, ℕ, List, IfOk, ap, length, subst, sym, ◌∙◌, arith}
use Rattle.std.specs.Prelude.{All}
use Rattle.fg_crew.specs.declared.slot.Slot.{Slot}
use Rattle.fg_iter.proofs.MarkedLaws.{marked-below, marked-few, marked-rise}
use Rattle.fg_iter.proofs.StepLaws.{same_start, started, whole-again}
use Rattle.fg_iter.specs.Crew.{counted_in, start_of}
use Rattle.fg_iter.specs.Start.{MayBegin, Start, blocks_at}
use Rattle.fg_part.specs.PartMap.{block_total}
use Rattle.fg_part.specs.declared.part_map.PartMap.{PartMap}
use Rattle.fg_task.specs.Spending.{SpentInAllUpTo}
use Rattle.fg_wave.specs.Waves.{HasRoomForList, MoreCame}
use Rattle.fg_iter.proofs.iterating.run_listed.Goals as goal

pub run_by_first-requires-clause-few_blocks : goal.run_by_first-requires-clause-few_blocks
run_by_first-requires-clause-few_blocks g c κs within =
    let crew = c.args.crew.now in
    marked-few crew.inboxes.map crew.marks.items c.requires.marks c.deref.result.now (c.deref.ensures.value ∙ c.requires.blocks)

pub run_by_first-requires-clause-blocks : goal.run_by_first-requires-clause-blocks
run_by_first-requires-clause-blocks g c κs within =
    marked-below c.map.result c.args.crew.now.marks.items (c.requires.marks ∙ ap block_total (sym c.map.ensures)) c.deref.result.now (c.deref.ensures.value ∙ c.requires.blocks)

pub run_by_first-requires-clause-rises : goal.run_by_first-requires-clause-rises
run_by_first-requires-clause-rises g c κs within =
    let crew = c.args.crew.now in
    marked-rise crew.inboxes.map crew.marks.items c.requires.marks c.deref.result.now (c.deref.ensures.value ∙ c.requires.blocks)

pub run_by_first-requires-clause-lent : goal.run_by_first-requires-clause-lent
run_by_first-requires-clause-lent g c κs within =
    let runs = g.B.RunsOn in
    let crew = c.args.crew.now in
    let lends : PartMap → List (Slot _ _) → Type 0 = λ map slots. All (λ (slot : Slot _ _). runs.lends c.args.runner.now map slot.kept) slots in
    let same = same_start g.P.Program.rules (runs.lists c.args.runner.now) c.args.phase crew c.program.result.now c.map.result c.as_slice.result.now
    c.program.ensures c.map.ensures c.as_slice.ensures.value in
    let may = subst (MayBegin (runs.allows c.args.runner.now)) (sym same) c.requires.may_run in
    let each = subst (λ (map : PartMap). lends map crew.slots.items) (sym c.map.ensures) c.requires.lent in
    let lent = subst (lends c.map.result) (sym c.deref_mut.ensures.value) each in
    λ k d below. (may, lent k d below)

pub run_by_first-requires-clause-room : goal.run_by_first-requires-clause-room
run_by_first-requires-clause-room g c κs within =
    let runs = g.B.RunsOn in
    let crew = c.args.crew.now in
    let frozen = started (runs.lists c.args.runner.now) c.args.phase (g.P.Program.rules c.program.result.now) c.map.result c.as_slice.result.now in
    let same = same_start g.P.Program.rules (runs.lists c.args.runner.now) c.args.phase crew c.program.result.now c.map.result c.as_slice.result.now
    c.program.ensures c.map.ensures c.as_slice.ensures.value in
    let rooms : Start → List ℕ → List (Slot _ _) → Type 0 = λ start list slots. All (λ (slot : Slot _ _). HasRoomForList (blocks_at start) list (runs.spent slot.kept)) slots in
    subst (rooms frozen c.deref.result.now) (sym c.deref_mut.ensures.value)
    (subst (λ (list : List ℕ). rooms frozen list crew.slots.items) (sym c.deref.ensures.value)
    (subst (λ (start : Start). rooms start c.args.listed.now.blocks.items crew.slots.items) (sym same) c.requires.room))

pub returns-clause-came : goal.returns-clause-came
returns-clause-came g c =
    let runs = g.B.RunsOn in
    let crew = c.args.crew.now in
    let inboxes = crew.inboxes in
    let frozen = started (runs.lists c.args.runner.now) c.args.phase (g.P.Program.rules c.program.result.now) c.map.result c.as_slice.result.now in
    let same = same_start g.P.Program.rules (runs.lists c.args.runner.now) c.args.phase crew c.program.result.now c.map.result c.as_slice.result.now
    c.program.ensures c.map.ensures c.as_slice.ensures.value in
    let came : Start → List ℕ → Type 0 = λ start list.
    IfOk c.run_by_first.result (λ told. MoreCame (g.P.Program.rules inboxes.program) inboxes.map (blocks_at start) list told inboxes.parts c.run_by_first.new.inboxes.parts) in
    subst (λ (start : Start). came start c.args.listed.now.blocks.items) same (subst (came frozen) c.deref.ensures.value c.run_by_first.ensures.came)

pub returns-clause-few : goal.returns-clause-few
returns-clause-few g c =
    let runs = g.B.RunsOn in
    let crew = c.args.crew.now in
    let frozen = started (runs.lists c.args.runner.now) c.args.phase (g.P.Program.rules c.program.result.now) c.map.result c.as_slice.result.now in
    let same = same_start g.P.Program.rules (runs.lists c.args.runner.now) c.args.phase crew c.program.result.now c.map.result c.as_slice.result.now
    c.program.ensures c.map.ensures c.as_slice.ensures.value in
    let new = c.run_by_first.new.slots in
    let long : length new ≡ crew.slots.len = omega (arith, c.run_by_first.auto.slots, c.deref_mut.ensures.len) in
    let few : Start → List ℕ → List (Slot _ _) → List (Slot _ _) → Type 0 = λ start list before after.
    SpentInAllUpTo (blocks_at start) list (counted_in runs.spent before) (counted_in runs.spent after) in
    let list = c.args.listed.now.blocks.items in
    subst (few (start_of g.P.Program.rules (runs.lists c.args.runner.now) c.args.phase crew) list crew.slots.items) (sym (whole-again new crew.slots.items crew.slots.len long))
    (subst (λ (start : Start). few start list crew.slots.items new) same
    (subst (λ (slots : List (Slot _ _)). few frozen list slots new) c.deref_mut.ensures.value
    (subst (λ (l : List ℕ). few frozen l c.deref_mut.result.now new) c.deref.ensures.value c.run_by_first.ensures.few)))

pub returns-clause-lent : goal.returns-clause-lent
returns-clause-lent g c =
    let crew = c.args.crew.now in
    let new = c.run_by_first.new.slots in
    let long : length new ≡ crew.slots.len = omega (arith, c.run_by_first.auto.slots, c.deref_mut.ensures.len) in
    let lends : PartMap → List (Slot _ _) → Type 0 = λ map slots. All (λ (slot : Slot _ _). g.B.RunsOn.lends c.args.runner.now map slot.kept) slots in
    subst (lends crew.inboxes.map) (sym (whole-again new crew.slots.items crew.slots.len long))
    (subst (λ (map : PartMap). lends map new) c.map.ensures (λ k d below. (c.run_by_first.ensures.lent k d below).1))
