use Rattle.std.proofs.Common.{◌≡◌, ◌+◌, ◌≤◌, List, [], ap, length, subst, sym, ◌∙◌, arith}
use Rattle.std.specs.Prelude.{All, IfOk, OnErr, OnOk, Option, Result}
use Rattle.std.specs.Global.{Vec}
use Rattle.std.proofs.lemmas.Result.{IfOk-weaker, on_err_weaker}
use Rattle.fg_base.specs.declared.plain.VState.{VState}
use Rattle.fg_crew.specs.declared.slot.Slot.{Slot}
use Rattle.fg_gather.specs.Gather.{IsIterated}
use Rattle.fg_iter.proofs.CrewLaws.{pages_visited, room_of_entries, room_of_runs, rooms_for_list, tally_raised}
use Rattle.fg_iter.proofs.EndLaws.{has_ended}
use Rattle.fg_iter.proofs.MarkedLaws.{listed_weights}
use Rattle.fg_iter.proofs.StepLaws.{at_first, crew_again, has_listed, once_marked, ran_start, whole-again}
use Rattle.fg_iter.specs.declared.crew.Crew.{Crew}
use Rattle.fg_iter.specs.declared.unfinished.Unfinished.{Unfinished}
use Rattle.fg_iter.specs.Crew.{counted_in, hits_in, rules_in, start_of}
use Rattle.fg_iter.specs.Lists.{AreBlockWeights}
use Rattle.fg_iter.specs.Marked.{AreListed}
use Rattle.fg_iter.specs.Start.{HasEnded, HasRaised, Start, blocks_at, ended_as, visits_in}
use Rattle.fg_model.specs.declared.iteration.Counts.{Counts}
use Rattle.fg_part.specs.declared.part_map.PartMap.{PartMap}
use Rattle.fg_task.specs.Spending.{SpentInAllUpTo}
use Rattle.fg_wave.specs.Waves.{HasMoreCome, HasRoomForList, IsTold, MoreCame, SpentAsTold}
use Rattle.fg_iter.proofs.iterating.iterate.Goals as goal

pub run_listed-answer-requires-clause-weights : goal.run_listed-answer-requires-clause-weights
run_listed-answer-requires-clause-weights g c κs within =
    let lists = g.B.RunsOn.lists c.args.runner.now in
    let marked = c.make_marks.new.crew in
    let weights = c.args.weights.now in
    let are = once_marked g.P.Program.rules lists c.args.phase c.args.crew.now marked c.make_marks.ensures.rest
    (λ start slots. AreBlockWeights start.rules start.lists.graph start.map weights) c.requires.weights in
    let listed = subst (λ (marks : List _). AreListed marks weights c.in-Ok.listed) c.deref.ensures.value c.in-Ok.ensures in
    listed_weights (start_of g.P.Program.rules lists c.args.phase marked) weights are marked.marks.items c.in-Ok.listed c.make_marks.ensures.marks.one_each listed

pub run_listed-answer-requires-clause-room : goal.run_listed-answer-requires-clause-room
run_listed-answer-requires-clause-room g c κs within =
    let runs = g.B.RunsOn in
    let lists = runs.lists c.args.runner.now in
    let crew = c.args.crew.now in
    let marked = c.make_marks.new.crew in
    let made = c.make_marks.ensures.rest in
    let list = c.in-Ok.listed.blocks.items in
    let start = start_of g.P.Program.rules lists c.args.phase crew in
    let l = has_listed g.P.Program.rules lists c.args.phase crew marked made (runs.allows c.args.runner.now) c.requires.may_run c.make_marks.ensures.marks
    c.deref.result.now c.deref.ensures.value list c.in-Ok.ensures.all_marked in
    let slots = crew.slots.items in
    once_marked g.P.Program.rules lists c.args.phase crew marked made (λ begun all. All (λ (slot : Slot _ _). HasRoomForList (blocks_at begun) list (runs.spent slot.kept)) all)
    (rooms_for_list start marked.marks.items l.right l.whole list l.all_marked runs.spent slots slots c.requires.crew.settled c.requires.limits c.requires.may_run.vertices)

pub settle_all-requires-clause-room_of_runs : goal.settle_all-requires-clause-room_of_runs
settle_all-requires-clause-room_of_runs g c κs within =
    let runs = g.B.RunsOn in
    let lists = runs.lists c.args.runner.now in
    let crew = c.args.crew.now in
    let marked = c.make_marks.new.crew in
    let made = c.make_marks.ensures.rest in
    let list = c.in-Ok.listed.blocks.items in
    let start = start_of g.P.Program.rules lists c.args.phase crew in
    let l = has_listed g.P.Program.rules lists c.args.phase crew marked made (runs.allows c.args.runner.now) c.requires.may_run c.make_marks.ensures.marks
    c.deref.result.now c.deref.ensures.value list c.in-Ok.ensures.all_marked in
    let now = c.deref_mut.result.now in
    let few = subst (λ (all : List (Slot _ _)). SpentInAllUpTo (blocks_at start) list (counted_in runs.spent crew.slots.items) (counted_in runs.spent all)) (sym c.deref_mut.ensures.value)
    (at_first g.P.Program.rules lists c.args.phase crew marked made
    (λ begun all. SpentInAllUpTo (blocks_at begun) list (counted_in runs.spent all) (counted_in runs.spent c.run_listed-answer.new.crew.slots.items)) c.run_listed-answer.ensures.few) in
    room_of_runs start marked.marks.items l.right l.whole list l.all_marked runs.spent crew.slots.items now c.requires.crew.settled few
    (g.T.Tally.runs c.args.tally.now) c.requires.room_of_runs

pub settle_all-requires-clause-room_of_entries : goal.settle_all-requires-clause-room_of_entries
settle_all-requires-clause-room_of_entries g c κs within =
    let runs = g.B.RunsOn in
    let lists = runs.lists c.args.runner.now in
    let crew = c.args.crew.now in
    let marked = c.make_marks.new.crew in
    let made = c.make_marks.ensures.rest in
    let list = c.in-Ok.listed.blocks.items in
    let start = start_of g.P.Program.rules lists c.args.phase crew in
    let l = has_listed g.P.Program.rules lists c.args.phase crew marked made (runs.allows c.args.runner.now) c.requires.may_run c.make_marks.ensures.marks
    c.deref.result.now c.deref.ensures.value list c.in-Ok.ensures.all_marked in
    let now = c.deref_mut.result.now in
    let few = subst (λ (all : List (Slot _ _)). SpentInAllUpTo (blocks_at start) list (counted_in runs.spent crew.slots.items) (counted_in runs.spent all)) (sym c.deref_mut.ensures.value)
    (at_first g.P.Program.rules lists c.args.phase crew marked made
    (λ begun all. SpentInAllUpTo (blocks_at begun) list (counted_in runs.spent all) (counted_in runs.spent c.run_listed-answer.new.crew.slots.items)) c.run_listed-answer.ensures.few) in
    room_of_entries start marked.marks.items l.right l.whole list l.all_marked runs.spent crew.slots.items now c.requires.crew.settled c.requires.limits c.requires.may_run.vertices few
    (g.T.Tally.entries c.args.tally.now) c.requires.room_of_entries

pub returns-clause-ended : goal.returns-clause-ended
returns-clause-ended g c =
    let runs = g.B.RunsOn in
    let rules = g.P.Program.rules in
    let lists = runs.lists c.args.runner.now in
    let caused = runs.caused c.args.runner.now in
    let crew = c.args.crew.now in
    let marked = c.make_marks.new.crew in
    let made = c.make_marks.ensures.rest in
    let ran = c.run_listed-answer.new.crew in
    let run = c.run_listed-answer.ensures in
    let answer = c.run_listed-answer.result in
    let list = c.in-Ok.listed.blocks.items in
    let start = start_of rules lists c.args.phase crew in
    let l = has_listed rules lists c.args.phase crew marked made (runs.allows c.args.runner.now) c.requires.may_run c.make_marks.ensures.marks
    c.deref.result.now c.deref.ensures.value list c.in-Ok.ensures.all_marked in
    let states = c.end.new.crew.states.items in
    let told = at_first rules lists c.args.phase crew marked made (λ begun all. IfOk answer (λ told. IsTold (blocks_at begun) list told)) run.told in
    let more = subst (λ (one : Crew _ _ _). IfOk answer (λ told. MoreCame (rules_in rules one) one.inboxes.map (blocks_at (start_of rules lists c.args.phase one)) list told
    one.inboxes.parts ran.inboxes.parts)) made run.came in
    let came = IfOk-weaker answer (λ told. MoreCame start.rules start.map (blocks_at start) list told crew.inboxes.parts ran.inboxes.parts)
    (λ told. HasMoreCome start.rules start.map (blocks_at start) list told [] ran.inboxes.parts) (λ told comes. comes [] c.requires.crew.empty) more in
    let kept = ap (λ (one : Crew _ _ _). one.states) run.rest in
    let iterated = subst (λ (begun : Start). OnOk (ended_as answer) (IsIterated begun.rules begun.map begun.phase ran.inboxes.parts begun.states states))
    (ran_start rules lists c.args.phase crew marked made ran run.same kept)
    (subst (λ (result : Result Counts (Unfinished _)). OnOk result (IsIterated (rules_in rules ran) ran.inboxes.map c.args.phase ran.inboxes.parts ran.states.items states))
    c.end.ensures.answer c.end.ensures.iterated) in
    let same = on_err_weaker (ended_as answer)
    (λ stays. ap (λ (vector : Vec VState). vector.items) (stays ∙ kept ∙ ap (λ (one : Crew _ _ _). one.states) made))
    (subst (λ (result : Result Counts (Unfinished _)). OnErr result (c.end.new.crew.states ≡ ran.states)) c.end.ensures.answer c.end.ensures.err) in
    subst (λ (result : Result Counts (Unfinished _)). HasEnded caused start result states) (sym c.end.ensures.answer)
    (has_ended start marked.marks.items l.right l.whole list l.all_marked caused answer ran.inboxes.parts states c.requires.may_run.vertices told came run.fault iterated same)

pub returns-clause-raised : goal.returns-clause-raised
returns-clause-raised g c =
    let runs = g.B.RunsOn in
    let rules = g.P.Program.rules in
    let lists = runs.lists c.args.runner.now in
    let crew = c.args.crew.now in
    let marked = c.make_marks.new.crew in
    let made = c.make_marks.ensures.rest in
    let ran = c.run_listed-answer.new.crew in
    let run = c.run_listed-answer.ensures in
    let answer = c.run_listed-answer.result in
    let list = c.in-Ok.listed.blocks.items in
    let start = start_of rules lists c.args.phase crew in
    let l = has_listed rules lists c.args.phase crew marked made (runs.allows c.args.runner.now) c.requires.may_run c.make_marks.ensures.marks
    c.deref.result.now c.deref.ensures.value list c.in-Ok.ensures.all_marked in
    let old = counted_in runs.spent crew.slots.items in
    let now = c.deref_mut.result.now in
    let few = subst (λ (all : List (Slot _ _)). SpentInAllUpTo (blocks_at start) list old (counted_in runs.spent all)) (sym c.deref_mut.ensures.value)
    (at_first rules lists c.args.phase crew marked made
    (λ begun all. SpentInAllUpTo (blocks_at begun) list (counted_in runs.spent all) (counted_in runs.spent ran.slots.items)) run.few) in
    let exact = subst (λ (all : List (Slot _ _)). IfOk answer (λ told. SpentAsTold (blocks_at start) list old (counted_in runs.spent all) told)) (sym c.deref_mut.ensures.value)
    (at_first rules lists c.args.phase crew marked made
    (λ begun all. IfOk answer (λ told. SpentAsTold (blocks_at begun) list (counted_in runs.spent all) (counted_in runs.spent ran.slots.items) told)) run.exact) in
    let count = g.T.Tally.runs in
    let entries = g.T.Tally.entries in
    let before = c.args.tally.now in
    let after = c.settle_all.new.tally in
    subst (λ (result : Result Counts (Unfinished _)). HasRaised start result (count before) (entries before) (count after) (entries after)) (sym c.end.ensures.answer)
    (tally_raised start marked.marks.items l.right l.whole list l.all_marked runs.spent crew.slots.items now c.requires.crew.settled answer few exact
    (count before) (entries before) (count after) (entries after) c.settle_all.ensures.runs c.settle_all.ensures.entries)

pub returns-clause-visited : goal.returns-clause-visited
returns-clause-visited g c =
    let runs = g.B.RunsOn in
    let rules = g.P.Program.rules in
    let lists = runs.lists c.args.runner.now in
    let crew = c.args.crew.now in
    let marked = c.make_marks.new.crew in
    let made = c.make_marks.ensures.rest in
    let ran = c.run_listed-answer.new.crew in
    let answer = c.run_listed-answer.result in
    let list = c.in-Ok.listed.blocks.items in
    let start = start_of rules lists c.args.phase crew in
    let l = has_listed rules lists c.args.phase crew marked made (runs.allows c.args.runner.now) c.requires.may_run c.make_marks.ensures.marks
    c.deref.result.now c.deref.ensures.value list c.in-Ok.ensures.all_marked in
    let old = counted_in runs.spent crew.slots.items in
    let now = c.deref_mut.result.now in
    let exact = subst (λ (all : List (Slot _ _)). IfOk answer (λ told. SpentAsTold (blocks_at start) list old (counted_in runs.spent all) told)) (sym c.deref_mut.ensures.value)
    (at_first rules lists c.args.phase crew marked made
    (λ begun all. IfOk answer (λ told. SpentAsTold (blocks_at begun) list (counted_in runs.spent all) (counted_in runs.spent ran.slots.items) told)) c.run_listed-answer.ensures.exact) in
    let settled = c.settle_all.new.slots in
    let last = c.end.new.crew.slots.items in
    let long : length settled ≡ ran.slots.len = omega (arith, c.settle_all.ensures.count, c.deref_mut.ensures.len) in
    let is_last = ap (λ (one : Crew _ _ _). one.slots.items) c.end.ensures.rest ∙ whole-again settled ran.slots.items ran.slots.len long in
    let none = (g.met.B.RunsOn g.world.𝓛 g.world.𝓜 g.world.𝓡 ((λ s x. x), (λ x. x), (λ x. x), λ x. x)).none_visited c.args.runner.now start.rules in
    subst (λ (result : Result Counts (Unfinished _)). OnOk result (hits_in runs.spent crew.slots.items + visits_in start ≤ hits_in runs.spent last)) (sym c.end.ensures.answer)
    (pages_visited start marked.marks.items l.right l.whole list l.all_marked runs.spent crew.slots.items now c.requires.crew.settled answer last none exact
    (ap (hits_in runs.spent) is_last ∙ c.settle_all.ensures.hits))

pub returns-clause-crew : goal.returns-clause-crew
returns-clause-crew g c =
    let runs = g.B.RunsOn in
    let crew = c.args.crew.now in
    let made = c.make_marks.ensures.rest in
    let ran = c.run_listed-answer.new.crew in
    let run = c.run_listed-answer.ensures in
    let last = c.end.new.crew in
    let settled = c.settle_all.new.slots in
    let lends : PartMap → List (Slot _ _) → Type 0 = λ map slots. All (λ (slot : Slot _ _). runs.lends c.args.runner.now map slot.kept) slots in
    let long : length settled ≡ ran.slots.len = omega (arith, c.settle_all.ensures.count, c.deref_mut.ensures.len) in
    let slots = ap (λ (one : Crew _ _ _). one.slots.items) c.end.ensures.rest ∙ whole-again settled ran.slots.items ran.slots.len long in
    let marked : Crew _ _ _ → Option _ = λ one. one.marked in
    let is_marked = ap marked c.end.ensures.rest ∙ ap marked run.rest ∙ ap marked made in
    let count = c.settle_all.ensures.count ∙ ap (λ (all : List (Slot _ _)). length all) c.deref_mut.ensures.value ∙ run.same.workers
    ∙ ap (λ (one : Crew _ _ _). length one.slots.items) made in
    let lent = c.settle_all.ensures.lent ran.inboxes.map (subst (lends ran.inboxes.map) (sym c.deref_mut.ensures.value)
    (subst (λ (map : PartMap). lends map ran.slots.items) (sym run.same.map) run.lent)) in
    crew_again g.P.Program.rules (runs.lends c.args.runner.now) runs.spent c.args.phase ran last settled c.end.ensures.same.program c.end.ensures.same.map slots
    is_marked c.end.ensures.marks c.end.ensures.empty (omega (arith, count, c.requires.crew.workers.0), omega (arith, count, c.requires.crew.workers.1)) lent c.settle_all.ensures.settled
