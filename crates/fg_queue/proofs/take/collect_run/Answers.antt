use Rattle.std.proofs.Common.{◌≡◌, ◌∙◌, ◌+◌, ◌-◌, Some, None, slice_index_or, sym, arith}
use Rattle.std.specs.List.{find}
use Rattle.std.proofs.lemmas.List.{append-nil}
use Rattle.fg_queue.specs.QueueStep.{is_of}
use Rattle.fg_queue.proofs.RunLemmas.{collect_more, collect_ends, run_from-zero}
use Rattle.fg_queue.proofs.take.collect_run.Goals as goal

pub loop-place-preserved : goal.loop-place-preserved
loop-place-preserved c =
    let place = c.loop-place.place in
    let found : find (is_of (c.args.first + place)) c.args.loads.now ≡ Some c.in-Some.load = sym (c.oldest_loads-oldest.ensures place c.loop-place-test.true) ∙ c.in-Some.is in
    record {
      count = omega (arith, c.push.ensures.len, c.loop-place.invariant.count);
      so_far = rw c.push.ensures.items (collect_more 32 place c.args.first c.args.loads.now c.loop-place.run.items _ c.in-Some.load c.loop-place-test.true found c.loop-place.invariant.so_far);
    }

pub returns-after-loop-place : goal.returns-after-loop-place
returns-after-loop-place c =
    let over : 32 - c.loop-place.place ≡ 0 = omega arith in
    sym (append-nil c.loop-place.run.items) ∙ (rw (over, run_from-zero) at c.loop-place.invariant.so_far)

pub returns-in-None : goal.returns-in-None
returns-in-None c =
    let place = c.loop-place.place in
    let none : slice_index_or c.oldest_loads-oldest.result place None ≡ None = c.in-None.is in
    let found : find (is_of (c.args.first + place)) c.args.loads.now ≡ None = sym (c.oldest_loads-oldest.ensures place c.loop-place-test.true) ∙ none in
    collect_ends (32 - place) (c.args.first + place) c.args.loads.now c.loop-place.run.items _ found c.loop-place.invariant.so_far
