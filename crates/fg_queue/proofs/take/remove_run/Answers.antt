use Rattle.std.proofs.Common.{◌≡◌, ◌∙◌, ◌+◌, ◌-◌, ◌<◌, ◌≤◌, true, false, length, arith}
use Rattle.std.proofs.lemmas.Bool.{both_ways, false_from_ne_true}
use Rattle.fg_queue.specs.QueueStep.{run_from}
use Rattle.fg_queue.proofs.RunLemmas.{Climbs, run_from-climbs}
use Rattle.fg_queue.proofs.RestLemmas.{due_from, is_due, left-run, pass_due, pass_keeps, pass_ends, due_is, due_parts}
use Rattle.fg_queue.proofs.take.remove_run.Goals as goal
use Rattle.fg_queue.proofs.take.remove_run.Goals.{then-is_due, else-is_due}

pub loop-next-preserved : goal.loop-next-preserved
loop-next-preserved c =
    let load = c.index-load.result.now in
    let loads = c.loop-next.loads.items in
    let at = c.loop-next.invariant in
    let within : c.loop-next.next < length loads = omega (arith, c.loop-next.loads.ok.0, c.len-next-end.ensures, at.same_len, c.loop-next-test.true) in
    elim c.if-is_due.branch [
      | then-is_due w ↦
          let parts = c.is_due.ensures.due.0 w.if-is_due.true in
          let is : is_due c.args.first c.loop-next.due load ≡ true = due_is c.args.first c.loop-next.due load parts.0 parts.1 in
          rw (w.loads-is, w.due-is, w.kept-is) (record {
            same_len = at.same_len;
            capacity = at.capacity;
            behind = omega (arith, at.behind);
            so_far = pass_due c.args.first c.loop-next.kept c.loop-next.next c.loop-next.due loads _ load within c.index-load.ensures is at.so_far;
          })
      | else-is_due w ↦
          let stays : is_due c.args.first c.loop-next.due load ≡ false = false_from_ne_true _ (λ is.
          both_ways c.is_due.result w.if-is_due.false (c.is_due.ensures.due.1 (due_parts c.args.first c.loop-next.due load is))) in
          rw (w.loads-is, w.due-is, w.kept-is) (record {
            same_len = at.same_len;
            capacity = at.capacity;
            behind = omega (arith, at.behind);
            so_far = (pass_keeps c.args.first c.loop-next.kept c.loop-next.next c.loop-next.due loads _ load within c.index-load.ensures at.behind stays at.so_far);
          })
    ]

pub returns-clause-items : goal.returns-clause-items
returns-clause-items c =
    let run = run_from 32 c.args.first c.args.loads.now.items in
    let start : c.loop-place.place ≡ 0 = omega arith in
    let all : c.args.count - 0 ≡ length run = omega (arith, c.requires.run) in
    let due : c.loop-place.due ≡ due_from 0 (length run) = rw (start, all) at c.loop-place.invariant in
    let over : length c.loop-next.loads.items ≤ c.loop-next.next =
    omega (arith, c.loop-next.loads.ok.0, c.len-next-end.ensures, c.loop-next.invariant.same_len, c.loop-next-test.false) in
    let whole = pass_ends c.args.first c.loop-next.kept c.loop-next.next c.loop-next.due c.loop-next.loads.items _ over c.loop-next.invariant.so_far in
    let at_start : c.args.first + 0 ≡ c.args.first = omega arith in
    let climbs : Climbs (c.args.first + 0) run = rw at_start (run_from-climbs 32 c.args.first c.args.loads.now.items) in
    c.truncate.ensures.items ∙ whole ∙ rw due (left-run c.args.first 0 run c.args.loads.now.items climbs (omega (arith, c.requires.run, c.requires.few)))
