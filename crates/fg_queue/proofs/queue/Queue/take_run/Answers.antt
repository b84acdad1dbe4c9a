use Rattle.std.proofs.Common.{◌≡◌, ◌∙◌, ◌<◌, length, get_or, ap}
use Rattle.fg_queue.specs.LoadQueue.{LoadQueue}
use Rattle.fg_queue.specs.QueueStep.{run_of}
use Rattle.fg_queue.proofs.RunLemmas.{run_of-is_run, run_taken, rest_left}
use Rattle.fg_queue.proofs.TakenLemmas.{all_taken_or_left}
use Rattle.fg_queue.proofs.queue.Queue.take_run.Goals as goal

pub of-requires-2 : goal.of-requires-2
of-requires-2 c =
    let loads = c.self.inside.loads.items in
    let oldest = c.in-Some.oldest.now in
    let some : 0 < length loads = rw c.deref.ensures.value at c.in-Some.ensures.item.3.0 in
    let at : oldest ≡ get_or loads 0 oldest = rw c.deref.ensures.value at c.in-Some.ensures.item.1 in
    let run : c.collect_run-run.result.items ≡ run_of c.args.self.now.loads =
    (rw c.deref-2.ensures.value at c.collect_run-run.ensures) ∙ run_taken c.self.inside.depth loads c.args.self.now oldest c.self.view_is some at in
    let waiting : 0 < length c.args.self.now.loads = rw (← c.self.view_is) some in
    rw (run, c.of-queue.ensures) (run_of-is_run c.args.self.now waiting)

pub returns-clause-after : goal.returns-clause-after
returns-clause-after c =
    let loads = c.self.inside.loads.items in
    let oldest = c.in-Some.oldest.now in
    let some : 0 < length loads = rw c.deref.ensures.value at c.in-Some.ensures.item.3.0 in
    let at : oldest ≡ get_or loads 0 oldest = rw c.deref.ensures.value at c.in-Some.ensures.item.1 in
    rest_left c.self.inside.depth loads c.remove_run.new.loads.items c.args.self.now oldest c.self.view_is some at c.remove_run.ensures.items

pub returns-clause-all : goal.returns-clause-all
returns-clause-all c =
    let loads = c.self.inside.loads.items in
    let oldest = c.in-Some.oldest.now in
    let some : 0 < length loads = rw c.deref.ensures.value at c.in-Some.ensures.item.3.0 in
    let at : oldest ≡ get_or loads 0 oldest = rw c.deref.ensures.value at c.in-Some.ensures.item.1 in
    let run : c.collect_run-run.result.items ≡ run_of c.args.self.now.loads =
    (rw c.deref-2.ensures.value at c.collect_run-run.ensures) ∙ run_taken c.self.inside.depth loads c.args.self.now oldest c.self.view_is some at in
    let after = rest_left c.self.inside.depth loads c.remove_run.new.loads.items c.args.self.now oldest c.self.view_is some at c.remove_run.ensures.items in
    rw (c.of-2.ensures, run, ap (λ (queue : LoadQueue). queue.loads) after) (all_taken_or_left c.args.self.now.loads)
