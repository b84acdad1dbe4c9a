use Rattle.std.proofs.Common.{◌∙◌, ◌+◌, None, Option, sym}
use Rattle.fg_queue.specs.LoadRun.{no_load}
use Rattle.std.proofs.lemmas.List.{get_or-replicate}
use Rattle.fg_queue.specs.declared.load.Load.{Load}
use Rattle.fg_queue.proofs.RunLemmas.{find_more}
use Rattle.fg_queue.proofs.take.oldest_loads.Goals as goal

pub loop-load-init : goal.loop-load-init
loop-load-init c = λ k h. get_or-replicate {A = Option Load} 32 k None None h

pub loop-load-preserved : goal.loop-load-preserved
loop-load-preserved c = λ k h.
    (rw (c.loop-load.invariant k h) at (c.note.ensures k h)) ∙ sym (find_more (c.args.first + k) c.args.loads.now c.loop-load.load-index no_load c.loop-load-test.true)
