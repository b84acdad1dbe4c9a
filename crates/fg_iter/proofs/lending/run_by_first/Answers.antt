use Rattle.std.proofs.Common.{◌++◌, drop, refl, take}
use Rattle.std.proofs.lemmas.Result.{IfOk-weaker}
use Rattle.fg_iter.proofs.LentLaws.{few_by_lent, told_by_lent}
use Rattle.fg_iter.specs.Crew.{counted_in}
use Rattle.fg_wave.specs.Waves.{SpentAsTold}
use Rattle.fg_iter.proofs.lending.run_by_first.Goals as goal

pub returns-clause-exact : goal.returns-clause-exact
returns-clause-exact g c =
    let spent = g.B.RunsBlock.spent in
    let blocks = g.B.RunsBlock.blocks c.args.runner.now in
    let slots = c.args.slots.now in
    let lent = c.run_waves.new.slots in
    let all = lent ++ drop c.args.workers slots in
    let list = c.args.list.now in
    IfOk-weaker c.run_waves.result (λ told. SpentAsTold blocks list (counted_in spent (take c.args.workers slots)) (counted_in spent lent) told)
    (λ told. SpentAsTold blocks list (counted_in spent slots) (counted_in spent all) told)
    (λ told some. told_by_lent spent slots lent all c.args.workers refl blocks list told some) c.run_waves.ensures.exact

pub returns-clause-few : goal.returns-clause-few
returns-clause-few g c =
    let slots = c.args.slots.now in
    let lent = c.run_waves.new.slots in
    few_by_lent g.B.RunsBlock.spent slots lent (lent ++ drop c.args.workers slots) c.args.workers refl (g.B.RunsBlock.blocks c.args.runner.now) c.args.list.now c.run_waves.ensures.few_in_all
