use Rattle.std.proofs.Common.{◌≡◌, List, ap, sym, ◌∙◌, subst, arith}
use Rattle.std.specs.Global.{Vec}
use Rattle.std.specs.Prelude.{All}
use Rattle.fg_batch.specs.declared.batch.Batch.{Batch}
use Rattle.fg_batch.specs.Outbox.{IsForItsPart}
use Rattle.fg_crew.specs.Wave.{in_all}
use Rattle.fg_gather.specs.Deliver.{batches_in}
use Rattle.fg_part.specs.declared.part_map.PartMap.{PartMap}
use Rattle.fg_task.specs.declared.block_result.BlockResult.{BlockResult}
use Rattle.fg_task.specs.Spending.{active_in, sent_in}
use Rattle.fg_wave.specs.Telling.{IsLeastBadOf}
use Rattle.fg_wave.proofs.WaveLaws.{batches-fit, batches_each, wave_came, wave_spent, wave_told}
use Rattle.fg_wave.proofs.WavesLaws.{some-count}
use Rattle.fg_wave.proofs.waves.run_wave.Goals as goal

pub tell-told-requires-clause-active : goal.tell-told-requires-clause-active
tell-told-requires-clause-active g c =
    let runs = g.B.RunsBlock in
    let blocks = runs.blocks c.args.runner.now in
    let list = c.args.list.now in
    let few = some-count runs.spent (in_all blocks.active_of list c.args.from c.args.to) (in_all blocks.needed_of list c.args.from c.args.to) c.args.slots.now
    c.requires.workers.0 c.requires.room in
    omega (arith, few.0, c.in-Ok.ensures.ok.active, ap active_in c.deref.ensures.value)

pub tell-told-requires-clause-sent : goal.tell-told-requires-clause-sent
tell-told-requires-clause-sent g c =
    let runs = g.B.RunsBlock in
    let blocks = runs.blocks c.args.runner.now in
    let list = c.args.list.now in
    let few = some-count runs.spent (in_all blocks.active_of list c.args.from c.args.to) (in_all blocks.needed_of list c.args.from c.args.to) c.args.slots.now
    c.requires.workers.0 c.requires.room in
    omega (arith, few.1, c.in-Ok.ensures.ok.few_sent, ap sent_in c.deref.ensures.value)

pub returns-then-is_some-clause-told : goal.returns-then-is_some-clause-told
returns-then-is_some-clause-told g c =
    wave_told (g.B.RunsBlock.blocks c.args.runner.now) c.args.list.now c.args.from c.args.to c.in-Ok.results.items c.in-Ok.ensures.ok c.tell-told.result
    (c.tell-told.ensures.active ∙ ap active_in c.deref.ensures.value) (c.tell-told.ensures.sent ∙ ap sent_in c.deref.ensures.value)
    (subst (λ (l : List BlockResult). IsLeastBadOf l c.tell-told.result.bad) c.deref.ensures.value c.tell-told.ensures.bad) c.requires.rises c.requires.wave.1

pub returns-then-is_some-clause-exact : goal.returns-then-is_some-clause-exact
returns-then-is_some-clause-exact g c =
    wave_spent (g.B.RunsBlock.blocks c.args.runner.now) c.args.list.now c.args.from c.args.to c.in-Ok.results.items c.in-Ok.ensures.ok c.tell-told.result
    (c.tell-told.ensures.active ∙ ap active_in c.deref.ensures.value) (c.tell-told.ensures.sent ∙ ap sent_in c.deref.ensures.value)
    (subst (λ (l : List BlockResult). IsLeastBadOf l c.tell-told.result.bad) c.deref.ensures.value c.tell-told.ensures.bad) _ _ c.in-Ok.ensures.exact

pub deliver-requires-clause-fit : goal.deliver-requires-clause-fit
deliver-requires-clause-fit g c κs within =
    let blocks = g.B.RunsBlock.blocks c.args.runner.now in
    let results = c.in-Ok.results.items in
    let are : c.deref-2.result.now ≡ batches_each results = c.deref-2.ensures.value ∙ c.in-Ok-batches_of.ensures in
    subst (λ (map : PartMap). All (IsForItsPart map) (batches_in c.deref-2.result.now)) c.requires.map
    (subst (λ (l : List (Vec Batch)). All (IsForItsPart blocks.map) (batches_in l)) (sym are)
    (batches-fit blocks c.args.list.now c.args.from c.args.to results c.in-Ok.ensures.ok))

pub returns-clause-told : goal.returns-clause-told
returns-clause-told g c =
    wave_told (g.B.RunsBlock.blocks c.args.runner.now) c.args.list.now c.args.from c.args.to c.in-Ok.results.items c.in-Ok.ensures.ok c.tell-told.result
    (c.tell-told.ensures.active ∙ ap active_in c.deref.ensures.value) (c.tell-told.ensures.sent ∙ ap sent_in c.deref.ensures.value)
    (subst (λ (l : List BlockResult). IsLeastBadOf l c.tell-told.result.bad) c.deref.ensures.value c.tell-told.ensures.bad) c.requires.rises c.requires.wave.1

pub returns-clause-came : goal.returns-clause-came
returns-clause-came g c =
    let results = c.in-Ok.results.items in
    let are : c.deref-2.result.now ≡ batches_each results = c.deref-2.ensures.value ∙ c.in-Ok-batches_of.ensures in
    wave_came (g.B.RunsBlock.blocks c.args.runner.now) c.args.list.now c.args.from c.args.to results c.in-Ok.ensures.ok
    (g.P.Program.rules c.args.inboxes.now.program) c.args.inboxes.now.map c.tell-told.result c.args.inboxes.now.parts c.deliver.new.self.parts
    c.deref-2.result.now are c.deliver.ensures.came

pub returns-clause-exact : goal.returns-clause-exact
returns-clause-exact g c =
    wave_spent (g.B.RunsBlock.blocks c.args.runner.now) c.args.list.now c.args.from c.args.to c.in-Ok.results.items c.in-Ok.ensures.ok c.tell-told.result
    (c.tell-told.ensures.active ∙ ap active_in c.deref.ensures.value) (c.tell-told.ensures.sent ∙ ap sent_in c.deref.ensures.value)
    (subst (λ (l : List BlockResult). IsLeastBadOf l c.tell-told.result.bad) c.deref.ensures.value c.tell-told.ensures.bad) _ _ c.in-Ok.ensures.exact
