use Rattle.std.proofs.Common.{◌≡◌, ◌<◌, List, [], ◌∷◌, ◌++◌, length, get_or, take, ap, sym, ◌∙◌, subst, arith}
use Rattle.std.proofs.lemmas.List.{take_all, take_more}
use Rattle.std.proofs.lemmas.List.Sums.{sum_by-drop_more}
use Rattle.fg_task.specs.declared.block_result.BlockResult.{BlockResult}
use Rattle.fg_wave.specs.Telling.{IsLeastFound}
use Rattle.fg_wave.proofs.telling.tell.Goals as goal

pub loop-one-preserved : goal.loop-one-preserved
loop-one-preserved c =
    let results = c.args.results.now in
    let i = c.loop-one.one-index in
    let one = c.one-item.result in
    let below : i < length results = omega arith in
    let is : get_or results i one ≡ one = sym c.one-item.is in
    record {
      active = omega (arith, sum_by-drop_more (λ (r : BlockResult). r.active) results i one below, ap (λ (r : BlockResult). r.active) is, c.from-active.ensures);
      sent = omega (arith, sum_by-drop_more (λ (r : BlockResult). r.sent) results i one below, ap (λ (r : BlockResult). r.sent) is);
      found = subst (λ (l : List BlockResult). IsLeastFound l c.earlier-first.result)
          (sym (take_more results i one below ∙ ap (λ (r : BlockResult). take i results ++ r ∷ []) is))
          (c.earlier-first.ensures (take i results) c.loop-one.invariant.found);
    }

pub returns-clause-bad : goal.returns-clause-bad
returns-clause-bad c =
    let results = c.args.results.now in
    c.edge_of.ensures results
    (subst (λ (l : List BlockResult). IsLeastFound l c.loop-one.first) (take_all c.loop-one.one-index results (omega arith)) c.loop-one.invariant.found)
