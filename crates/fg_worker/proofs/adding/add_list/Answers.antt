use Rattle.std.proofs.Common.{ap, ◌∙◌}
use Rattle.fg_edges.specs.Segments.{ListRest}
use Rattle.fg_worker.proofs.AddingLaws.{adds-all, adds-one, with_job-function}
use Rattle.fg_worker.proofs.adding.add_list.Goals as goal

pub loop-segment-preserved : goal.loop-segment-preserved
loop-segment-preserved g c =
    let kept = c.loop-segment.invariant in
    let given = c.in-Some.ensures.steps in
    record {
      can = tt;
      finite = tt;
      weighted = ap (λ (rest : ListRest). rest.weighted) given.1 ∙ kept.weighted;
      function = with_job-function _ _ _ _ c.in_ok-add.ensures.ok ∙ kept.function;
      adds = adds-one c.args.layout.now c.args.index.now c.args.dir c.args.v c.args.carry c.args.book.now
          c.loop-segment.segment-iterator c.in-Some.segment c.next.new.self c.loop-segment.book c.add.new.self given.0 given.1
          c.in_ok-add.ensures.ok kept.adds;
    }

pub returns-clause-added : goal.returns-clause-added
returns-clause-added g c =
    adds-all c.args.layout.now c.args.index.now c.args.dir c.args.v c.args.carry c.args.book.now c.loop-segment.segment-iterator c.loop-segment.book
    c.in-None.ensures.steps.0 c.loop-segment.invariant.adds
