use Rattle.std.proofs.Common.{sym, subst, arith}
use Rattle.fg_image.proofs.LimitLaws.{IsBytes, graph_by-made, limits-by}
use Rattle.fg_model.specs.declared.graph.Graph.{Graph}
use Rattle.fg_model.specs.Graph.{IsWithinLimits}
use Rattle.fg_image.proofs.cut.cut_graph.Goals as goal

pub returns-clause-graph : goal.returns-clause-graph
returns-clause-graph c =
    graph_by-made c.args.layout.now c.args.index.now c.args.image.now c.n.result c.weighted.result c.in_ok-outs.outs c.in_ok-ins.ins
    c.n.ensures.outs c.weighted.ensures c.in_ok-outs.ensures c.in_ok-ins.ensures

pub returns-clause-limits : goal.returns-clause-limits
returns-clause-limits c =
    let of_graph : Graph → Type 0 = λ graph. IsWithinLimits graph in
    let bytes : IsBytes c.args.image.now = record { each = λ i. let fits = c.type_inv.image i in omega (arith, fits) } in
    subst of_graph (sym (returns-clause-graph c)) (limits-by c.args.layout.now c.args.index.now c.args.image.now c.requires.fits bytes)
