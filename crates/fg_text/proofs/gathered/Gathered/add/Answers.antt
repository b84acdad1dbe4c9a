use Rattle.std.proofs.Common.{length, ap, arith}
use Rattle.fg_model.specs.Edges.{EdgeList}
use Rattle.fg_text.proofs.GatheredLemmas.{gathered_more}
use Rattle.fg_text.proofs.gathered.Gathered.add.Goals as goal

pub invariant_of-self : goal.invariant_of-self
invariant_of-self c =
    let inside = c.self.inside in
    let same = ap (λ (edges : EdgeList). length edges.pairs) c.self.view_is in
    let front = c.push_pairs.ensures.front in
    rw (c.max-self-inside.ensures, c.max.ensures, c.is_some.ensures)
    (gathered_more c.args.undirected c.args.edge inside.n inside.weighted inside.pairs.items c.push_pairs.new.pairs.items front.0
    c.requires.source c.requires.target (omega (arith, same, c.requires.room)) c.push_pairs.ensures.weight front.1 c.self.invariant)
