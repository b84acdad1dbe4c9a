use Rattle.fg_text.proofs.GatheredLemmas.{edges_from_gathered}
use Rattle.fg_text.proofs.gathered.Gathered.into_edges.Goals as goal

pub new-requires : goal.new-requires
new-requires c =
    let inside = c.self.inside in
    edges_from_gathered inside.n inside.weighted inside.pairs.items c.merge.result.items c.self.invariant c.merge.ensures.meaning c.merge.ensures.few
