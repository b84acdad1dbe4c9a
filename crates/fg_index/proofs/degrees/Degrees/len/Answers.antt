use Rattle.std.proofs.Common.{length, ap, arith}
use Rattle.fg_index.proofs.JoinedLemmas.{joined-length}
use Rattle.fg_index.proofs.degrees.Degrees.len.Goals as goal

pub returns : goal.returns
returns c =
    let low = c.self.inside.low in
    omega (arith, c.len.ensures, low.ok, joined-length low.items c.self.inside.long.items, ap length c.self.view_is)
