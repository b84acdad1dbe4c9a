use Rattle.std.proofs.Common.{◌*◌, ◌/◌, get_or, arith}
use Rattle.fg_index.specs.DegreesParts.{nothing}
use Rattle.fg_index.proofs.WalkLemmas.{start_is, walked_is, longs_there}
use Rattle.fg_index.proofs.degrees.below_of.Goals as goal

pub walk-requires-clause-longs : goal.walk-requires-clause-longs
walk-requires-clause-longs c =
    let v = c.args.v in
    let parts = c.requires.parts in
    let start = start_is c.args.low.now c.args.long.now c.args.starts.now c.args.total v parts c.requires.within in
    longs_there c.args.low.now c.args.long.now (v / 32 * 32) v (get_or c.args.starts.now (v / 32) nothing) (omega arith) parts.each_long start

pub returns : goal.returns
returns c =
    let v = c.args.v in
    let start = start_is c.args.low.now c.args.long.now c.args.starts.now c.args.total v c.requires.parts c.requires.within in
    walked_is c.args.low.now c.args.long.now (v / 32 * 32) v (get_or c.args.starts.now (v / 32) nothing) c.walk.result (omega arith) start
    c.walk.ensures.degrees c.walk.ensures.longs
