use Rattle.std.proofs.Common.{arith}
use Rattle.fg_image.proofs.MakingLaws.{index_len-is}
use Rattle.fg_image.proofs.making.index_len.Goals as goal

pub returns-clause-len : goal.returns-clause-len
returns-clause-len c =
    let is = index_len-is c.args.outs.now c.args.ins.now c.requires.few_vertices c.requires.same_vertices c.requires.few_outs c.requires.few_ins in
    let len = is.len in
    omega (arith, len, c.long_degrees.ensures, c.long_degrees-2.ensures)

pub returns-clause-few : goal.returns-clause-few
returns-clause-few c =
    let is = index_len-is c.args.outs.now c.args.ins.now c.requires.few_vertices c.requires.same_vertices c.requires.few_outs c.requires.few_ins in
    let len = is.len in
    omega (arith, len, is.few, c.long_degrees.ensures, c.long_degrees-2.ensures)
