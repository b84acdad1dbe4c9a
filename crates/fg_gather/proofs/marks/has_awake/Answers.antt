use Rattle.std.proofs.Common.{◌≡◌, ◌*◌, ◌<◌, ap, arith}
use Rattle.std.proofs.lemmas.Nat.{pow_pos}
use Rattle.fg_gather.proofs.MarksLaws.{mark_is}
use Rattle.fg_part.proofs.Ceilings.{product_below}
use Rattle.fg_part.specs.PartMap.{block_size}
use Rattle.fg_gather.proofs.marks.has_awake.Goals as goal

pub returns : goal.returns
returns g c =
    let map = c.args.map in
    let b = c.args.block in
    let states = c.args.states.now in
    let first = b * c.block_size.result in
    let begins : first ≡ b * block_size map = ap (λ (size : _). b * size) c.block_size.ensures.value in
    let less : b * block_size map < map.n = product_below b map.n (block_size map) (pow_pos map.shift) c.requires.block in
    mark_is (g.P.Program.rules c.args.program.now) map c.args.phase states b first c.min-end.result c.requires.states begins
    (omega (arith, c.min-end.ensures, c.block_size-2.ensures.value)) (omega (arith, begins, less, c.requires.states)) c.is_some_active.result c.is_some_active.ensures
