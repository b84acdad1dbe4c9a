use Rattle.std.proofs.Common.{◌<◌, arith}
use Rattle.fg_stripe.proofs.StripingLaws.{length-pages_on}
use Rattle.fg_stripe.proofs.striping.need_on.Goals as goal

pub returns : goal.returns
returns c =
    let layout = c.args.layout.now in
    let some : 0 < layout.drives = omega (arith, c.requires.own_drive) in
    let count = length-pages_on layout.drives layout.unit some c.requires.some_unit c.args.drive layout.pages c.requires.own_drive in
    omega (arith, count, c.min.ensures, c.saturating_sub.ensures)
