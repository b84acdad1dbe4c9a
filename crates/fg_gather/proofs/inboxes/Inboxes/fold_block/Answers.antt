use Rattle.std.proofs.Common.{arith}
use Rattle.fg_gather.proofs.InboxesLaws.{number-within, read-size}
use Rattle.fg_gather.proofs.inboxes.Inboxes.fold_block.Goals as goal

pub fold_block-requires-clause-number : goal.fold_block-requires-clause-number
fold_block-requires-clause-number g c =
    let below = rw (← c.self.view_is) at c.requires.block in
    number-within c.self.inside.program.now c.self.inside.map c.self.inside.boxes.items c.self.invariant c.args.block c.index.result.now below c.index.ensures

pub fold_block-requires-clause-count : goal.fold_block-requires-clause-count
fold_block-requires-clause-count g c =
    let below = rw (← c.self.view_is) at c.requires.block in
    let short = rw (← c.self.view_is) at c.requires.count in
    omega (arith, short, read-size c.self.inside.program.now c.self.inside.map c.self.inside.boxes.items c.self.invariant c.args.block c.index.result.now below c.index.ensures)
