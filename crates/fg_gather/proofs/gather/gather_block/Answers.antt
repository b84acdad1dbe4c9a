use Rattle.std.proofs.Common.{ap, ◌∙◌, get_or, false, refl}
use Rattle.fg_gather.proofs.RunLaws.{block-gathered}
use Rattle.fg_part.specs.PartMap.{block_of}
use Rattle.fg_part.specs.declared.part_map.PartMap.{PartMap}
use Rattle.fg_gather.proofs.gather.gather_block.Goals as goal

pub returns : goal.returns
returns g c =
    let ran = rw c.program.ensures at c.run_again.ensures.each in
    block-gathered (g.P.Program.rules c.args.inboxes.now.program) c.args.inboxes.now.map c.args.phase c.args.inboxes.now.parts c.args.marks.now c.args.first c.block_of-block.result
    c.args.states.now c.run_again.new.states c.fold_block.new.states (get_or c.args.marks.now c.block_of-block.result false)
    (c.block_of-block.ensures.value ∙ ap (λ (m : PartMap). block_of m c.args.first) c.map.ensures) c.requires.begins c.requires.count refl
    c.run_again.ensures.count c.fold_block.ensures.count ran c.fold_block.ensures.each
