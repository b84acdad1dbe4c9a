use Rattle.std.proofs.Common.{◌∙◌}
use Rattle.fg_gather.proofs.MarksLaws.{some_marked}
use Rattle.fg_gather.proofs.marks.any_marked.Goals as goal

pub returns : goal.returns
returns c P map phase states whole right = c.some_set.ensures ∙ some_marked P map phase states c.args.marks.now whole right
