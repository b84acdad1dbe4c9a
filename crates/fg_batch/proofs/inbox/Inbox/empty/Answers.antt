use Rattle.std.proofs.Common.{◌∙◌}
use Rattle.fg_batch.proofs.HeldLaws.{length-held, none_held}
use Rattle.fg_batch.proofs.inbox.Inbox.empty.Goals as goal

pub returns-clause-empty : goal.returns-clause-empty
returns-clause-empty g c =
    let numbers = c.self.inside.numbers.items in
    let came = c.wipe_flagged.new.words.items in
    rw (← c.self.view_is) (record {
      count = length-held numbers came ∙ c.self.invariant.count;
      none = none_held numbers came c.wipe_flagged.ensures.none;
    })
