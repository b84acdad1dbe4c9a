use Rattle.std.proofs.Common.{length, ap, ◌∙◌}
use Rattle.std.proofs.lemmas.List.{length-replicate}
use Rattle.fg_batch.proofs.HeldLaws.{length-held, none_held}
use Rattle.fg_batch.proofs.inbox.Inbox.new.Goals as goal

pub returns-clause-empty : goal.returns-clause-empty
returns-clause-empty g c =
    let numbers = c.in_ok-vec.field-0.items in
    let came = c.in_ok-empty_set.field-0.items in
    record {
      count = length-held numbers came ∙ ap length (c.in_ok-vec.ensures.items_if_clones_equal (λ y same. same)) ∙ length-replicate c.places-places.result 0 ∙ c.places-places.ensures.value;
      none = none_held numbers came c.in_ok-empty_set.ensures.none;
    }
