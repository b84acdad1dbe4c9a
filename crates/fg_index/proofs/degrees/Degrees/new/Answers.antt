use Rattle.fg_index.proofs.JoinedLemmas.{joined-nil}
use Rattle.fg_index.proofs.PushLemmas.{none_is}
use Rattle.fg_index.proofs.degrees.Degrees.new.Goals as goal

pub invariant_of-result : goal.invariant_of-result
invariant_of-result c = rw (c.in_ok-with_capacity.ensures.items, c.in_ok-with_capacity-2.ensures.items, c.in_ok-with_capacity-3.ensures.items) none_is

pub returns : goal.returns
returns c = rw c.in_ok-with_capacity.ensures.items (joined-nil c.in_ok-with_capacity-2.field-0.items)
