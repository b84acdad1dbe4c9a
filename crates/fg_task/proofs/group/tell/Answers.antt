use Rattle.std.proofs.Common.{List, subst, take_all}
use Rattle.fg_task.specs.declared.group.Group.{Group}
use Rattle.fg_task.specs.Book.{Tells}
use Rattle.fg_task.specs.Groups.{waiting}
use Rattle.fg_task.proofs.PagesLaws.{tells-empty, tells-next}
use Rattle.fg_task.proofs.group.tell.Goals as goal

pub loop-group-preserved-then-group : goal.loop-group-preserved-then-group
loop-group-preserved-then-group c = record {
  tells = λ jobs each. tells-empty jobs c.args.groups.now c.loop-group.group-index c.loop-group-test.true c.args.pages.now.items c.loop-group.pages.items
      (c.loop-group.invariant.tells jobs each) c.if-group.true;
}

pub loop-group-preserved : goal.loop-group-preserved
loop-group-preserved c = record {
  tells = λ jobs each. rw c.in_ok-push.ensures.items
      (tells-next jobs c.args.groups.now c.loop-group.group-index c.loop-group-test.true c.args.pages.now.items c.loop-group.pages.items
      (c.loop-group.invariant.tells jobs each) each c.if-group.false);
}

pub returns : goal.returns
returns c = λ jobs each.
    subst (λ (groups : List Group). Tells (waiting jobs groups) c.args.pages.now.items c.loop-group.pages.items)
    (take_all c.loop-group.group-index c.args.groups.now c.loop-group-test.false) (c.loop-group.invariant.tells jobs each)
