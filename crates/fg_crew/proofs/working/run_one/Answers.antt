use Rattle.fg_crew.proofs.SpendingLaws.{spent-one}
use Rattle.fg_crew.proofs.working.run_one.Goals as goal

pub returns-clause-added : goal.returns-clause-added
returns-clause-added g c = record { result = c.in-Ok.result; added = c.in-Ok-push.ensures.items; is = c.in-Ok.ensures.result }

pub returns-clause-exact : goal.returns-clause-exact
returns-clause-exact g c =
    spent-one (g.B.RunsBlock.blocks c.args.runner.now) (g.B.RunsBlock.spent c.args.kept.now) (g.B.RunsBlock.spent c.run.new.kept) c.args.results.now.items c.push.new.self.items
    c.in-Ok.result c.in-Ok-push.ensures.items c.in-Ok.ensures.exact
