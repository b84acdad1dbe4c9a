use Rattle.fg_batch.proofs.FoldLaws.{folds_each}
use Rattle.fg_batch.proofs.inbox.Inbox.folds_each.Goals as goal

pub returns : goal.returns
returns g c = folds_each (g.P.Program.rules c.args.self.now.program) (g.met.P.Program.lawful c.args.self.now.program) c.args.self.now.map c.args.self.now.part
