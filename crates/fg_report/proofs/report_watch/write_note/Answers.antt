use Rattle.std.proofs.Common.{ℕ, List, Option, subst, ap, ◌∙◌}
use Rattle.std.proofs.lemmas.Result.{on_err_weaker}
use Rattle.fg_base.specs.Told.{grown, GrewByFirst}
use Rattle.fg_base.proofs.GrowthLemmas.{grew_before, grew_on}
use Rattle.fg_report.specs.Lines.{iteration_line}
use Rattle.fg_report.specs.ReportWatch.{each_lines}
use Rattle.fg_report.proofs.report_watch.write_note.Goals as goal

pub returns-in-Err-clause-part : goal.returns-in-Err-clause-part
returns-in-Err-clause-part g c =
    let values = each_lines c.args.each (g.P.Program.rules c.args.program.now).show c.args.states.now in
    grew_before (iteration_line c.args.line) values (g.K.Sink.written c.args.out.now) (g.K.Sink.written c.write_iteration.new.out) c.in-Err.ensures.part

pub returns-clause-part : goal.returns-clause-part
returns-clause-part g c =
    let values = each_lines c.args.each (g.P.Program.rules c.args.program.now).show c.args.states.now in
    let new = g.K.Sink.written c.write_each.new.out in
    let P : Option (List ℕ) → Type 0 = λ told. GrewByFirst values told new in
    on_err_weaker c.write_each.result
    (λ part. grew_on (iteration_line c.args.line) values (g.K.Sink.written c.args.out.now) new (subst P c.in_default.ensures.whole part))
    c.write_each.ensures.part
