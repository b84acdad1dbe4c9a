use Rattle.std.proofs.Common.{ℕ, List, Option, subst}
use Rattle.std.proofs.lemmas.Result.{on_err_weaker}
use Rattle.fg_base.specs.Told.{GrewByFirst}
use Rattle.fg_base.proofs.GrowthLemmas.{grew_before, grew_on}
use Rattle.fg_top.specs.Outcome.{stats_text, values_or_sum}
use Rattle.fg_top.proofs.report.write_behind_end.Goals as goal

pub returns-in-Err-clause-part : goal.returns-in-Err-clause-part
returns-in-Err-clause-part g c =
    grew_before (stats_text c.args.stats) (values_or_sum c.args.quiet (g.P.Program.rules c.args.program.now).show c.args.states.now)
    (g.K.Sink.written c.args.out.now) (g.K.Sink.written c.write_some_stats.new.out) c.in-Err.ensures.part

pub returns-clause-part : goal.returns-clause-part
returns-clause-part g c =
    let second = values_or_sum c.args.quiet (g.P.Program.rules c.args.program.now).show c.args.states.now in
    let new = g.K.Sink.written c.write_closing.new.out in
    let Part : Option (List ℕ) → Type 0 = λ told. GrewByFirst second told new in
    on_err_weaker c.write_closing.result
    (λ part. grew_on (stats_text c.args.stats) second (g.K.Sink.written c.args.out.now) new (subst Part c.in_default.ensures.whole part))
    c.write_closing.ensures.part
