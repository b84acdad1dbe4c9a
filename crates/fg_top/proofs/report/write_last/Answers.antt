use Rattle.std.proofs.Common.{ℕ, List, Option, ◌++◌, subst}
use Rattle.std.proofs.lemmas.Result.{on_err_weaker}
use Rattle.fg_base.specs.Told.{grown, GrewByFirst}
use Rattle.fg_base.specs.declared.plain.VState.{VState}
use Rattle.fg_base.proofs.GrowthLemmas.{grew_before, grew_on}
use Rattle.fg_report.specs.Lines.{end_line}
use Rattle.fg_top.specs.Outcome.{stats_text, values_or_sum}
use Rattle.fg_top.proofs.report.write_last.Goals as goal

pub returns-in-Err-clause-part : goal.returns-in-Err-clause-part
returns-in-Err-clause-part g c =
    grew_before (end_line c.args.end.now.settled c.args.end.now.iterations)
    (stats_text c.args.stats ++ values_or_sum c.args.quiet (g.P.Program.rules c.args.program.now).show c.args.end.now.states)
    (g.K.Sink.written c.args.out.now) (g.K.Sink.written c.write_end.new.out) c.in-Err.ensures.part

pub returns-clause-part : goal.returns-clause-part
returns-clause-part g c =
    let show = (g.P.Program.rules c.args.program.now).show in
    let first = end_line c.args.end.now.settled c.args.end.now.iterations in
    let second : List VState → List ℕ = λ states. stats_text c.args.stats ++ values_or_sum c.args.quiet show states in
    let new = g.K.Sink.written c.write_behind_end.new.out in
    let Part : Option (List ℕ) → Type 0 = λ told. GrewByFirst (second c.as_slice.result.now) told new in
    let Of : List VState → Type 0 = λ states. GrewByFirst (second states) (grown (g.K.Sink.written c.args.out.now) first) new in
    on_err_weaker c.write_behind_end.result
    (λ part. grew_on first (second c.args.end.now.states) (g.K.Sink.written c.args.out.now) new (subst Of c.as_slice.ensures (subst Part c.in_default.ensures.whole part)))
    c.write_behind_end.ensures.part
