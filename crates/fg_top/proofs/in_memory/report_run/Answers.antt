use Rattle.std.proofs.Common.{ℕ, None, Some, [], subst, rules}
use Rattle.fg_model.specs.Program.{Rules}
use Rattle.fg_model.specs.Run.{run}
use Rattle.fg_top.specs.Calls.{output_over}
use Rattle.fg_top.specs.Ends.{EndsAlone}
use Rattle.fg_top.specs.Outcome.{rules_of}
use Rattle.fg_top.specs.Running.{RunComesTo}
use Rattle.fg_top.proofs.RunEnds.{closed_not_held, ends_of_run, plain_counts}
use Rattle.fg_top.proofs.StatsLemmas.{where_ok}
use Rattle.fg_top.proofs.in_memory.report_run.Goals as goal

pub returns-clause-began : goal.returns-clause-began
returns-clause-began g c = closed_not_held None c.args.wish.quiet _ _ _ _ _ _ c.plain_run-answer.result c.close_run.result c.close_run.ensures

pub returns-clause-ends : goal.returns-clause-ends
returns-clause-ends g c =
    let ran = c.plain_run-answer in
    let wish = c.args.wish in
    let graph = c.args.graph.now in
    let P = g.P.Program.rules c.args.program.now in
    let f0 = g.K.Sink.faults c.args.out.now in
    let t0 = g.K.Sink.written c.args.out.now in
    let f1 = g.K.Sink.faults ran.new.watch.out.now in
    let t1 = g.K.Sink.written ran.new.watch.out.now in
    let last = c.close_run.new.out in
    let At : g.row.K.Denot → Rules → Type 0 = λ sink rules. EndsAlone
    (RunComesTo rules wish None (Some graph) (λ graph. run rules graph wish.max))
    (output_over f0 (g.K.Sink.faults sink) t0 (g.K.Sink.written sink) (g.K.Sink.keeps_back sink)) c.close_run.result in
    let ends : At last P = ends_of_run {D = ℕ} (λ drive. drive) [] [] P wish None (Some graph) (λ graph. run P graph wish.max)
    (λ end. Unit {0}) ran.result f0 f1 (g.K.Sink.faults last) t0 t1 (g.K.Sink.written last) (g.K.Sink.keeps_back last) c.close_run.result
    (λ refusal. tt) (where_ok ran.result (Unit {0}) tt) ran.ensures.grew ran.ensures.answer (plain_counts ran.result f0 f1 ran.ensures.faults) ran.ensures.shown c.close_run.ensures in
    subst (λ (sink : g.row.K.Denot). At sink (rules_of wish.pick)) (search rules) (subst (At last) c.requires.picked ends)
