use Rattle.std.proofs.Common.{◌≡◌, ℕ, Some, true, IfSome, OnOk, List, subst, sym, rules, arith}
use Rattle.std.proofs.lemmas.Option.{IfSome_then}
use Rattle.fg_base.specs.contracts.count.CountTally.TheImpl.{runs-value, entries-value}
use Rattle.fg_engine.specs.Told.{HasCountedReads, ReadsAsked, WhereNoneFailed}
use Rattle.fg_engine.specs.Tallies.{RoseByRun, RoseWithin, tally_between, tallied}
use Rattle.fg_model.specs.Engine.{IsWhole}
use Rattle.fg_model.specs.Program.{Rules}
use Rattle.fg_model.specs.Run.{Run, begun_of, run}
use Rattle.fg_build.specs.Opening.{graph_on}
use Rattle.fg_outside.specs.Drives.{all_told}
use Rattle.fg_report.specs.ReportWatch.{iteration_text}
use Rattle.fg_top.specs.Calls.{output_over}
use Rattle.fg_top.specs.Ends.{Ends}
use Rattle.fg_top.specs.Outcome.{rules_of}
use Rattle.fg_top.specs.Running.{RunComesTo}
use Rattle.fg_top.specs.Stats.{CountsRun, CountsTally, LeavesStats}
use Rattle.fg_top.specs.Statuses.{CameToEnd}
use Rattle.fg_top.proofs.RunEnds.{closed_not_held, closed_whole, ends_of_run, run_is_ok}
use Rattle.fg_top.proofs.StatsLemmas.{Ran, leaves_counted, ok_counts, ran_settled}
use Rattle.fg_top.proofs.TallyLemmas.{went_by}
use Rattle.fg_top.proofs.run.report_counted.Goals as goal

-- a fact of the rules and of the most iterations, by other names of both
asked : (Of : Rules → ℕ → Type 0) (P Q : Rules) (most max : ℕ) → P ≡ Q → most ≡ max → Of P most → Of Q max
asked Of P Q most max same limit known = subst (Of Q) limit (subst (λ (rules : Rules). Of rules most) same known)

pub returns : goal.returns
returns g c =
    let ran = c.run_program-back in
    let stats = c.new-stats.result in
    let settled = c.settle-settled in
    let closed = c.close_run-status in
    let wish = c.args.wish in
    let olds = c.args.drives.items in
    let news = ran.result.drives.items in
    let told = all_told g.D.Drive.held olds in
    let P = g.P.Program.rules c.args.program.now in
    let most = c.options-options.result.max in
    let f0 = g.K.Sink.faults c.args.out.now in
    let t0 = g.K.Sink.written c.args.out.now in
    let watched = ran.new.watch.out.now in
    let f1 = g.K.Sink.faults watched in
    let t1 = g.K.Sink.written watched in
    let last = closed.new.out in
    let before = c.new-count.result in
    let after = ran.new.tally in
    let count = tallied (runs-value.it before) (runs-value.it after) (entries-value.it before) (entries-value.it after) in
    let tally = tally_between g.T.Tally c.args.tally.now settled.new.tally in
    let own : CountsTally stats count = record {
      runs = omega (arith, c.new-count.ensures.runs, c.new-stats.ensures.runs);
      entries = omega (arith, c.new-count.ensures.entries, c.new-stats.ensures.entries);
    } in
    let leaves = LeavesStats g.D.Drive.held olds news true (CountsRun stats g.D.Drive.log olds news tally) in
    let run_by : Rules → ℕ → List (List ℕ) → Run = λ rules max helds. run rules (graph_on c.args.opened helds) max in
    let Counted : ℕ → ℕ → Type 0 = λ reads pages. HasCountedReads g.D.Drive.log reads pages olds news in
    let counted : OnOk ran.result.answer (Counted stats.reads stats.pages) =
    ok_counts ran.result.answer (Counted stats.reads stats.pages)
    (subst (λ (reads : ℕ). WhereNoneFailed ran.result.answer (Counted reads stats.pages)) (sym c.new-stats.ensures.reads)
    (subst (λ (pages : ℕ). WhereNoneFailed ran.result.answer (Counted ran.result.reads pages)) (sym c.new-stats.ensures.pages) ran.ensures.counts)) in
    let known : Ran g.D.Drive.faults g.D.Drive.log olds news told (run_by P most) (iteration_text wish.each P.show) f0 f1 t0 t1 stats tally settled.result =
    ran_settled g.D.Drive.faults g.D.Drive.log olds news told (run_by P most) (iteration_text wish.each P.show) f0 f1 t0 t1 stats count tally ran.result.answer settled.result own settled.ensures
    (record {
      end = ran.ensures.answer;
      whose = ran.ensures.faults;
      shown = ran.ensures.shown;
      went = ran.ensures.tally;
      rose = ran.ensures.ok_tally;
      reads = counted;
    }) in
    let Reads : Rules → ℕ → Type 0 = λ rules max. IfSome told (λ helds. ReadsAsked g.D.Drive.log rules c.args.opened (run_by rules max helds) olds news) in
    let At : g.row.K.Denot → Rules → ℕ → Type 0 = λ sink rules max. Ends g.D.Drive.faults olds news (RunComesTo rules wish (Some stats) told (run_by rules max)) leaves
    (output_over f0 (g.K.Sink.faults sink) t0 (g.K.Sink.written sink) (g.K.Sink.keeps_back sink)) closed.result in
    let Rose : Rules → ℕ → Type 0 = λ rules max. IfSome told (λ helds. RoseByRun (run_by rules max helds) tally) in
    let Went : Rules → ℕ → Type 0 = λ rules max. IfSome told (λ helds. RoseWithin (CameToEnd closed.result) (begun_of (run_by rules max helds)) tally) in
    let ends : At last P most = ends_of_run g.D.Drive.faults olds news P wish (Some stats) told (run_by P most) leaves settled.result f0 f1 (g.K.Sink.faults last) t0 t1
    (g.K.Sink.written last) (g.K.Sink.keeps_back last) closed.result (λ refusal. (ran.ensures.held, tt))
    (leaves_counted g.D.Drive.held g.D.Drive.log olds news stats ran.result.answer settled.result tally ran.ensures.held settled.ensures known.reads)
    ran.ensures.grew known.end known.whose known.shown closed.ensures in
    record {
      held = ran.ensures.held;
      sure = ran.ensures.sure;
      reads = asked Reads _ _ _ _ c.requires.picked c.options-options.ensures.max ran.ensures.reads;
      stats = stats;
      ends = subst (λ (sink : g.row.K.Denot). At sink (rules_of wish.pick) wish.max) (search rules) (asked (At last) _ _ _ _ c.requires.picked c.options-options.ensures.max ends);
      tally = λ done. asked Rose _ _ _ _ c.requires.picked c.options-options.ensures.max
          (run_is_ok (Some stats) wish.quiet _ _ _ _ _ _ settled.result closed.result _ closed.ensures done known.rose);
      tally_went = asked Went _ _ _ _ c.requires.picked c.options-options.ensures.max
          (IfSome_then told known.went
          (λ helds went. went_by (IsWhole settled.result) (CameToEnd closed.result) (begun_of (run_by P most helds)) tally
          (closed_whole (Some stats) wish.quiet _ _ _ _ _ _ settled.result closed.result closed.ensures) went));
      began = closed_not_held (Some stats) wish.quiet _ _ _ _ _ _ settled.result closed.result closed.ensures;
    }
