use Rattle.std.proofs.Common.{◌∙◌, ℕ, ◌≤◌, ◌^◌, Option, Result, OnOk, List, length, ap, subst, sym, arith}
use Rattle.std.specs.Prelude.{IfOk}
use Rattle.fg_cache.specs.Closing.{LeastRisen, LogsTell}
use Rattle.fg_cache.specs.declared.shape.Shape.{Shape}
use Rattle.fg_cache.specs.Opening.{AreStocked}
use Rattle.fg_model.specs.declared.run.End.{End}
use Rattle.fg_model.specs.declared.run.RunFault.{RunFault}
use Rattle.fg_model.specs.Engine.{IsWhole, ShownAs, TellsEnd, begun_in}
use Rattle.fg_model.specs.Run.{Run, begun_of, run}
use Rattle.fg_build.specs.ToldImage.{graph_over}
use Rattle.fg_outside.specs.Drives.{all_told}
use Rattle.fg_worker.specs.Desk.{image_of}
use Rattle.fg_engine.specs.Tallies.{RoseByRun, RoseWithin, tally_between}
use Rattle.fg_engine.specs.Told.{HasCountedReads, OfRun, TellsWhose, WhereNoneFailed, visits_of}
use Rattle.fg_engine.proofs.AskedLaws.{of-known, reads-asked}
use Rattle.fg_engine.proofs.EndLaws.{end-settled, few-states, none-settled, ok-settled, shown-settled, then-settled, whole-settled, whose-settled}
use Rattle.fg_engine.proofs.NamedLaws.{allowed, visits-same}
use Rattle.fg_engine.proofs.ReadLaws.{counted}
use Rattle.fg_engine.proofs.StockLaws.{cache-of, passes-of, stocked}
use Rattle.fg_engine.proofs.UnbegunLaws.{unbegun-counts, unbegun-faults, unbegun-held, unbegun-reads, unbegun-shown, unbegun-sure, unbegun-tally}
use Rattle.fg_engine.proofs.running.run_program.Goals as goal

-- ---- want of memory before the run began

pub returns-in_default-clause-held : goal.returns-in_default-clause-held
returns-in_default-clause-held g c = unbegun-held _ _ (ap (λ all. all.items) c.unbegun.ensures.drives) g.D.Drive.held

pub returns-in_default-clause-sure : goal.returns-in_default-clause-sure
returns-in_default-clause-sure g c = unbegun-sure _ _ (ap (λ all. all.items) c.unbegun.ensures.drives) g.D.Drive.room g.D.Drive.faults

pub returns-in_default-clause-reads : goal.returns-in_default-clause-reads
returns-in_default-clause-reads g c = unbegun-reads _ _ (ap (λ all. all.items) c.unbegun.ensures.drives) g.D.Drive.log _ _ c.args.opened _

pub returns-in_default-clause-counts : goal.returns-in_default-clause-counts
returns-in_default-clause-counts g c =
    unbegun-counts _ _ (ap (λ all. all.items) c.unbegun.ensures.drives) _ c.unbegun.ensures.answer g.D.Drive.log _ _ c.unbegun.ensures.none.0 c.unbegun.ensures.none.1

pub returns-in_default-clause-faults : goal.returns-in_default-clause-faults
returns-in_default-clause-faults g c = unbegun-faults _ _ (ap (λ all. all.items) c.unbegun.ensures.drives) _ c.unbegun.ensures.answer g.D.Drive.faults _

pub returns-in_default-clause-shown : goal.returns-in_default-clause-shown
returns-in_default-clause-shown g c = unbegun-shown _ c.unbegun.ensures.answer _ _ c.args.opened _ _ _

pub returns-in_default-clause-tally : goal.returns-in_default-clause-tally
returns-in_default-clause-tally g c = unbegun-tally _ c.unbegun.ensures.answer _ _ c.args.opened _ _ _

pub returns-in-Err-clause-held : goal.returns-in-Err-clause-held
returns-in-Err-clause-held g c = unbegun-held _ _ (ap (λ all. all.items) c.unbegun-in-Err.ensures.drives ∙ c.in-Err.ensures.back) g.D.Drive.held

pub returns-in-Err-clause-sure : goal.returns-in-Err-clause-sure
returns-in-Err-clause-sure g c =
    unbegun-sure _ _ (ap (λ all. all.items) c.unbegun-in-Err.ensures.drives ∙ c.in-Err.ensures.back) g.D.Drive.room g.D.Drive.faults

pub returns-in-Err-clause-reads : goal.returns-in-Err-clause-reads
returns-in-Err-clause-reads g c =
    unbegun-reads _ _ (ap (λ all. all.items) c.unbegun-in-Err.ensures.drives ∙ c.in-Err.ensures.back) g.D.Drive.log _ _ c.args.opened _

pub returns-in-Err-clause-counts : goal.returns-in-Err-clause-counts
returns-in-Err-clause-counts g c =
    unbegun-counts _ _ (ap (λ all. all.items) c.unbegun-in-Err.ensures.drives ∙ c.in-Err.ensures.back) _ c.unbegun-in-Err.ensures.answer g.D.Drive.log _ _
    c.unbegun-in-Err.ensures.none.0 c.unbegun-in-Err.ensures.none.1

pub returns-in-Err-clause-faults : goal.returns-in-Err-clause-faults
returns-in-Err-clause-faults g c =
    unbegun-faults _ _ (ap (λ all. all.items) c.unbegun-in-Err.ensures.drives ∙ c.in-Err.ensures.back) _ c.unbegun-in-Err.ensures.answer g.D.Drive.faults _

pub returns-in-Err-clause-shown : goal.returns-in-Err-clause-shown
returns-in-Err-clause-shown g c = unbegun-shown _ c.unbegun-in-Err.ensures.answer _ _ c.args.opened _ _ _

pub returns-in-Err-clause-tally : goal.returns-in-Err-clause-tally
returns-in-Err-clause-tally g c = unbegun-tally _ c.unbegun-in-Err.ensures.answer _ _ c.args.opened _ _ _

-- ---- what the calls ask for

pub open-requires-clause-stocked : goal.open-requires-clause-stocked
open-requires-clause-stocked g c =
    let drive = (g.met.D.Drive g.world.𝓛 g.world.𝓜 g.world.𝓡 ((λ s x. x), (λ x. x), (λ x. x), λ x. x)) in
    subst (λ (pages : Option (List (List ℕ))). AreStocked g.D.Drive.held g.D.Drive.told pages c.args.opened.layout c.args.drives.items)
    (sym c.cache_name-name.ensures.image)
    (stocked g.D.Drive.held g.D.Drive.told drive.held_bytes drive.told_held c.args.opened c.requires.fits c.args.drives.items c.requires.told)

pub run_cached-answer-requires-clause-cache : goal.run_cached-answer-requires-clause-cache
run_cached-answer-requires-clause-cache g c κs within =
    let drive = (g.met.D.Drive g.world.𝓛 g.world.𝓜 g.world.𝓡 ((λ s x. x), (λ x. x), (λ x. x), λ x. x)) in
    cache-of g.D.Drive.held g.D.Drive.told drive.held_bytes drive.told_held c.args.opened c.requires.fits c.args.drives.items c.requires.told
    c.in-Ok-open.both.0.site c.in-Ok-open.ensures.layout.0 (c.in-Ok-open.ensures.name.0 ∙ c.cache_name-name.ensures.image)

pub run_cached-answer-requires-clause-allowed : goal.run_cached-answer-requires-clause-allowed
run_cached-answer-requires-clause-allowed g c κs within =
    allowed c.args.opened c.requires.fits (g.P.Program.rules c.args.program.now) c.args.options.max c.in-Ok-open.both.0.site c.in-Ok-open.ensures.layout.0
    (all_told g.D.Drive.held c.args.drives.items) (c.in-Ok-open.ensures.name.0 ∙ c.cache_name-name.ensures.image)
    (c.in-Ok-open.ensures.name.1 ∙ c.cache_name-name.ensures.asked)

pub run_cached-answer-requires-clause-passes : goal.run_cached-answer-requires-clause-passes
run_cached-answer-requires-clause-passes g c κs within = (
  c.in-Ok-open.ensures.count ∙ ap (λ (shape : Shape). shape.passes) c.shape.ensures ∙ sym c.new-map.ensures.2,
  passes-of c.in-Ok-open.both.0.site c.in-Ok-open.both.1.items
      (c.in-Ok-open.ensures.count ∙ sym (ap (λ (shape : Shape). shape.passes) c.in-Ok-open.ensures.layout.1)) c.in-Ok-open.ensures.passes,
)

pub close-drives-requires-clause-passes : goal.close-drives-requires-clause-passes
close-drives-requires-clause-passes g c = (
  c.run_cached-answer.ensures.passes.0 ∙ c.new-map.ensures.2 ∙ sym (ap (λ (shape : Shape). shape.passes) c.shape.ensures)
      ∙ sym (ap (λ (shape : Shape). shape.passes) c.in-Ok-open.ensures.layout.1),
  λ k d below. (c.run_cached-answer.ensures.passes.1 k d below).own,
)

-- ---- the drives

pub returns-clause-reads : goal.returns-clause-reads
returns-clause-reads g c =
    let site = c.in-Ok-open.both.0.site in
    let closed = c.close-drives.result in
    let tells = subst (λ (olds : List g.row.D.Denot). LogsTell g.D.Drive.log site closed.failed closed.reads closed.pages olds closed.drives.items)
    c.in-Ok-open.ensures.drives c.close-drives.ensures.logs in
    reads-asked c.args.opened (g.P.Program.rules c.args.program.now) c.args.options.max g.D.Drive.log c.requires.fits site c.in-Ok-open.ensures.layout.0
    closed.failed closed.reads closed.pages c.args.drives.items closed.drives.items c.requires.told.0 tells
    (all_told g.D.Drive.held c.args.drives.items) (c.in-Ok-open.ensures.name.1 ∙ c.cache_name-name.ensures.asked)

pub returns-clause-counts : goal.returns-clause-counts
returns-clause-counts g c =
    let site = c.in-Ok-open.both.0.site in
    let closed = c.close-drives.result in
    let fact = HasCountedReads g.D.Drive.log closed.reads closed.pages c.args.drives.items closed.drives.items in
    let tells = subst (λ (olds : List g.row.D.Denot). LogsTell g.D.Drive.log site closed.failed closed.reads closed.pages olds closed.drives.items)
    c.in-Ok-open.ensures.drives c.close-drives.ensures.logs in
    subst (λ (answer : Result End RunFault). WhereNoneFailed answer fact) (sym c.settle.ensures)
    (none-settled fact c.run_cached-answer.result.answer closed.failed
    (counted g.D.Drive.log site closed.failed closed.reads closed.pages c.args.drives.items closed.drives.items tells))

pub returns-clause-faults : goal.returns-clause-faults
returns-clause-faults g c =
    let least = subst (λ (olds : List g.row.D.Denot). LeastRisen g.D.Drive.faults c.close-drives.result.failed olds c.close-drives.result.drives.items)
    c.in-Ok-open.ensures.drives c.close-drives.ensures.failed in
    subst (λ (answer : Result End RunFault). TellsWhose g.D.Drive.faults answer c.args.drives.items c.close-drives.result.drives.items
    (g.W.Watch.faults c.args.watch.now) (g.W.Watch.faults c.run_cached-answer.new.watch)) (sym c.settle.ensures)
    (whose-settled g.D.Drive.faults c.args.drives.items c.close-drives.result.drives.items _ _ c.run_cached-answer.result.answer c.close-drives.result.failed
    least c.run_cached-answer.ensures.faults)

-- ---- the run

pub returns-clause-answer : goal.returns-clause-answer
returns-clause-answer g c =
    of-known c.args.opened (g.P.Program.rules c.args.program.now) c.args.options.max (all_told g.D.Drive.held c.args.drives.items) c.in-Ok-open.both.0.site.image
    (c.in-Ok-open.ensures.name.0 ∙ c.cache_name-name.ensures.image) (TellsEnd c.settle.result)
    (λ told.
    let of = run (g.P.Program.rules c.args.program.now) (graph_over c.args.opened (image_of c.in-Ok-open.both.0.site.image)) c.args.options.max in
    subst (λ (answer : Result End RunFault). TellsEnd answer of) (sym c.settle.ensures)
    (end-settled of c.run_cached-answer.result.answer c.close-drives.result.failed (c.run_cached-answer.ensures.answer told)))

pub returns-clause-shown : goal.returns-clause-shown
returns-clause-shown g c =
    let shows = g.W.Watch.told c.args.watch.now in
    let old = g.W.Watch.notes c.args.watch.now in
    let new = g.W.Watch.notes c.run_cached-answer.new.watch in
    of-known c.args.opened (g.P.Program.rules c.args.program.now) c.args.options.max (all_told g.D.Drive.held c.args.drives.items) c.in-Ok-open.both.0.site.image
    (c.in-Ok-open.ensures.name.0 ∙ c.cache_name-name.ensures.image) (λ (run : Run). ShownAs c.settle.result shows run.finished old new)
    (λ told.
    let of = run (g.P.Program.rules c.args.program.now) (graph_over c.args.opened (image_of c.in-Ok-open.both.0.site.image)) c.args.options.max in
    subst (λ (answer : Result End RunFault). ShownAs answer shows of.finished old new) (sym c.settle.ensures)
    (shown-settled shows of.finished old new c.run_cached-answer.result.answer c.close-drives.result.failed (c.run_cached-answer.ensures.shown told)))

pub returns-clause-tally : goal.returns-clause-tally
returns-clause-tally g c =
    let went = c.run_cached-answer.ensures.went in
    let tally = tally_between g.T.Tally c.args.tally.now c.run_cached-answer.new.tally in
    of-known c.args.opened (g.P.Program.rules c.args.program.now) c.args.options.max (all_told g.D.Drive.held c.args.drives.items) c.in-Ok-open.both.0.site.image
    (c.in-Ok-open.ensures.name.0 ∙ c.cache_name-name.ensures.image) (λ (run : Run). RoseWithin (IsWhole c.settle.result) (begun_of run) tally)
    (λ told. record {
      begun = went.begun;
      are_first = went.are_first told;
      are_all = λ whole.
          went.are_all told (whole-settled c.run_cached-answer.result.answer c.close-drives.result.failed (subst (λ (answer : Result End RunFault). IsWhole answer) c.settle.ensures whole));
      rose = record { runs = went.was_counted.runs_rose; entries = went.was_counted.entries_rose };
    })

-- ---- a run with an end

pub returns-clause-few : goal.returns-clause-few
returns-clause-few g c =
    let Q : End → Type 0 = λ end. length end.states ≤ 2 ^ 24 in
    subst (λ (answer : Result End RunFault). IfOk answer Q) (sym c.settle.ensures)
    (ok-settled Q c.run_cached-answer.result.answer c.close-drives.result.failed
    (few-states c.args.opened (image_of c.in-Ok-open.both.0.site.image) c.run_cached-answer.result.answer c.requires.fits.index.few_vertices c.run_cached-answer.ensures.ok_states))

pub returns-clause-ok_tally : goal.returns-clause-ok_tally
returns-clause-ok_tally g c =
    let P = g.P.Program.rules c.args.program.now in
    let all = all_told g.D.Drive.held c.args.drives.items in
    let fact : Run → Type 0 = λ run. RoseByRun run (tally_between g.T.Tally c.args.tally.now c.run_cached-answer.new.tally) in
    subst (λ (answer : Result End RunFault). OnOk answer (OfRun all P c.args.opened c.args.options.max fact)) (sym c.settle.ensures)
    (then-settled _ (OfRun all P c.args.opened c.args.options.max fact) c.run_cached-answer.result.answer c.close-drives.result.failed
    (λ known. of-known c.args.opened P c.args.options.max all c.in-Ok-open.both.0.site.image
    (c.in-Ok-open.ensures.name.0 ∙ c.cache_name-name.ensures.image) fact
    (λ told. record { runs = (known told).runs_rose; entries = (known told).entries_rose })) c.run_cached-answer.ensures.ok_tally)

pub returns-clause-usage : goal.returns-clause-usage
returns-clause-usage g c =
    let P = g.P.Program.rules c.args.program.now in
    let all = all_told g.D.Drive.held c.args.drives.items in
    let fact : Run → Type 0 = λ run. visits_of c.args.opened c.args.options P run ≤ c.close-drives.result.usage.hits in
    subst (λ (answer : Result End RunFault). OnOk answer (OfRun all P c.args.opened c.args.options.max fact)) (sym c.settle.ensures)
    (then-settled _ (OfRun all P c.args.opened c.args.options.max fact) c.run_cached-answer.result.answer c.close-drives.result.failed
    (λ known. of-known c.args.opened P c.args.options.max all c.in-Ok-open.both.0.site.image
    (c.in-Ok-open.ensures.name.0 ∙ c.cache_name-name.ensures.image) fact
    (λ told.
    let begun = begun_in P (graph_over c.args.opened (image_of c.in-Ok-open.both.0.site.image)) c.args.options.max in
    let same = visits-same c.args.opened P c.in-Ok-open.both.0.site c.new-map.result c.args.options.shift begun (c.new-map.ensures.0 ∙ c.n.ensures.outs) c.new-map.ensures.1 in
    omega (arith, known told, c.close-drives.ensures.hits, same))) c.run_cached-answer.ensures.ok_hits)
