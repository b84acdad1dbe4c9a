-- Where the page was there its jobs were run; else the pass came back, and nothing changed.
use Rattle.std.proofs.Common.{refl, subst, sym}
use Rattle.fg_task.specs.Book.{jobs_of}
use Rattle.fg_worker.specs.declared.hand.Hand.{Hand}
use Rattle.fg_worker.specs.declared.visiting.Seen.TheVariants as seen
use Rattle.fg_worker.specs.Visiting.{WentOn, moment_of}
use Rattle.fg_worker.proofs.CoverLaws.{covers-ran, covers-stays}
use Rattle.fg_worker.proofs.WentLaws.{went_on-none}
use Rattle.fg_worker.proofs.visiting.visit_page.Goals as goal

pub returns-in_ok-ran-in-Hit-clause-covers : goal.returns-in_ok-ran-in-Hit-clause-covers
returns-in_ok-ran-in-Hit-clause-covers g c = λ rest.
    covers-ran c.args.page rest (jobs_of c.args.run.now.book) (jobs_of c.run_page-ran.new.run.book) c.in_ok-ran-in-Hit.ensures.left

pub returns-in-Queued-clause-went : goal.returns-in-Queued-clause-went
returns-in-Queued-clause-went g c =
    let work = g.F.SegmentRun.work c.args.run.now.book.function in
    let now = moment_of g.T.Tally.entries c.args.run.now c.args.hand.now in
    subst (λ (hand : Hand g.row.T.Denot). WentOn c.args.cache.now.site work now (moment_of g.T.Tally.entries c.args.run.now hand)) (sym c.take_back.ensures.hand)
    (went_on-none c.args.cache.now.site work now)

pub returns-in-Queued-clause-covers : goal.returns-in-Queued-clause-covers
returns-in-Queued-clause-covers g c = covers-stays c.args.page seen.Waits c.take_back.result (jobs_of c.args.run.now.book) c.take_back.ensures.seen refl

pub returns-in-Loading-clause-went : goal.returns-in-Loading-clause-went
returns-in-Loading-clause-went g c =
    let work = g.F.SegmentRun.work c.args.run.now.book.function in
    let now = moment_of g.T.Tally.entries c.args.run.now c.args.hand.now in
    subst (λ (hand : Hand g.row.T.Denot). WentOn c.args.cache.now.site work now (moment_of g.T.Tally.entries c.args.run.now hand)) (sym c.take_back-in-Loading.ensures.hand)
    (went_on-none c.args.cache.now.site work now)

pub returns-in-Loading-clause-covers : goal.returns-in-Loading-clause-covers
returns-in-Loading-clause-covers g c = covers-stays c.args.page seen.Waits c.take_back-in-Loading.result (jobs_of c.args.run.now.book) c.take_back-in-Loading.ensures.seen refl

pub returns-in-Stale-clause-went : goal.returns-in-Stale-clause-went
returns-in-Stale-clause-went g c =
    let work = g.F.SegmentRun.work c.args.run.now.book.function in
    let now = moment_of g.T.Tally.entries c.args.run.now c.args.hand.now in
    subst (λ (hand : Hand g.row.T.Denot). WentOn c.args.cache.now.site work now (moment_of g.T.Tally.entries c.args.run.now hand)) (sym c.take_back-in-Stale.ensures.hand)
    (went_on-none c.args.cache.now.site work now)

pub returns-in-Stale-clause-covers : goal.returns-in-Stale-clause-covers
returns-in-Stale-clause-covers g c = covers-stays c.args.page seen.Waits c.take_back-in-Stale.result (jobs_of c.args.run.now.book) c.take_back-in-Stale.ensures.seen refl

pub returns-in-Again-clause-went : goal.returns-in-Again-clause-went
returns-in-Again-clause-went g c =
    let work = g.F.SegmentRun.work c.args.run.now.book.function in
    let now = moment_of g.T.Tally.entries c.args.run.now c.args.hand.now in
    subst (λ (hand : Hand g.row.T.Denot). WentOn c.args.cache.now.site work now (moment_of g.T.Tally.entries c.args.run.now hand)) (sym c.take_back-in-Again.ensures.hand)
    (went_on-none c.args.cache.now.site work now)

pub returns-in-Again-clause-covers : goal.returns-in-Again-clause-covers
returns-in-Again-clause-covers g c = covers-stays c.args.page seen.Held c.take_back-in-Again.result (jobs_of c.args.run.now.book) c.take_back-in-Again.ensures.seen refl

pub returns-in-Full-clause-went : goal.returns-in-Full-clause-went
returns-in-Full-clause-went g c =
    let work = g.F.SegmentRun.work c.args.run.now.book.function in
    let now = moment_of g.T.Tally.entries c.args.run.now c.args.hand.now in
    subst (λ (hand : Hand g.row.T.Denot). WentOn c.args.cache.now.site work now (moment_of g.T.Tally.entries c.args.run.now hand)) (sym c.take_back-in-Full.ensures.hand)
    (went_on-none c.args.cache.now.site work now)

pub returns-in-Full-clause-covers : goal.returns-in-Full-clause-covers
returns-in-Full-clause-covers g c = covers-stays c.args.page seen.Held c.take_back-in-Full.result (jobs_of c.args.run.now.book) c.take_back-in-Full.ensures.seen refl
