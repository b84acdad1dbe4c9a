-- Room is made, then the jobs are run: the book has those left that wait elsewhere.
use Rattle.std.proofs.Common.{List, subst, sym, ap}
use Rattle.fg_task.specs.Book.{jobs_of}
use Rattle.fg_task.specs.declared.job.Job.{Job}
use Rattle.fg_worker.specs.Visiting.{WentOn, moment_of}
use Rattle.fg_worker.proofs.PageLaws.{went_on-page}
use Rattle.fg_worker.proofs.WentLaws.{went_on-room}
use Rattle.fg_worker.proofs.visiting.run_page.Goals as goal

pub returns-in_err-make_room-clause-went : goal.returns-in_err-make_room-clause-went
returns-in_err-make_room-clause-went g c = λ site own.
    went_on-room site (g.F.SegmentRun.work c.args.run.now.book.function) (moment_of g.T.Tally.entries c.args.run.now c.args.hand.now)
    c.make_room.new.outbox c.make_room.ensures.sent

pub returns-clause-went : goal.returns-clause-went
returns-clause-went g c = λ site own.
    let work = g.F.SegmentRun.work c.args.run.now.book.function in
    subst (λ (jobs : List Job). WentOn site work (moment_of g.T.Tally.entries c.args.run.now c.args.hand.now)
    (record { jobs = jobs; least = c.lesser-run.result; outbox = c.run_on-bad.new.outbox; entries = g.T.Tally.entries c.run_on-bad.new.tally }))
    (sym (ap jobs_of c.run_on-bad.ensures.left))
    (went_on-page site work c.args.page c.args.bytes.now own c.args.run.now.book.outs c.args.run.now.book.ins
    c.args.run.now.least c.run_on-bad.result c.lesser-run.result c.args.hand.now.outbox c.make_room.new.outbox c.run_on-bad.new.outbox
    (g.T.Tally.entries c.args.hand.now.tally) (g.T.Tally.entries c.run_on-bad.new.tally)
    c.make_room.ensures.sent c.run_on-bad.ensures.sent c.run_on-bad.ensures.entries c.run_on-bad.ensures.bad c.lesser-run.ensures)
