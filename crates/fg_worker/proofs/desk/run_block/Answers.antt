-- The block's vertices begin, its pages are visited, and what was sent is the result.
use Rattle.std.proofs.Common.{◌∙◌, None, ap, arith, refl, subst, sym}
use Rattle.fg_task.specs.declared.along.Along.{Along}
use Rattle.fg_task.specs.Book.{jobs_of}
use Rattle.fg_task.specs.Jobs.{Work, work_of}
use Rattle.fg_worker.specs.Desk.{Setting, setting_of, work_in}
use Rattle.fg_worker.specs.Hand.{counted_by}
use Rattle.fg_worker.specs.Visiting.{MayGoOn, Moment, WentOn, moment_of}
use Rattle.fg_worker.proofs.DeskLaws.{may-run, spent-exactly, spent-few, work-same}
use Rattle.fg_worker.proofs.ResultLaws.{block-result, pages-asked, sent-counted}
use Rattle.fg_worker.proofs.desk.run_block.Goals as goal

pub begin_block-requires-clause-empty : goal.begin_block-requires-clause-empty
begin_block-requires-clause-empty g c =
    ap jobs_of c.new-book.ensures

pub begin_block-requires-clause-work : goal.begin_block-requires-clause-work
begin_block-requires-clause-work g c =
    let S : Setting = setting_of g.P.Program.rules c.args.desk.now in
    ap (λ (along : Along _). work_of (g.P.Program.rules along.program.now) along.n along.weighted) (ap (λ book. book.function) c.new-book.ensures)
    ∙ work-same S c.weighted.result c.weighted.ensures

pub begin_block-requires-clause-room : goal.begin_block-requires-clause-room
begin_block-requires-clause-room g c =
    c.requires.room.for_runs

pub visit_all-requires-clause-asked : goal.visit_all-requires-clause-asked
visit_all-requires-clause-asked g c =
    let S : Setting = setting_of g.P.Program.rules c.args.desk.now in
    pages-asked S c.requires.desk c.args.block (jobs_of c.begin_block.new.book) c.in_ok-active.ensures.begun

pub visit_all-requires-clause-may : goal.visit_all-requires-clause-may
visit_all-requires-clause-may g c =
    let S : Setting = setting_of g.P.Program.rules c.args.desk.now in
    let old : Moment = record {
      jobs = jobs_of c.begin_block.new.book;
      least = None;
      outbox = c.args.hand.now.outbox;
      entries = g.T.Tally.entries c.begin_block.new.tally;
    } in
    let same = ap (λ (along : Along _). work_of (g.P.Program.rules along.program.now) along.n along.weighted)
    (c.begin_block.ensures.function ∙ ap (λ book. book.function) c.new-book.ensures) ∙ work-same S c.weighted.result c.weighted.ensures in
    let entries = c.begin_block.ensures.entries in
    let room = c.requires.room.for_entries in
    subst (λ (work : Work). MayGoOn work old) (sym same)
    (may-run S c.args.block old c.in_ok-active.ensures.begun c.requires.hand.same_map (omega (arith, entries, room)))

pub returns-in_err-active-clause-few : goal.returns-in_err-active-clause-few
returns-in_err-active-clause-few g c =
    let entries = c.begin_block.ensures.entries in
    record { few_runs = c.begin_block.ensures.few; few_entries = omega (arith, entries) }

pub returns-in-Err-clause-map : goal.returns-in-Err-clause-map
returns-in-Err-clause-map g c =
    let S : Setting = setting_of g.P.Program.rules c.args.desk.now in
    let old : Moment = record {
      jobs = jobs_of c.begin_block.new.book;
      least = None;
      outbox = c.args.hand.now.outbox;
      entries = g.T.Tally.entries c.begin_block.new.tally;
    } in
    let new : Moment = moment_of g.T.Tally.entries c.visit_all.new.run c.visit_all.new.hand in
    let same = ap (λ (along : Along _). work_of (g.P.Program.rules along.program.now) along.n along.weighted)
    (c.begin_block.ensures.function ∙ ap (λ book. book.function) c.new-book.ensures) ∙ work-same S c.weighted.result c.weighted.ensures in
    let went : WentOn S.site (work_in S) old new =
    subst (λ (work : Work). WentOn S.site work old new) same c.visit_all.ensures.went in
    went.sent.same_map ∙ c.requires.hand.same_map

pub returns-in-Err-clause-few : goal.returns-in-Err-clause-few
returns-in-Err-clause-few g c =
    let S : Setting = setting_of g.P.Program.rules c.args.desk.now in
    let old : Moment = record {
      jobs = jobs_of c.begin_block.new.book;
      least = None;
      outbox = c.args.hand.now.outbox;
      entries = g.T.Tally.entries c.begin_block.new.tally;
    } in
    let new : Moment = moment_of g.T.Tally.entries c.visit_all.new.run c.visit_all.new.hand in
    let same = ap (λ (along : Along _). work_of (g.P.Program.rules along.program.now) along.n along.weighted)
    (c.begin_block.ensures.function ∙ ap (λ book. book.function) c.new-book.ensures) ∙ work-same S c.weighted.result c.weighted.ensures in
    let went : WentOn S.site (work_in S) old new =
    subst (λ (work : Work). WentOn S.site work old new) same c.visit_all.ensures.went in
    let runs = c.visit_all.ensures.runs in
    let begun = c.begin_block.ensures.few in
    spent-few S c.requires.desk c.args.block old new c.in_ok-active.ensures.begun refl c.requires.hand.unsent c.requires.hand.same_map went
    (counted_by g.T.Tally.runs g.T.Tally.entries c.args.hand.now) _ (omega (arith, runs, begun)) c.begin_block.ensures.entries refl

pub returns-in_err-result-clause-map : goal.returns-in_err-result-clause-map
returns-in_err-result-clause-map g c =
    let S : Setting = setting_of g.P.Program.rules c.args.desk.now in
    let old : Moment = record {
      jobs = jobs_of c.begin_block.new.book;
      least = None;
      outbox = c.args.hand.now.outbox;
      entries = g.T.Tally.entries c.begin_block.new.tally;
    } in
    let new : Moment = moment_of g.T.Tally.entries c.visit_all.new.run c.visit_all.new.hand in
    let same = ap (λ (along : Along _). work_of (g.P.Program.rules along.program.now) along.n along.weighted)
    (c.begin_block.ensures.function ∙ ap (λ book. book.function) c.new-book.ensures) ∙ work-same S c.weighted.result c.weighted.ensures in
    let went : WentOn S.site (work_in S) old new =
    subst (λ (work : Work). WentOn S.site work old new) same c.visit_all.ensures.went in
    c.result_of.ensures.map ∙ went.sent.same_map ∙ c.requires.hand.same_map

pub returns-in_err-result-clause-few : goal.returns-in_err-result-clause-few
returns-in_err-result-clause-few g c =
    let S : Setting = setting_of g.P.Program.rules c.args.desk.now in
    let old : Moment = record {
      jobs = jobs_of c.begin_block.new.book;
      least = None;
      outbox = c.args.hand.now.outbox;
      entries = g.T.Tally.entries c.begin_block.new.tally;
    } in
    let new : Moment = moment_of g.T.Tally.entries c.visit_all.new.run c.visit_all.new.hand in
    let same = ap (λ (along : Along _). work_of (g.P.Program.rules along.program.now) along.n along.weighted)
    (c.begin_block.ensures.function ∙ ap (λ book. book.function) c.new-book.ensures) ∙ work-same S c.weighted.result c.weighted.ensures in
    let went : WentOn S.site (work_in S) old new =
    subst (λ (work : Work). WentOn S.site work old new) same c.visit_all.ensures.went in
    let runs = c.visit_all.ensures.runs in
    let begun = c.begin_block.ensures.few in
    spent-few S c.requires.desk c.args.block old new c.in_ok-active.ensures.begun refl c.requires.hand.unsent c.requires.hand.same_map went
    (counted_by g.T.Tally.runs g.T.Tally.entries c.args.hand.now) _ (omega (arith, runs, begun)) c.begin_block.ensures.entries refl

pub returns-clause-result : goal.returns-clause-result
returns-clause-result g c =
    let S : Setting = setting_of g.P.Program.rules c.args.desk.now in
    let old : Moment = record {
      jobs = jobs_of c.begin_block.new.book;
      least = None;
      outbox = c.args.hand.now.outbox;
      entries = g.T.Tally.entries c.begin_block.new.tally;
    } in
    let new : Moment = moment_of g.T.Tally.entries c.visit_all.new.run c.visit_all.new.hand in
    let same = ap (λ (along : Along _). work_of (g.P.Program.rules along.program.now) along.n along.weighted)
    (c.begin_block.ensures.function ∙ ap (λ book. book.function) c.new-book.ensures) ∙ work-same S c.weighted.result c.weighted.ensures in
    let went : WentOn S.site (work_in S) old new =
    subst (λ (work : Work). WentOn S.site work old new) same c.visit_all.ensures.went in
    block-result S c.requires.desk c.args.block old new c.in_ok-active.ensures.begun refl c.requires.hand.unsent c.requires.hand.same_map went
    c.in-Ok.ensures.done c.in_ok-active.active c.in_ok-result.result c.in_ok-active.ensures.active c.in_ok-result.ensures.own c.in_ok-result.ensures.batches
    c.in_ok-result.ensures.sent c.in_ok-result.ensures.fits

pub returns-clause-exact : goal.returns-clause-exact
returns-clause-exact g c =
    let S : Setting = setting_of g.P.Program.rules c.args.desk.now in
    let old : Moment = record {
      jobs = jobs_of c.begin_block.new.book;
      least = None;
      outbox = c.args.hand.now.outbox;
      entries = g.T.Tally.entries c.begin_block.new.tally;
    } in
    let new : Moment = moment_of g.T.Tally.entries c.visit_all.new.run c.visit_all.new.hand in
    let same = ap (λ (along : Along _). work_of (g.P.Program.rules along.program.now) along.n along.weighted)
    (c.begin_block.ensures.function ∙ ap (λ book. book.function) c.new-book.ensures) ∙ work-same S c.weighted.result c.weighted.ensures in
    let went : WentOn S.site (work_in S) old new =
    subst (λ (work : Work). WentOn S.site work old new) same c.visit_all.ensures.went in
    let sent = sent-counted S c.requires.desk c.args.block old new c.in_ok-active.ensures.begun refl c.requires.hand.unsent c.requires.hand.same_map went
    c.in-Ok.ensures.done c.in_ok-active.active c.in_ok-result.result c.in_ok-active.ensures.active c.in_ok-result.ensures.own c.in_ok-result.ensures.batches
    c.in_ok-result.ensures.sent c.in_ok-result.ensures.fits in
    let runs = c.visit_all.ensures.runs in
    let begun = c.in_ok-active.ensures.runs in
    let active = c.in_ok-active.ensures.active in
    let own = c.in_ok-result.ensures.own.1 in
    let counted = went.counted in
    let entries = c.begin_block.ensures.entries in
    let visits = c.in-Ok.ensures.visits in
    spent-exactly S c.requires.desk c.args.block (jobs_of c.begin_block.new.book) visits.pages
    (counted_by g.T.Tally.runs g.T.Tally.entries c.args.hand.now) _ c.in_ok-result.result c.in_ok-active.ensures.begun visits.are_pages
    c.in_ok-result.ensures.own.0 (omega (arith, runs, begun, active, own)) (omega (arith, counted, entries, sent)) visits.each

pub returns-clause-map : goal.returns-clause-map
returns-clause-map g c =
    let S : Setting = setting_of g.P.Program.rules c.args.desk.now in
    let old : Moment = record {
      jobs = jobs_of c.begin_block.new.book;
      least = None;
      outbox = c.args.hand.now.outbox;
      entries = g.T.Tally.entries c.begin_block.new.tally;
    } in
    let new : Moment = moment_of g.T.Tally.entries c.visit_all.new.run c.visit_all.new.hand in
    let same = ap (λ (along : Along _). work_of (g.P.Program.rules along.program.now) along.n along.weighted)
    (c.begin_block.ensures.function ∙ ap (λ book. book.function) c.new-book.ensures) ∙ work-same S c.weighted.result c.weighted.ensures in
    let went : WentOn S.site (work_in S) old new =
    subst (λ (work : Work). WentOn S.site work old new) same c.visit_all.ensures.went in
    c.result_of.ensures.map ∙ went.sent.same_map ∙ c.requires.hand.same_map

pub returns-clause-few : goal.returns-clause-few
returns-clause-few g c =
    let S : Setting = setting_of g.P.Program.rules c.args.desk.now in
    let old : Moment = record {
      jobs = jobs_of c.begin_block.new.book;
      least = None;
      outbox = c.args.hand.now.outbox;
      entries = g.T.Tally.entries c.begin_block.new.tally;
    } in
    let new : Moment = moment_of g.T.Tally.entries c.visit_all.new.run c.visit_all.new.hand in
    let same = ap (λ (along : Along _). work_of (g.P.Program.rules along.program.now) along.n along.weighted)
    (c.begin_block.ensures.function ∙ ap (λ book. book.function) c.new-book.ensures) ∙ work-same S c.weighted.result c.weighted.ensures in
    let went : WentOn S.site (work_in S) old new =
    subst (λ (work : Work). WentOn S.site work old new) same c.visit_all.ensures.went in
    let runs = c.visit_all.ensures.runs in
    let begun = c.begin_block.ensures.few in
    spent-few S c.requires.desk c.args.block old new c.in_ok-active.ensures.begun refl c.requires.hand.unsent c.requires.hand.same_map went
    (counted_by g.T.Tally.runs g.T.Tally.entries c.args.hand.now) _ (omega (arith, runs, begun)) c.begin_block.ensures.entries refl
