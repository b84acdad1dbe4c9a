-- Round by round what is left of the list stands for the jobs that are left, until nothing is.
use Rattle.std.proofs.Common.{◌≡◌, ◌-◌, Option, length, refl, subst, ◌∙◌}
use Rattle.std.specs.Prelude.{slice_get}
use Rattle.std.specs.List.{Contains}
use Rattle.std.specs.Option.{option_copied}
use Rattle.std.proofs.lemmas.List.Elements.{All-contains}
use Rattle.fg_cache.specs.Site.{asked_pages}
use Rattle.fg_task.specs.Book.{jobs_of}
use Rattle.fg_worker.specs.Hand.{hits_of}
use Rattle.fg_worker.specs.Visiting.{moment_of}
use Rattle.fg_worker.proofs.CoverLaws.{covers-none, gone_over-none}
use Rattle.fg_worker.proofs.LastLaws.{contains-last, each-found, none-last}
use Rattle.fg_worker.proofs.RoundLaws.{gone_over-round, may_go_on-next, pages-asked, pages-cover, went_on-next}
use Rattle.fg_worker.proofs.WentLaws.{went_on-none}
use Rattle.fg_worker.proofs.rounds.visit_all.Goals as goal

pub returns-in_err-pages-clause-went : goal.returns-in_err-pages-clause-went
returns-in_err-pages-clause-went g c =
    went_on-none c.args.cache.now.site (g.F.SegmentRun.work c.args.run.now.book.function) (moment_of g.T.Tally.entries c.args.run.now c.args.hand.now)

pub loop-init : goal.loop-init
loop-init g c =
    let site = c.args.cache.now.site in
    let asked = pages-asked (jobs_of c.args.run.now.book) c.in_ok-pages.pages.items c.reverse.new.self.items c.in_ok-pages.ensures c.reverse.ensures.permutation site
    c.requires.asked in
    record {
      goes_on = (tt, tt);
      pass = c.requires.pass;
      function = refl;
      runs = refl;
      none = c.new-kept.ensures.items;
      gone = gone_over-none site (g.F.SegmentRun.work c.args.run.now.book.function) (moment_of g.T.Tally.entries c.args.run.now c.args.hand.now)
          c.reverse.new.self.items (hits_of c.args.hand.now.pass) asked;
    }

pub go_round-requires-clause-asked : goal.go_round-requires-clause-asked
go_round-requires-clause-asked g c = c.loop.invariant.gone.asked

pub go_round-requires-clause-may : goal.go_round-requires-clause-may
go_round-requires-clause-may g c =
    let first = moment_of g.T.Tally.entries c.args.run.now c.args.hand.now in
    let now = moment_of g.T.Tally.entries c.loop.run c.loop.hand in
    may_go_on-next g.F.SegmentRun.work c.args.cache.now.site c.args.run.now.book.function c.loop.run.book.function c.loop.invariant.function first now c.requires.may c.loop.invariant.gone.went

pub returns-in_err-held-clause-went : goal.returns-in_err-held-clause-went
returns-in_err-held-clause-went g c =
    let first = moment_of g.T.Tally.entries c.args.run.now c.args.hand.now in
    let now = moment_of g.T.Tally.entries c.loop.run c.loop.hand in
    let then = moment_of g.T.Tally.entries c.go_round.new.run c.go_round.new.hand in
    went_on-next g.F.SegmentRun.work c.args.cache.now.site c.args.run.now.book.function c.loop.run.book.function c.loop.invariant.function first now then
    c.loop.invariant.gone.went c.go_round.ensures.went

pub returns-in_default-clause-went : goal.returns-in_default-clause-went
returns-in_default-clause-went g c =
    let first = moment_of g.T.Tally.entries c.args.run.now c.args.hand.now in
    let now = moment_of g.T.Tally.entries c.loop.run c.loop.hand in
    let then = moment_of g.T.Tally.entries c.go_round.new.run c.go_round.new.hand in
    went_on-next g.F.SegmentRun.work c.args.cache.now.site c.args.run.now.book.function c.loop.run.book.function c.loop.invariant.function first now then
    c.loop.invariant.gone.went c.go_round.ensures.went

pub returns-in-Err-clause-went : goal.returns-in-Err-clause-went
returns-in-Err-clause-went g c =
    let first = moment_of g.T.Tally.entries c.args.run.now c.args.hand.now in
    let now = moment_of g.T.Tally.entries c.loop.run c.loop.hand in
    let then = moment_of g.T.Tally.entries c.go_round.new.run c.go_round.new.hand in
    went_on-next g.F.SegmentRun.work c.args.cache.now.site c.args.run.now.book.function c.loop.run.book.function c.loop.invariant.function first now then
    c.loop.invariant.gone.went c.go_round.ensures.went

pub returns-in_default-clause-done : goal.returns-in_default-clause-done
returns-in_default-clause-done g c =
    let first = moment_of g.T.Tally.entries c.args.run.now c.args.hand.now in
    let now = moment_of g.T.Tally.entries c.loop.run c.loop.hand in
    let then = moment_of g.T.Tally.entries c.go_round.new.run c.go_round.new.hand in
    let gone =
    gone_over-round g.F.SegmentRun.work c.args.cache.now.site c.args.run.now.book.function c.loop.run.book.function c.loop.invariant.function first now then
    c.reverse.new.self.items c.loop.pages.items c.go_round.new.pages.items (hits_of c.args.hand.now.pass) (hits_of c.loop.hand.pass) (hits_of c.go_round.new.hand.pass)
    c.loop.invariant.gone c.go_round.ensures.went c.in_ok-held.ensures.asked c.in_ok-held.ensures.covers c.in_ok-held.ensures.hits in
    let none = none-last c.deref.result.now c.go_round.new.pages.items c.deref.ensures.value
    (subst (λ (last : Option _). option_copied last ≡ slice_get c.deref.result.now (length c.deref.result.now - 1)) c.in_default.is c.last.ensures.value) in
    covers-none c.go_round.new.pages.items (jobs_of c.go_round.new.run.book) none
    (gone.covers (pages-cover (jobs_of c.args.run.now.book) c.in_ok-pages.pages.items c.reverse.new.self.items c.in_ok-pages.ensures c.reverse.ensures.permutation))

pub returns-in_default-clause-visits : goal.returns-in_default-clause-visits
returns-in_default-clause-visits g c =
    let first = moment_of g.T.Tally.entries c.args.run.now c.args.hand.now in
    let now = moment_of g.T.Tally.entries c.loop.run c.loop.hand in
    let then = moment_of g.T.Tally.entries c.go_round.new.run c.go_round.new.hand in
    let gone =
    gone_over-round g.F.SegmentRun.work c.args.cache.now.site c.args.run.now.book.function c.loop.run.book.function c.loop.invariant.function first now then
    c.reverse.new.self.items c.loop.pages.items c.go_round.new.pages.items (hits_of c.args.hand.now.pass) (hits_of c.loop.hand.pass) (hits_of c.go_round.new.hand.pass)
    c.loop.invariant.gone c.go_round.ensures.went c.in_ok-held.ensures.asked c.in_ok-held.ensures.covers c.in_ok-held.ensures.hits in
    let none = none-last c.deref.result.now c.go_round.new.pages.items c.deref.ensures.value
    (subst (λ (last : Option _). option_copied last ≡ slice_get c.deref.result.now (length c.deref.result.now - 1)) c.in_default.is c.last.ensures.value) in
    record {
      pages = c.in_ok-pages.pages.items;
      are_pages = c.in_ok-pages.ensures;
      each = each-found c.in_ok-pages.pages.items c.reverse.new.self.items c.go_round.new.pages.items (hits_of c.args.hand.now.pass) (hits_of c.go_round.new.hand.pass)
          c.reverse.ensures.permutation none gone.hits;
    }

pub serve_for-requires-clause-asked : goal.serve_for-requires-clause-asked
serve_for-requires-clause-asked g c =
    All-contains (Contains (asked_pages c.args.cache.now.site)) c.go_round.new.pages.items c.in-Some-last.first.now c.in_ok-held.ensures.asked
    (contains-last c.deref.result.now c.go_round.new.pages.items c.in-Some-last.first.now c.deref.ensures.value c.in-Some-last.ensures.value)

pub loop-preserved : goal.loop-preserved
loop-preserved g c =
    let first = moment_of g.T.Tally.entries c.args.run.now c.args.hand.now in
    let now = moment_of g.T.Tally.entries c.loop.run c.loop.hand in
    let then = moment_of g.T.Tally.entries c.go_round.new.run c.go_round.new.hand in
    record {
      goes_on = (tt, tt);
      pass = c.go_round.ensures.pass;
      function = c.go_round.ensures.function ∙ c.loop.invariant.function;
      runs = c.go_round.ensures.runs ∙ c.loop.invariant.runs;
      none = c.in_ok-held.ensures.none;
      gone =
          gone_over-round g.F.SegmentRun.work c.args.cache.now.site c.args.run.now.book.function c.loop.run.book.function c.loop.invariant.function first now then
          c.reverse.new.self.items c.loop.pages.items c.go_round.new.pages.items (hits_of c.args.hand.now.pass) (hits_of c.loop.hand.pass) (hits_of c.go_round.new.hand.pass)
          c.loop.invariant.gone c.go_round.ensures.went c.in_ok-held.ensures.asked c.in_ok-held.ensures.covers c.in_ok-held.ensures.hits;
    }
