-- Each turn takes the last page of the list, and keeps it where its jobs wait on.
use Rattle.std.proofs.Common.{◌≡◌, ◌++◌, ◌∷◌, [], Option, append-nil, refl, subst, ◌∙◌}
use Rattle.std.specs.Option.{option_to_list}
use Rattle.std.specs.List.{Contains}
use Rattle.std.proofs.lemmas.List.Elements.{All-append}
use Rattle.fg_cache.specs.Site.{asked_pages}
use Rattle.fg_task.specs.Book.{jobs_of}
use Rattle.fg_worker.specs.Hand.{hits_of}
use Rattle.fg_worker.specs.Visiting.{left_of, moment_of}
use Rattle.fg_worker.proofs.CoverLaws.{gone_over-none}
use Rattle.fg_worker.proofs.RoundLaws.{asked-parts, asked-popped, covers-same, gone_over-visit, kept-held, kept-ran, kept-waits, may_go_on-next, went_on-next}
use Rattle.fg_worker.proofs.rounds.want_first.Goals as goal
use Rattle.fg_worker.proofs.rounds.want_first.Goals.{in-Ran, in-Waits+in_ok-push-in-Waits}

pub loop-init : goal.loop-init
loop-init g c =
    let site = c.args.cache.now.site in
    let pages = c.args.pages.now.items in
    let kept = c.args.kept.now.items in
    record {
      pass = c.requires.pass;
      function = refl;
      runs = refl;
      gone = gone_over-none site (g.F.SegmentRun.work c.args.run.now.book.function) (moment_of g.T.Tally.entries c.args.run.now c.args.hand.now) (pages ++ kept)
          (hits_of c.args.hand.now.pass) (All-append (Contains (asked_pages site)) pages kept c.requires.asked.0 c.requires.asked.1);
    }

pub returns-in_default-clause-asked : goal.returns-in_default-clause-asked
returns-in_default-clause-asked g c =
    let all : c.loop.pages.items ≡ c.pop.new.self.items =
    subst (λ (last : Option _). c.loop.pages.items ≡ c.pop.new.self.items ++ option_to_list last) c.in_default.is c.pop.ensures.items ∙ append-nil c.pop.new.self.items in
    asked-parts c.args.cache.now.site c.loop.pages.items c.pop.new.self.items c.loop.kept.items all c.loop.invariant.gone.asked

pub returns-in_default-clause-covers : goal.returns-in_default-clause-covers
returns-in_default-clause-covers g c = λ covers.
    let all : c.loop.pages.items ≡ c.pop.new.self.items =
    subst (λ (last : Option _). c.loop.pages.items ≡ c.pop.new.self.items ++ option_to_list last) c.in_default.is c.pop.ensures.items ∙ append-nil c.pop.new.self.items in
    covers-same c.loop.pages.items c.pop.new.self.items c.loop.kept.items (jobs_of c.loop.run.book) all (c.loop.invariant.gone.covers covers)

pub visit_page-requires-clause-asked : goal.visit_page-requires-clause-asked
visit_page-requires-clause-asked g c =
    asked-popped c.args.cache.now.site c.loop.pages.items c.pop.new.self.items c.loop.kept.items c.in-Some.page c.in-Some.ensures.items c.loop.invariant.gone.asked

pub visit_page-requires-clause-may : goal.visit_page-requires-clause-may
visit_page-requires-clause-may g c =
    let first = moment_of g.T.Tally.entries c.args.run.now c.args.hand.now in
    let now = moment_of g.T.Tally.entries c.loop.run c.loop.hand in
    may_go_on-next g.F.SegmentRun.work c.args.cache.now.site c.args.run.now.book.function c.loop.run.book.function c.loop.invariant.function first now c.requires.may c.loop.invariant.gone.went

pub returns-in_err-visit_page-clause-went : goal.returns-in_err-visit_page-clause-went
returns-in_err-visit_page-clause-went g c =
    let first = moment_of g.T.Tally.entries c.args.run.now c.args.hand.now in
    let now = moment_of g.T.Tally.entries c.loop.run c.loop.hand in
    let then = moment_of g.T.Tally.entries c.visit_page.new.run c.visit_page.new.hand in
    went_on-next g.F.SegmentRun.work c.args.cache.now.site c.args.run.now.book.function c.loop.run.book.function c.loop.invariant.function first now then
    c.loop.invariant.gone.went c.visit_page.ensures.went

pub returns-in_err-push-in-Waits-clause-went : goal.returns-in_err-push-in-Waits-clause-went
returns-in_err-push-in-Waits-clause-went g c =
    let first = moment_of g.T.Tally.entries c.args.run.now c.args.hand.now in
    let now = moment_of g.T.Tally.entries c.loop.run c.loop.hand in
    let then = moment_of g.T.Tally.entries c.visit_page.new.run c.visit_page.new.hand in
    went_on-next g.F.SegmentRun.work c.args.cache.now.site c.args.run.now.book.function c.loop.run.book.function c.loop.invariant.function first now then
    c.loop.invariant.gone.went c.visit_page.ensures.went

pub returns-in_err-push-in-Held-clause-went : goal.returns-in_err-push-in-Held-clause-went
returns-in_err-push-in-Held-clause-went g c =
    let first = moment_of g.T.Tally.entries c.args.run.now c.args.hand.now in
    let now = moment_of g.T.Tally.entries c.loop.run c.loop.hand in
    let then = moment_of g.T.Tally.entries c.visit_page.new.run c.visit_page.new.hand in
    went_on-next g.F.SegmentRun.work c.args.cache.now.site c.args.run.now.book.function c.loop.run.book.function c.loop.invariant.function first now then
    c.loop.invariant.gone.went c.visit_page.ensures.went

pub returns-in-Held-clause-went : goal.returns-in-Held-clause-went
returns-in-Held-clause-went g c =
    let first = moment_of g.T.Tally.entries c.args.run.now c.args.hand.now in
    let now = moment_of g.T.Tally.entries c.loop.run c.loop.hand in
    let then = moment_of g.T.Tally.entries c.visit_page.new.run c.visit_page.new.hand in
    went_on-next g.F.SegmentRun.work c.args.cache.now.site c.args.run.now.book.function c.loop.run.book.function c.loop.invariant.function first now then
    c.loop.invariant.gone.went c.visit_page.ensures.went

pub returns-in-Held-clause-asked : goal.returns-in-Held-clause-asked
returns-in-Held-clause-asked g c =
    let first = moment_of g.T.Tally.entries c.args.run.now c.args.hand.now in
    let now = moment_of g.T.Tally.entries c.loop.run c.loop.hand in
    let then = moment_of g.T.Tally.entries c.visit_page.new.run c.visit_page.new.hand in
    let gone =
    gone_over-visit g.F.SegmentRun.work c.args.cache.now.site c.args.run.now.book.function c.loop.run.book.function c.loop.invariant.function first now then
    (c.args.pages.now.items ++ c.args.kept.now.items) c.loop.pages.items c.pop.new.self.items c.loop.kept.items c.push-in-Held.new.self.items c.in-Some.page
    c.in_ok-visit_page.field-0 (hits_of c.args.hand.now.pass) (hits_of c.loop.hand.pass) (hits_of c.visit_page.new.hand.pass) c.in-Some.ensures.items
    (kept-held c.in-Some.page c.in_ok-visit_page.field-0 c.loop.kept.items c.push-in-Held.new.self.items c.in-Held.is c.in_ok-push-in-Held.ensures.items)
    c.loop.invariant.gone c.visit_page.ensures.went c.in_ok-visit_page.ensures.covers c.in_ok-visit_page.ensures.hits in
    asked-parts c.args.cache.now.site c.pop.new.self.items c.pop.new.self.items c.push-in-Held.new.self.items refl gone.asked

pub returns-in-Held-clause-covers : goal.returns-in-Held-clause-covers
returns-in-Held-clause-covers g c =
    let first = moment_of g.T.Tally.entries c.args.run.now c.args.hand.now in
    let now = moment_of g.T.Tally.entries c.loop.run c.loop.hand in
    let then = moment_of g.T.Tally.entries c.visit_page.new.run c.visit_page.new.hand in
    let gone =
    gone_over-visit g.F.SegmentRun.work c.args.cache.now.site c.args.run.now.book.function c.loop.run.book.function c.loop.invariant.function first now then
    (c.args.pages.now.items ++ c.args.kept.now.items) c.loop.pages.items c.pop.new.self.items c.loop.kept.items c.push-in-Held.new.self.items c.in-Some.page
    c.in_ok-visit_page.field-0 (hits_of c.args.hand.now.pass) (hits_of c.loop.hand.pass) (hits_of c.visit_page.new.hand.pass) c.in-Some.ensures.items
    (kept-held c.in-Some.page c.in_ok-visit_page.field-0 c.loop.kept.items c.push-in-Held.new.self.items c.in-Held.is c.in_ok-push-in-Held.ensures.items)
    c.loop.invariant.gone c.visit_page.ensures.went c.in_ok-visit_page.ensures.covers c.in_ok-visit_page.ensures.hits in
    gone.covers

pub loop-preserved : goal.loop-preserved
loop-preserved g c =
    let first = moment_of g.T.Tally.entries c.args.run.now c.args.hand.now in
    let now = moment_of g.T.Tally.entries c.loop.run c.loop.hand in
    let then = moment_of g.T.Tally.entries c.visit_page.new.run c.visit_page.new.hand in
    let keeps : c.match-branch-2.kept.items ≡ c.loop.kept.items ++ left_of c.in-Some.page c.in_ok-visit_page.field-0 =
    elim c.match-branch-2.branch [
      | in-Ran w ↦
          let same : c.match-branch-2.kept.items ≡ c.loop.kept.items = cc in
          kept-ran c.in-Some.page c.in_ok-visit_page.field-0 c.loop.kept.items c.match-branch-2.kept.items w.in-Ran.is same
      | in-Waits+in_ok-push-in-Waits w ↦
          let pushed : w.push.new.self.items ≡ c.loop.kept.items ++ c.in-Some.page ∷ [] = w.in_ok-push-in-Waits.ensures.items in
          let same : c.match-branch-2.kept.items ≡ c.loop.kept.items ++ c.in-Some.page ∷ [] = cc in
          kept-waits c.in-Some.page c.in_ok-visit_page.field-0 c.loop.kept.items c.match-branch-2.kept.items w.in-Waits.is same
    ] in
    record {
      pass = c.visit_page.ensures.pass;
      function = c.visit_page.ensures.function ∙ c.loop.invariant.function;
      runs = c.visit_page.ensures.runs ∙ c.loop.invariant.runs;
      gone =
          gone_over-visit g.F.SegmentRun.work c.args.cache.now.site c.args.run.now.book.function c.loop.run.book.function c.loop.invariant.function first now then
          (c.args.pages.now.items ++ c.args.kept.now.items) c.loop.pages.items c.pop.new.self.items c.loop.kept.items c.match-branch-2.kept.items c.in-Some.page
          c.in_ok-visit_page.field-0 (hits_of c.args.hand.now.pass) (hits_of c.loop.hand.pass) (hits_of c.visit_page.new.hand.pass) c.in-Some.ensures.items keeps
          c.loop.invariant.gone c.visit_page.ensures.went c.in_ok-visit_page.ensures.covers c.in_ok-visit_page.ensures.hits;
    }

pub returns-clause-asked : goal.returns-clause-asked
returns-clause-asked g c = asked-parts c.args.cache.now.site c.loop.pages.items c.loop.pages.items c.loop.kept.items refl c.loop.invariant.gone.asked
