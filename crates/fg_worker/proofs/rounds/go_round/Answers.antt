-- The first pages are wanted, and what was kept of them comes back to the list.
use Rattle.std.proofs.Common.{[]}
use Rattle.std.specs.List.{Contains}
use Rattle.std.proofs.lemmas.List.Elements.{All-nil, All-same}
use Rattle.fg_cache.specs.Site.{asked_pages}
use Rattle.fg_task.specs.Book.{jobs_of}
use Rattle.fg_worker.specs.Hand.{hits_of}
use Rattle.fg_worker.proofs.RoundLaws.{round-asked, round-covers, round-hits}
use Rattle.fg_worker.proofs.rounds.go_round.Goals as goal

pub want_first-requires-clause-asked : goal.want_first-requires-clause-asked
want_first-requires-clause-asked g c = (
  c.requires.asked,
  All-same (Contains (asked_pages c.args.cache.now.site)) c.args.kept.now.items [] c.requires.none (All-nil (Contains (asked_pages c.args.cache.now.site))),
)

pub returns-clause-asked : goal.returns-clause-asked
returns-clause-asked g c =
    round-asked c.args.pages.now.items c.args.kept.now.items c.want_first.new.pages.items c.want_first.new.kept.items c.reverse.new.self.items c.append.new.self.items
    c.requires.none c.reverse.ensures.permutation c.in_ok-append.ensures.items c.args.cache.now.site c.in_ok-held.ensures.asked

pub returns-clause-none : goal.returns-clause-none
returns-clause-none g c = c.in_ok-append.ensures.other_items

pub returns-clause-covers : goal.returns-clause-covers
returns-clause-covers g c =
    round-covers c.args.pages.now.items c.args.kept.now.items c.want_first.new.pages.items c.want_first.new.kept.items c.reverse.new.self.items c.append.new.self.items
    c.requires.none c.reverse.ensures.permutation c.in_ok-append.ensures.items (jobs_of c.args.run.now.book) (jobs_of c.want_first.new.run.book) c.in_ok-held.ensures.covers

pub returns-clause-hits : goal.returns-clause-hits
returns-clause-hits g c =
    round-hits c.args.pages.now.items c.args.kept.now.items c.want_first.new.pages.items c.want_first.new.kept.items c.reverse.new.self.items c.append.new.self.items
    c.requires.none c.reverse.ensures.permutation c.in_ok-append.ensures.items (hits_of c.args.hand.now.pass) (hits_of c.want_first.new.hand.pass) c.in_ok-held.ensures.hits
