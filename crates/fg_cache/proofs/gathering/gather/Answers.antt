use Rattle.std.proofs.Common.{◌≡◌, ◌∙◌, Some, [], ap, length, refl, arith}
use Rattle.std.proofs.lemmas.List.Elements.{All-pop}
use Rattle.fg_books.specs.Shares.{BooksId, parts_of}
use Rattle.std.proofs.lemmas.List.{length_push}
use Rattle.fg_cache.proofs.GatherLemmas.{next, start, all_gathered, no_items}
use Rattle.fg_cache.proofs.JoinLemmas.{length-popped}
use Rattle.fg_cache.proofs.gathering.gather.Goals as goal

pub loop-lock-init : goal.loop-lock-init
loop-lock-init g c = record {
  so_far = rw c.requires.drives.0 (start _ c.args.ledgers.now c.args.share c.args.shares.now c.args.shelves.items c.requires.own.0);
  own = c.requires.own.1;
  shares = refl;
  room = omega (arith, c.requires.drives.1, ap length c.requires.drives.0);
}

pub loop-lock-preserved : goal.loop-lock-preserved
loop-lock-preserved g c =
    let so_far = c.loop-lock.invariant in
    let items = c.in-Some.ensures.items in
    let long = length-popped c.loop-lock.shelves.items c.pop.new.self.items c.in-Some.lock items in
    let more = ap length c.with_shelf-all.ensures.drives ∙ length_push c.loop-lock.all.drives.items c.all_risen.new.shelf.drive in
    let fit = c.into_inner-shelf.ensures in
    let tell = c.with_shelf-all.ensures in
    record {
      so_far = rw (tell.drives, tell.share, tell.failed, tell.reads, tell.pages, c.all_risen.ensures.same.0)
          (next g.D.Drive.held g.D.Drive.log g.D.Drive.told g.D.Drive.room g.D.Drive.faults c.args.ledgers.now c.args.share c.args.shares.now c.args.shelves.items
          c.loop-lock.shelves.items c.pop.new.self.items c.in-Some.lock c.into_inner-shelf.result c.loop-lock.all.drives.items c.loop-lock.all.share
          c.loop-lock.all.failed c.loop-lock.all.reads c.loop-lock.all.pages so_far.so_far items fit (rw (← so_far.shares) c.all_risen.ensures.named));
      own = (All-pop (λ lock. lock.site.books ≡ c.args.ledgers.now) _ _ (Some c.in-Some.lock) items so_far.own).0;
      shares = c.all_risen.ensures.same.1 ∙ so_far.shares;
      room = omega (arith, so_far.room, long, tell.capacity, more);
    }

pub all_risen-requires-clause-own : goal.all_risen-requires-clause-own
all_risen-requires-clause-own g c =
    let so_far = c.loop-lock.invariant in
    let own = All-pop (λ lock. lock.site.books ≡ c.args.ledgers.now) _ _ (Some c.in-Some.lock) c.in-Some.ensures.items so_far.own in
    (c.into_inner-shelf.ensures.fault_books ∙ own.1, rw so_far.shares c.requires.shares)

pub all_risen-requires-clause-parts : goal.all_risen-requires-clause-parts
all_risen-requires-clause-parts g c =
    let own = All-pop (λ lock. lock.site.books ≡ c.args.ledgers.now) _ _ (Some c.in-Some.lock) c.in-Some.ensures.items c.loop-lock.invariant.own in
    let fit = c.into_inner-shelf.ensures in
    ap (parts_of c.into_inner-shelf.result.faults) fit.number ∙ fit.fault_parts ∙ ap (λ (b : BooksId). b.plan.parts) own.1

pub with_shelf-all-requires-clause-own : goal.with_shelf-all-requires-clause-own
with_shelf-all-requires-clause-own g c =
    let so_far = c.loop-lock.invariant in
    let own = All-pop (λ lock. lock.site.books ≡ c.args.ledgers.now) _ _ (Some c.in-Some.lock) c.in-Some.ensures.items so_far.own in
    (so_far.so_far.from_them.own, rw c.all_risen.ensures.same.0 (c.into_inner-shelf.ensures.books ∙ own.1))

pub returns : goal.returns
returns g c =
    let so_far = c.loop-lock.invariant.so_far in
    let none : c.loop-lock.shelves.items ≡ [] = no_items _ (let e : length c.loop-lock.shelves.items ≡ 0 = omega (arith, c.in_default.ensures) in e) in
    record { gathers = all_gathered _ _ _ _ _ _ c.loop-lock.all so_far none }
