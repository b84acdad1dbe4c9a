use Rattle.std.proofs.Common.{◌≡◌, ◌∙◌, Some, ap, arith}
use Rattle.std.proofs.lemmas.Int.{ints}
use Rattle.std.proofs.lemmas.List.Elements.{All-pop}
use Rattle.fg_cache.specs.Names.{LockOf}
use Rattle.fg_cache.specs.Share.{Four}
use Rattle.fg_cache.proofs.JoinLemmas.{length-popped}
use Rattle.fg_cache.proofs.joining.join_queues.Goals as goal

pub loop-lock-preserved : goal.loop-lock-preserved
loop-lock-preserved g c =
    let so_far = c.loop-lock.invariant in
    let items = c.in-Some.ensures.items in
    let own = All-pop (λ (lock : LockOf). lock.site.books ≡ c.args.ledgers.now) _ _ (Some c.in-Some.lock) items so_far.own in
    let long = length-popped c.loop-lock.queues.items c.pop.new.self.items c.in-Some.lock items in
    let one = c.into_inner-share.ensures in
    let now = c.join-all.ensures in
    let parts = ap (λ (f : Four). f.parts) now in
    let pushes = ap (λ (f : Four). f.pushes) now in
    let takes = ap (λ (f : Four). f.takes) now in
    let entries = ap (λ (f : Four). f.entries) now in
    let repairs = ap (λ (f : Four). f.repairs) now in
    record {
      books = ap (λ (f : Four). f.books) now ∙ so_far.books;
      parts = omega (arith, parts, so_far.parts, long, one.parts);
      waits = omega (arith, ints, pushes, takes, so_far.waits, one.waits);
      begun = omega (arith, ints, pushes, entries, so_far.begun, one.entries);
      repairs = omega (arith, ints, repairs, so_far.repairs, one.repairs);
      own = own.0;
    }
