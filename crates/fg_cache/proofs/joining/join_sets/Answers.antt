use Rattle.std.proofs.Common.{◌≡◌, ◌∙◌, ◌≤◌, Some, ap, arith}
use Rattle.std.proofs.lemmas.Int.{ints}
use Rattle.std.proofs.lemmas.List.Elements.{All-pop}
use Rattle.fg_cache.specs.Joining.{owned}
use Rattle.fg_cache.specs.Names.{LockOf}
use Rattle.fg_cache.specs.SetDesk.{used_of}
use Rattle.fg_cache.specs.Share.{Four}
use Rattle.fg_cache.specs.Site.{own_pages}
use Rattle.fg_cache.proofs.JoinLemmas.{length-popped, sum-popped}
use Rattle.fg_cache.proofs.OwnedLemmas.{used_few}
use Rattle.fg_cache.proofs.joining.join_sets.Goals as goal

pub loop-lock-preserved : goal.loop-lock-preserved
loop-lock-preserved g c =
    let so_far = c.loop-lock.invariant in
    let items = c.in-Some.ensures.items in
    let own = All-pop (λ (lock : LockOf). lock.site.books ≡ c.args.ledgers.now) _ _ (Some c.in-Some.lock) items so_far.own in
    let long = length-popped c.loop-lock.sets.items c.pop.new.self.items c.in-Some.lock items in
    let sum = sum-popped owned c.loop-lock.sets.items c.pop.new.self.items c.in-Some.lock items in
    let one = c.into_inner-share.ensures in
    let now = c.join-all.ensures in
    let parts = ap (λ (f : Four). f.parts) now in
    let pushes = ap (λ (f : Four). f.pushes) now in
    let takes = ap (λ (f : Four). f.takes) now in
    let entries = ap (λ (f : Four). f.entries) now in
    let repairs = ap (λ (f : Four). f.repairs) now in
    let used : used_of c.into_inner-share.result.directory ≤ owned c.in-Some.lock =
    used_few c.into_inner-share.result.directory.entries (own_pages c.in-Some.lock.site c.in-Some.lock.number) one.set.sound.apart one.listed in
    record {
      books = ap (λ (f : Four). f.books) now ∙ so_far.books;
      parts = omega (arith, parts, so_far.parts, long, one.parts);
      pushes = omega (arith, ints, pushes, so_far.pushes, one.pushes);
      takes = omega (arith, ints, takes, so_far.takes, one.takes);
      own = own.0;
      roomy = λ roomy. (All-pop (λ (lock : LockOf). owned lock ≤ lock.site.shape.ways) _ _ (Some c.in-Some.lock) items (so_far.roomy roomy)).0;
      few = λ roomy.
          let few = so_far.few roomy in
          let fits = (All-pop (λ (lock : LockOf). owned lock ≤ lock.site.shape.ways) _ _ (Some c.in-Some.lock) items (so_far.roomy roomy)).1 in
          let begun = one.used fits in
          omega (arith, ints, few, begun, used, sum, entries, repairs);
    }

pub join-all-requires : goal.join-all-requires
join-all-requires g c =
    let own = All-pop (λ (lock : LockOf). lock.site.books ≡ c.args.ledgers.now) _ _ (Some c.in-Some.lock) c.in-Some.ensures.items c.loop-lock.invariant.own in
    record { own = (c.loop-lock.invariant.books, c.into_inner-share.ensures.books ∙ own.1) }
