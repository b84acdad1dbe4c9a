use Rattle.std.proofs.Common.{◌≡◌, ◌∙◌, Some, ap, arith}
use Rattle.std.proofs.lemmas.Int.{ints}
use Rattle.std.proofs.lemmas.List.Elements.{All-pop}
use Rattle.fg_cache.specs.Pass.{Token}
use Rattle.fg_cache.specs.Share.{Four}
use Rattle.fg_cache.proofs.JoinLemmas.{length-popped, sum-popped}
use Rattle.fg_cache.proofs.joining.join_passes.Goals as goal

pub loop-pass-preserved : goal.loop-pass-preserved
loop-pass-preserved c =
    let so_far = c.loop-pass.invariant in
    let items = c.in-Some.ensures.items in
    let own = All-pop (λ (pass : Token). pass.books ≡ c.args.ledgers.now) _ _ (Some c.in-Some.pass) items so_far.own in
    let long = length-popped c.loop-pass.passes.items c.pop.new.self.items c.in-Some.pass items in
    let queued = sum-popped (λ (pass : Token). pass.queued) c.loop-pass.passes.items c.pop.new.self.items c.in-Some.pass items in
    let stale = sum-popped (λ (pass : Token). pass.stale) c.loop-pass.passes.items c.pop.new.self.items c.in-Some.pass items in
    let one = c.pass.invariant in
    let now = c.join-all.ensures in
    let parts = ap (λ (f : Four). f.parts) now in
    let pushes = ap (λ (f : Four). f.pushes) now in
    let takes = ap (λ (f : Four). f.takes) now in
    let entries = ap (λ (f : Four). f.entries) now in
    let repairs = ap (λ (f : Four). f.repairs) now in
    let same_queued = ap (λ (token : Token). token.queued) c.pass.view_is in
    let same_stale = ap (λ (token : Token). token.stale) c.pass.view_is in
    record {
      books = ap (λ (f : Four). f.books) now ∙ so_far.books;
      parts = omega (arith, parts, so_far.parts, long, ap (λ (f : Four). f.parts) one);
      pushes = omega (arith, ints, pushes, so_far.pushes, queued, same_queued, ap (λ (f : Four). f.pushes) one);
      takes = omega (arith, ints, takes, so_far.takes, ap (λ (f : Four). f.takes) one);
      entries = omega (arith, ints, entries, so_far.entries, ap (λ (f : Four). f.entries) one);
      repairs = omega (arith, ints, repairs, so_far.repairs, stale, same_stale, ap (λ (f : Four). f.repairs) one);
      own = own.0;
    }
