use Rattle.std.proofs.Common.{◌≡◌, ◌∙◌, ℕ, suc, ◌+◌, ◌<◌, Some, length, sym, ap, subst, arith, inr}
use Rattle.std.specs.Prelude.{reverse}
use Rattle.std.proofs.lemmas.List.{length_push, length-reverse, reverse-reverse}
use Rattle.std.proofs.lemmas.List.Elements.{All-pop}
use Rattle.fg_base.specs.declared.limits.TheConstants.{NO_PAGE}
use Rattle.fg_books.specs.Shares.{BooksId}
use Rattle.fg_cache.specs.Share.{Four, idle}
use Rattle.fg_cache.specs.Shelf.{IsStocked}
use Rattle.fg_outside.specs.Drives.{HasEachFrom}
use Rattle.fg_cache.proofs.EachLemmas.{shelves_push}
use Rattle.fg_cache.proofs.JoinLemmas.{length-popped}
use Rattle.fg_cache.proofs.OpenLemmas.{all_moved, one_moved, reverse-popped}
use Rattle.fg_cache.proofs.opening.make_shelves.Goals.{in-Some+in_default-pop, in_default}
use Rattle.fg_cache.proofs.opening.make_shelves.Given as given
use Rattle.fg_cache.proofs.opening.make_shelves.Goals as goal

pub loop-drive-init : goal.loop-drive-init
loop-drive-init g c =
    let back = ap reverse c.reverse.ensures.items ∙ reverse-reverse c.args.drives.items in
    let long : length c.reverse.new.self.items ≡ length c.args.drives.items = ap length c.reverse.ensures.items ∙ length-reverse c.args.drives.items in
    let none = ap length c.requires.shelves.0 in
    record {
      opened = rw c.requires.shelves.0 back;
      count = none;
      whole = omega (arith, long);
      long = omega (arith, none);
      room = c.requires.shelves.1;
      names = rw c.requires.shelves.0 (λ k d h. absurd (omega (arith, h)));
      share = c.requires.share ∙ ap (idle c.args.ledgers.now) (sym long);
      faults = c.requires.faults;
      parked = c.requires.parked.0 ∙ sym long;
      blank = c.requires.parked.1;
      stocked = rw back c.requires.stocked;
    }

pub cut_off-lot-requires-clause-parts : goal.cut_off-lot-requires-clause-parts
cut_off-lot-requires-clause-parts g c = λ k low high.
    let so_far = c.loop-drive.invariant in
    let long = length-popped c.loop-drive.left.items c.pop.new.self.items c.in-Some.drive c.in-Some.ensures.items in
    let within : k < c.args.home.now.books.plan.loose = omega (arith, high, long, so_far.whole, c.requires.loose) in
    let has = so_far.faults.1 k low within in
    let parts = ap (λ (b : BooksId). b.plan.parts) c.requires.own in
    omega (arith, has, parts, c.parts.ensures)

pub cut_off-lot-requires-clause-amounts : goal.cut_off-lot-requires-clause-amounts
cut_off-lot-requires-clause-amounts g c = λ k low high all. c.loop-drive.invariant.faults.2 k

pub make_shelf-requires-clause-blank : goal.make_shelf-requires-clause-blank
make_shelf-requires-clause-blank g c = (All-pop (λ one. one.spare.number ≡ NO_PAGE) _ _ (Some c.in-Some-pop.beside) c.in-Some-pop.ensures.items c.loop-drive.invariant.blank).1

pub loop-drive-preserved : goal.loop-drive-preserved
loop-drive-preserved g c =
    let so_far = c.loop-drive.invariant in
    let items = c.in-Some.ensures.items in
    let long = length-popped c.loop-drive.left.items c.pop.new.self.items c.in-Some.drive items in
    let beside = length-popped c.loop-drive.parked.items c.pop-in-Some.new.self.items c.in-Some-pop.beside c.in-Some-pop.ensures.items in
    let back = reverse-popped c.loop-drive.left.items c.pop.new.self.items c.in-Some.drive items in
    let pushed = c.push_reserved.ensures.items in
    let had = length_push c.loop-drive.shelves.items c.make_shelf.result in
    let lock = c.make_shelf.ensures in
    let next : suc c.loop-drive.number ≡ c.loop-drive.number + 1 = omega arith in
    let parts = ap (λ (f : Four). f.parts) so_far.share in
    record {
      opened = rw pushed (one_moved (λ lock. lock.opened) c.loop-drive.shelves.items c.make_shelf.result c.in-Some.drive c.loop-drive.left.items c.pop.new.self.items c.args.drives.items
          (ap (λ lock. lock.opened) lock) items so_far.opened);
      count = omega (arith, ap length pushed, had, so_far.count);
      whole = omega (arith, so_far.whole, long);
      long = omega (arith, c.push_reserved.ensures.len, so_far.long);
      room = omega (arith, so_far.room, c.push_reserved.ensures.capacity);
      names = rw pushed (shelves_push c.args.home.now c.loop-drive.shelves.items c.make_shelf.result so_far.names
          (ap (λ lock. lock.site) lock, ap (λ lock. lock.number) lock ∙ sym so_far.count));
      share = c.cut_one-own.ensures.rest ∙ ap (idle c.args.ledgers.now) (omega (arith, long, parts));
      faults = (
        c.cut_off-lot.ensures.own.0 ∙ c.ledgers.view_is ∙ sym c.requires.own,
        (λ k low high. c.cut_off-lot.ensures.others k (inr low) ∙ so_far.faults.1 k (omega (arith, low)) high),
        (λ k. c.cut_off-lot.ensures.amounts k ∙ so_far.faults.2 k),
      );
      parked = omega (arith, so_far.parked, long, beside);
      blank = (All-pop (λ one. one.spare.number ≡ NO_PAGE) _ _ (Some c.in-Some-pop.beside) c.in-Some-pop.ensures.items so_far.blank).0;
      stocked = subst (λ (n : ℕ). HasEachFrom n (λ number drive. IsStocked g.D.Drive.held g.D.Drive.told c.args.home.now.image c.args.home.now.layout number drive) (reverse c.pop.new.self.items))
          next (rw back at so_far.stocked).1;
    }

none_left : (g : given.Over) (c : goal.After-drop-faults-inside g) → length c.loop-drive.left.items ≡ 0
none_left g c = elim c.match-pop.branch [
  | in-Some+in_default-pop w ↦ omega (arith, w.in-Some.ensures, w.in_default-pop.ensures, c.loop-drive.invariant.parked)
  | in_default w ↦ omega (arith, w.in_default.ensures)
]

pub returns-clause-share : goal.returns-clause-share
returns-clause-share g c = c.loop-drive.invariant.share ∙ ap (idle c.args.ledgers.now) (none_left g c)

pub returns-clause-count : goal.returns-clause-count
returns-clause-count g c = omega (arith, c.loop-drive.invariant.count, c.loop-drive.invariant.whole, none_left g c)

pub returns-clause-drives : goal.returns-clause-drives
returns-clause-drives g c = all_moved _ c.loop-drive.left.items c.args.drives.items c.loop-drive.invariant.opened (none_left g c)
