use Rattle.std.proofs.Common.{◌≡◌, ◌∙◌, ℕ, Option, List, All, ap, subst, arith}
use Rattle.fg_stripe.specs.declared.layout.Layout.{Layout}
use Rattle.fg_cache.specs.Site.{Site}
use Rattle.fg_cache.proofs.stock.Stock.new.Goals as goal

pub returns-clause-home : goal.returns-clause-home
returns-clause-home g c =
    let home = c.home.view_is in
    let begun = c.in_ok-home.ensures in (
      ap (λ (s : Site). s.layout) home ∙ begun.home.0,
      ap (λ (s : Site). s.shape) home ∙ begun.home.1,
    )

pub returns-clause-name : goal.returns-clause-name
returns-clause-name g c =
    let home = c.home.view_is in
    let begun = c.in_ok-home.ensures in (
      ap (λ (s : Site). s.image) home ∙ begun.name.0,
      ap (λ (s : Site). s.asked) home ∙ begun.name.1,
    )

pub returns-clause-ok : goal.returns-clause-ok
returns-clause-ok g c =
    let begun = c.in_ok-home.ensures in
    let locks = c.in_ok-share.ensures in
    let drives = ap (λ (l : Layout). l.drives) begun.home.0 in
    rw (c.home.view_is, c.ledgers.view_is, c.share.view_is, c.faults.view_is) (record {
      site = record {
        layout = rw begun.home.0 c.requires.layout;
        shape = rw begun.home.1 c.requires.shape;
        loose = rw (begun.own, begun.home.0) begun.plan.0;
        parts = rw (begun.own, begun.home.0, begun.home.1) begun.plan.1;
      };
      books = begun.own;
      share = locks.share;
      faults = begun.faults;
      set_count = locks.sets.0;
      set_names = locks.sets.1;
      queue_count = locks.queues.0;
      queue_names = locks.queues.1;
      frame_count = rw begun.home.1 c.in_ok-frames.ensures.count;
      frame_names = subst (λ (image : Option (List (List ℕ))). All (λ frame. frame ≡ image) c.in_ok-frames.frames.items) (ap (λ (s : Site). s.image) c.home.view_is) c.in_ok-frames.ensures.image;
      pass_count = locks.passes.0;
      new_passes = locks.passes.1;
      parked_count = rw begun.home.0 c.in_ok-parked.ensures.count;
      blank = c.in_ok-parked.ensures.blank;
      no_shelf = c.in_ok-with_capacity.ensures.items;
      shelf_room = omega (arith, c.in_ok-with_capacity.ensures.exact, drives);
      no_drive = c.in_ok-with_capacity-2.ensures.items;
      drive_room = omega (arith, c.in_ok-with_capacity-2.ensures.exact, drives);
    })
