use Rattle.std.proofs.Common.{◌≤◌, length, arith}
use Rattle.std.proofs.lemmas.List.Elements.{All-push}
use Rattle.fg_queue.specs.Merge.{IsPageRun}
use Rattle.fg_queue.proofs.MergeLemmas.{CutsRun, pages_rise, pages_below, cut_is_run, cut_joins, cut_maximal, cut_behind}
use Rattle.fg_queue.proofs.merge.merge_asks.Goals as goal

pub run_at-requires-clause-rises : goal.run_at-requires-clause-rises
run_at-requires-clause-rises c =
    let end = c.run_end-end.ensures in
    let within : c.run_end-end.result ≤ length c.in_ok-sorted.sorted.items = rw c.deref-in-loop-start.ensures.value at end.within in
    rw c.deref-in-loop-start-2.ensures.value
    (pages_rise c.args.asks.now.items c.in_ok-sorted.sorted.items c.loop-start.invariant.by_page c.loop-start.start _ (omega (arith, end.more)) (omega (arith, end.more, within)))

pub run_at-requires-clause-pages : goal.run_at-requires-clause-pages
run_at-requires-clause-pages c =
    rw c.deref-in-loop-start-2.ensures.value (pages_below c.args.asks.now.items c.in_ok-sorted.sorted.items _ c.loop-start.invariant.by_page c.requires)

pub loop-start-preserved : goal.loop-start-preserved
loop-start-preserved c =
    let asks = c.args.asks.now.items in
    let sorted = c.in_ok-sorted.sorted.items in
    let runs = c.loop-start.runs.items in
    let start = c.loop-start.start in
    let stop = c.run_end-end.result in
    let run = c.in_ok-run_at.field-0 in
    let at = c.loop-start.invariant in
    let end = rw c.deref-in-loop-start.ensures.value at c.run_end-end.ensures in
    let made = rw c.deref-in-loop-start-2.ensures.value at c.in_ok-run_at.ensures in
    let cuts : CutsRun sorted start stop run = record {
      more = end.more;
      within = end.within;
      jobs = made.jobs;
      first = made.first;
      last = made.last;
      steps = end.steps;
      gap = end.gap;
    } in
    let before = at.behind (omega (arith, end.more, end.within)) in
    rw c.in_ok-push.ensures.items (record {
      within = end.within;
      by_page = at.by_page;
      so_far = cut_joins asks sorted at.by_page start stop run cuts runs at.so_far;
      runs = All-push IsPageRun runs run at.runs (cut_is_run asks sorted at.by_page start stop run cuts);
      maximal = cut_maximal asks sorted at.by_page start stop run cuts runs at.maximal before;
      behind = cut_behind asks sorted at.by_page start stop run cuts runs before;
    })
