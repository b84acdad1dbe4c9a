use Rattle.std.proofs.Common.{arith}
use Rattle.fg_iter.proofs.SentLaws.{on_both}
use Rattle.fg_iter.proofs.tests.run_one.Goals as goal

pub returns-clause-sent : goal.returns-clause-sent
returns-clause-sent c =
    let was = c.requires.sent in
    let one = c.in_ok-send.ensures in
    on_both c.send-2.result _ _ _ c.send-2.ensures.count c.send-2.ensures.fit (λ count fit. record {
      two_each = omega (arith, count, one.count, one.runs, was.two_each, c.send-2.ensures.runs, c.begin-carry.ensures.runs);
      all_counted = omega (arith, one.entries, was.all_counted, c.send-2.ensures.entries, c.begin-carry.ensures.entries, one.runs, c.send-2.ensures.runs, c.begin-carry.ensures.runs);
      all_fit = fit c.args.n c.entries_of.ensures.1 (one.fit c.args.n c.entries_of.ensures.0 was.all_fit);
    })
