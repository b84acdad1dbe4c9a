use Rattle.std.proofs.Common.{ℕ, ◌-◌, Bool, true, false, arith}
use Rattle.fg_iter.proofs.SentLaws.{kept_few, kept_more}
use Rattle.fg_model.specs.Iteration.{state_at}
use Rattle.fg_walks.specs.Bfs.{bfs}
use Rattle.fg_iter.proofs.tests.run_vertices.Goals as goal

pub loop-v-preserved-then-not-wake : goal.loop-v-preserved-then-not-wake
loop-v-preserved-then-not-wake c =
    let P = bfs c.args.program.now.source in
    let v = c.loop-v.v in
    let awake : ℕ → Bool = λ u. P.wake c.args.phase (state_at c.args.states.now u) in
    let more = kept_more awake c.args.first v false (omega arith) (cc) in
    record {
      sent = c.loop-v.invariant.sent;
      active = omega (arith, more, c.loop-v.invariant.active);
    }

pub run_one-requires-clause-few : goal.run_one-requires-clause-few
run_one-requires-clause-few c =
    let P = bfs c.args.program.now.source in
    let awake : ℕ → Bool = λ u. P.wake c.args.phase (state_at c.args.states.now u) in
    omega (arith, kept_few awake c.args.first (c.loop-v.v - c.args.first), c.loop-v.invariant.active, c.requires.vertices.1, c.requires.vertices.2)

pub loop-v-preserved : goal.loop-v-preserved
loop-v-preserved c =
    let P = bfs c.args.program.now.source in
    let v = c.loop-v.v in
    let awake : ℕ → Bool = λ u. P.wake c.args.phase (state_at c.args.states.now u) in
    let more = kept_more awake c.args.first v true (omega arith) (cc) in
    record {
      sent = c.in_ok-run_one.ensures.sent;
      active = omega (arith, more, c.loop-v.invariant.active, c.in_ok-run_one.ensures.runs);
    }
