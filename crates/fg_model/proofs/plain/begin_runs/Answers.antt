use Rattle.std.proofs.Common.{◌≡◌, ℕ, ◌+◌, ◌-◌, true, false, List, [], ◌∷◌, ◌++◌, length, drop, refl, ap, sym, ◌∙◌, arith}
use Rattle.fg_base.specs.declared.plain.VState.{VState}
use Rattle.fg_model.specs.declared.plain.Active.{Active}
use Rattle.fg_model.specs.Iteration.{state_at}
use Rattle.fg_model.proofs.PlainLemmas.{awake_counted, active-asleep, active-awake, active-end, active_all, active_from, runs-asleep, runs-awake, runs-end, runs_all, runs_from}
use Rattle.fg_model.proofs.plain.begin_runs.Goals as goal

pub loop-v-init : goal.loop-v-init
loop-v-init g c =
    let P = g.P.Program.rules c.args.program.now in
    let states = c.args.states.now in
    record {
      the_end = refl;
      one_entries = refl;
      more_runs = omega (arith, c.new-active.ensures.len);
      few_active = omega (arith, c.new-active.ensures.len);
      rest_next = ap (λ (xs : List VState). xs ++ runs_from 0 P c.args.phase states) c.in_ok-next.ensures.items ∙ runs_all P c.args.phase states;
      rest_active = ap (λ (xs : List Active). xs ++ active_from 0 (length states - 0) P c.args.phase states) c.new-active.ensures.items
          ∙ ap (λ (n : ℕ). active_from 0 n P c.args.phase states) (omega arith) ∙ active_all P c.args.phase states;
    }

pub loop-v-preserved-then-not-wake : goal.loop-v-preserved-then-not-wake
loop-v-preserved-then-not-wake g c =
    let P = g.P.Program.rules c.args.program.now in
    let states = c.args.states.now in
    let phase = c.args.phase in
    let v = c.loop-v.v in
    let inv = c.loop-v.invariant in
    let asleep : P.wake phase (state_at states v) ≡ false = cc (c.if-not-wake.true, c.wake.ensures) in
    record {
      the_end = refl;
      one_entries = inv.one_entries;
      more_runs = inv.more_runs;
      few_active = omega (arith, inv.few_active);
      rest_next = ap (λ (xs : List VState). xs ++ runs_from (v + 1) P phase (drop (v + 1) states)) c.in_ok-push.ensures.items
          ∙ sym (runs-asleep P phase v states c.loop-v.next.items c.loop-v-test.true asleep) ∙ inv.rest_next;
      rest_active = sym (active-asleep P phase v (length states - v) (length states - (v + 1)) states c.loop-v.active.items (omega (arith, c.loop-v-test.true)) asleep) ∙ inv.rest_active;
    }

pub loop-v-preserved : goal.loop-v-preserved
loop-v-preserved g c =
    let P = g.P.Program.rules c.args.program.now in
    let states = c.args.states.now in
    let phase = c.args.phase in
    let v = c.loop-v.v in
    let inv = c.loop-v.invariant in
    let awake : P.wake phase (state_at states v) ≡ true = cc (c.if-not-wake.false, c.wake.ensures) in
    let begun = c.begin_one.ensures in
    record {
      the_end = refl;
      one_entries = begun.entries ∙ inv.one_entries;
      more_runs = omega (arith, begun.runs, inv.more_runs, c.in_ok-push-3.ensures.len);
      few_active = omega (arith, inv.few_active, c.in_ok-push-3.ensures.len);
      rest_next = ap (λ (xs : List VState). xs ++ runs_from (v + 1) P phase (drop (v + 1) states)) (c.in_ok-push-2.ensures.items ∙ ap (λ (s : VState). c.loop-v.next.items ++ s ∷ []) begun.state)
          ∙ sym (runs-awake P phase v states c.loop-v.next.items c.loop-v-test.true awake) ∙ inv.rest_next;
      rest_active = ap (λ (xs : List Active). xs ++ active_from (v + 1) (length states - (v + 1)) P phase states)
          (c.in_ok-push-3.ensures.items ∙ ap (λ (a : Active). c.loop-v.active.items ++ a ∷ []) begun.active)
          ∙ sym (active-awake P phase v (length states - v) (length states - (v + 1)) states c.loop-v.active.items (omega (arith, c.loop-v-test.true)) awake) ∙ inv.rest_active;
    }

pub returns : goal.returns
returns g c =
    let P = g.P.Program.rules c.args.program.now in
    let states = c.args.states.now in
    let inv = c.loop-v.invariant in
    record {
      states = sym (runs-end P c.args.phase c.loop-v.v states c.loop-v.next.items c.loop-v-test.false) ∙ inv.rest_next;
      active = sym (active-end P c.args.phase c.loop-v.v (length states - c.loop-v.v) states c.loop-v.active.items (omega (arith, c.loop-v-test.false))) ∙ inv.rest_active;
      runs = inv.more_runs;
      few_runs = record {
        at_least = omega (arith, inv.more_runs);
        at_most = omega (
          arith,
          inv.more_runs,
          c.loop-v.active.ok.0,
          ap (λ (xs : List Active). length xs) (sym (active-end P c.args.phase c.loop-v.v (length states - c.loop-v.v) states c.loop-v.active.items (omega (arith, c.loop-v-test.false))) ∙ inv.rest_active),
        );
      };
      entries = inv.one_entries;
    }

pub returns-in_err-push-2-clause-few_runs : goal.returns-in_err-push-2-clause-few_runs
returns-in_err-push-2-clause-few_runs g c =
    let P = g.P.Program.rules c.args.program.now in
    let states = c.args.states.now in
    let phase = c.args.phase in
    let v = c.loop-v.v in
    let inv = c.loop-v.invariant in
    let awake : P.wake phase (state_at states v) ≡ true = cc (c.if-not-wake.false, c.wake.ensures) in
    let one_more = awake_counted P phase v states c.loop-v.active.items c.loop-v-test.true awake inv.rest_active in
    record {
      at_least = omega (arith, c.begin_one.ensures.runs, inv.more_runs);
      at_most = omega (arith, c.begin_one.ensures.runs, inv.more_runs, c.loop-v.active.ok.0, one_more);
    }

pub returns-in_err-push-3-clause-few_runs : goal.returns-in_err-push-3-clause-few_runs
returns-in_err-push-3-clause-few_runs g c =
    let P = g.P.Program.rules c.args.program.now in
    let states = c.args.states.now in
    let phase = c.args.phase in
    let v = c.loop-v.v in
    let inv = c.loop-v.invariant in
    let awake : P.wake phase (state_at states v) ≡ true = cc (c.if-not-wake.false, c.wake.ensures) in
    let one_more = awake_counted P phase v states c.loop-v.active.items c.loop-v-test.true awake inv.rest_active in
    record {
      at_least = omega (arith, c.begin_one.ensures.runs, inv.more_runs);
      at_most = omega (arith, c.begin_one.ensures.runs, inv.more_runs, c.loop-v.active.ok.0, one_more);
    }
