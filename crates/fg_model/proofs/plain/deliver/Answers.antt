use Rattle.std.proofs.Common.{◌+◌, ◌≤◌, length, drop, refl, ap, sym, ◌∙◌, arith}
use Rattle.std.proofs.lemmas.Result.{err_from_is_err_and}
use Rattle.fg_model.specs.Iteration.{folded}
use Rattle.fg_model.specs.Plain.{messages_over}
use Rattle.fg_model.proofs.PlainLemmas.{length-over-end, length-over-more, over_all, over_bad, over_folded, over_good, over_none}
use Rattle.fg_model.proofs.plain.deliver.Goals as goal

pub loop-from-init : goal.loop-from-init
loop-from-init g c = record { one_runs = refl; rest_entries = refl; rest_count = omega arith; rest_bad = refl; rest_folded = refl }

pub send-requires : goal.send-requires
send-requires g c =
    let more = length-over-more c.args.need c.args.graph.now c.args.active.now c.loop-from.from-index c.loop-from-test.true in
    record {
      within = c.requires.within;
      vertex = c.requires.vertices c.loop-from.from-index (record { v = 0; carry = 0 }) c.loop-from-test.true;
      states = c.loop-from.auto.states ∙ c.requires.states;
      room = omega (arith, more, c.loop-from.invariant.rest_entries, c.requires.few, c.requires.room);
    }

pub overflow_add-messages : goal.overflow_add-messages
overflow_add-messages g c =
    let more = length-over-more c.args.need c.args.graph.now c.args.active.now c.loop-from.from-index c.loop-from-test.true in
    omega (arith, more, c.loop-from.invariant.rest_count, c.requires.few, c.in_ok-messages.ensures.ok_count)

pub returns-in_err-messages-clause-err : goal.returns-in_err-messages-clause-err
returns-in_err-messages-clause-err g c =
    let p = err_from_is_err_and c.from_residual.result c.from_residual.ensures.1 in
    rw (p.1, p.2) (sym c.loop-from.invariant.rest_bad ∙ over_bad c.args.graph.now.n c.args.need c.args.graph.now c.args.active.now c.loop-from.from-index c.in_err-messages.field-0.0 c.loop-from-test.true c.in_err-messages.ensures.err)

pub loop-from-preserved : goal.loop-from-preserved
loop-from-preserved g c =
    let P = g.P.Program.rules c.args.program.now in
    let need = c.args.need in
    let graph = c.args.graph.now in
    let active = c.args.active.now in
    let i = c.loop-from.from-index in
    let inv = c.loop-from.invariant in
    let did = c.in_ok-messages.ensures in
    let more = length-over-more need graph active i c.loop-from-test.true in
    record {
      one_runs = did.runs ∙ inv.one_runs;
      rest_entries = omega (arith, more, inv.rest_entries, did.ok_entries);
      rest_count = omega (arith, more, inv.rest_count, did.ok_count);
      rest_bad = sym (over_good graph.n need graph active i c.loop-from-test.true did.ok_sound) ∙ inv.rest_bad;
      rest_folded = ap (folded P (messages_over P need graph (drop (i + 1) active))) did.ok_states ∙ sym (over_folded P need graph active i c.loop-from.states c.loop-from-test.true) ∙ inv.rest_folded;
    }

pub returns : goal.returns
returns g c =
    let P = g.P.Program.rules c.args.program.now in
    let need = c.args.need in
    let graph = c.args.graph.now in
    let active = c.args.active.now in
    let i = c.loop-from.from-index in
    let inv = c.loop-from.invariant in
    let done : length active ≤ i = omega (arith, c.loop-from-test.false) in
    let none = length-over-end need graph active i done in
    record {
      runs = inv.one_runs;
      ok_sound = sym inv.rest_bad ∙ over_none graph.n need graph active i done;
      few_entries = record { at_least = omega (arith, inv.rest_entries, inv.rest_count); at_most = omega (arith, inv.rest_entries) };
      ok_states = sym (over_all P need graph active i c.loop-from.states done) ∙ inv.rest_folded;
      ok_count = omega (arith, none, inv.rest_count);
      ok_entries = omega (arith, none, inv.rest_entries);
      err = tt;
    }

pub returns-in_err-messages-clause-few_entries : goal.returns-in_err-messages-clause-few_entries
returns-in_err-messages-clause-few_entries g c =
    let inv = c.loop-from.invariant in
    let few = c.in_err-messages.ensures.few_entries in
    let more = length-over-more c.args.need c.args.graph.now c.args.active.now c.loop-from.from-index c.loop-from-test.true in
    record { at_least = omega (arith, few.at_least, inv.rest_entries, inv.rest_count); at_most = omega (arith, few.at_most, more, inv.rest_entries) }
