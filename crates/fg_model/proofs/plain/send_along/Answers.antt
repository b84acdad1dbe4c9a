use Rattle.std.proofs.Common.{◌+◌, ◌<◌, ◌≤◌, List, length, map, drop, refl, ap, sym, ◌∙◌, arith}
use Rattle.std.specs.Prelude.{find}
use Rattle.std.proofs.lemmas.List.{at_drop_all}
use Rattle.fg_base.specs.declared.plain.Entry.{Entry}
use Rattle.fg_base.specs.declared.plain.VState.{VState}
use Rattle.fg_model.specs.Iteration.{folded, is_bad}
use Rattle.fg_model.specs.VertexRun.{edges_from, message_along}
use Rattle.fg_model.proofs.IterationLemmas.{entry_at, entry_bad, entry_folded, entry_good, folded-nil}
use Rattle.fg_model.proofs.plain.send_along.Goals as goal

pub loop-place-init : goal.loop-place-init
loop-place-init g c = record { one_runs = refl; more_entries = omega arith; rest_bad = refl; rest_folded = refl }

pub returns-then-entry-states : goal.returns-then-entry-states
returns-then-entry-states g c =
    let inv = c.loop-place.invariant in
    let past : length c.args.states.now ≤ (entry_at c.args.entries.now c.loop-place.place).target = omega (arith, c.if-entry-states.true, c.loop-place.auto.states) in
    record {
      runs = inv.one_runs;
      ok_sound = tt;
      few_entries = record { at_least = omega (arith, inv.more_entries); at_most = omega (arith, inv.more_entries, c.loop-place-test.true) };
      ok_states = tt;
      ok_entries = tt;
      err = sym inv.rest_bad ∙ entry_bad (length c.args.states.now) c.args.from.v c.args.dir c.loop-place.place c.args.entries.now c.loop-place-test.true past;
    }

pub send_one-requires-clause-room : goal.send_one-requires-clause-room
send_one-requires-clause-room g c = omega (arith, c.loop-place.invariant.more_entries, c.requires.room, c.loop-place-test.true)

pub loop-place-preserved : goal.loop-place-preserved
loop-place-preserved g c =
    let P = g.P.Program.rules c.args.program.now in
    let inv = c.loop-place.invariant in
    let entries = c.args.entries.now in
    let place = c.loop-place.place in
    let states = c.loop-place.states in
    let entry = entry_at entries place in
    let good : entry.target < length states = omega (arith, c.if-entry-states.false) in
    let good_first : entry.target < length c.args.states.now = omega (arith, good, c.loop-place.auto.states) in
    record {
      one_runs = c.send_one.ensures.runs ∙ inv.one_runs;
      more_entries = omega (arith, c.send_one.ensures.entries, inv.more_entries);
      rest_bad = sym (entry_good (length c.args.states.now) c.args.from.v c.args.dir place entries c.loop-place-test.true good_first) ∙ inv.rest_bad;
      rest_folded = ap (λ (xs : List VState). folded P (map (message_along P c.args.from.carry c.args.dir) (drop (place + 1) entries)) xs) c.send_one.ensures.states
          ∙ sym (entry_folded P c.args.from.carry c.args.dir place entries states c.loop-place-test.true good) ∙ inv.rest_folded;
    }

pub returns : goal.returns
returns g c =
    let P = g.P.Program.rules c.args.program.now in
    let inv = c.loop-place.invariant in
    let entries = c.args.entries.now in
    let place = c.loop-place.place in
    let done : length entries ≤ place = omega (arith, c.loop-place-test.false) in
    record {
      runs = inv.one_runs;
      ok_sound = sym inv.rest_bad ∙ at_drop_all (λ (rest : List Entry). find (is_bad (length c.args.states.now)) (edges_from c.args.from.v c.args.dir place rest)) entries place done;
      few_entries = record { at_least = omega (arith, inv.more_entries); at_most = omega (arith, inv.more_entries, c.loop-place.auto.place-end) };
      ok_states = sym (folded-nil P c.loop-place.states) ∙ sym (at_drop_all (λ (rest : List Entry). folded P (map (message_along P c.args.from.carry c.args.dir) rest) c.loop-place.states) entries place done) ∙ inv.rest_folded;
      ok_entries = omega (arith, inv.more_entries, c.loop-place.auto.place-end, done);
      err = tt;
    }
