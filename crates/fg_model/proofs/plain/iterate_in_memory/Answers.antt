use Rattle.std.proofs.Common.{◌≡◌, ℕ, ◌<◌, List, drop, length, ap, sym, subst, ◌∙◌, arith}
use Rattle.std.specs.Prelude.{All, find}
use Rattle.std.proofs.lemmas.Result.{err_from_is_err_and}
use Rattle.fg_base.specs.declared.plain.BadEdge.{BadEdge}
use Rattle.fg_base.specs.declared.plain.VState.{VState}
use Rattle.fg_model.specs.declared.plain.Active.{Active}
use Rattle.fg_model.specs.Iteration.{AreStates, begun_at, folded, is_bad, mail, needed, states_after_runs}
use Rattle.fg_model.specs.Plain.{all_active, edges_over}
use Rattle.fg_model.proofs.PlainLemmas.{All-active_below, after_are_states, edges_are_needed, few_active, few_needed, length-active, length-runs, after_is, plain_bad, plain_folded, written, plain_iteration}
use Rattle.fg_model.proofs.plain.iterate_in_memory.Goals as goal

pub deliver-requires-clause-vertices : goal.deliver-requires-clause-vertices
deliver-requires-clause-vertices g c =
    let P = g.P.Program.rules c.args.program.now in
    let n = c.args.graph.now.n in
    let is_active : c.as_slice.result.now ≡ all_active P c.args.phase c.args.states.now = c.as_slice.ensures.value ∙ c.in_ok-next.ensures.active in
    let of_count : ℕ → Type 0 = λ k. All (λ (from : Active). from.v < k) (all_active P c.args.phase c.args.states.now) in
    let of_list : List Active → Type 0 = λ xs. All (λ (from : Active). from.v < n) xs in
    subst of_list (sym is_active) (subst of_count c.requires.are_states.state_count (All-active_below P c.args.phase c.args.states.now))

pub deliver-requires-clause-states : goal.deliver-requires-clause-states
deliver-requires-clause-states g c =
    let P = g.P.Program.rules c.args.program.now in
    ap (λ (xs : List VState). length xs) (c.as_mut_slice.ensures.value ∙ c.in_ok-next.ensures.states) ∙ length-runs P c.args.phase c.args.states.now ∙ c.requires.are_states.state_count

pub deliver-requires-clause-few : goal.deliver-requires-clause-few
deliver-requires-clause-few g c =
    let P = g.P.Program.rules c.args.program.now in
    let graph = c.args.graph.now in
    let is_active : c.as_slice.result.now ≡ all_active P c.args.phase c.args.states.now = c.as_slice.ensures.value ∙ c.in_ok-next.ensures.active in
    let are_needed : edges_over c.need-need.result graph c.as_slice.result.now ≡ needed P graph c.args.phase c.args.states.now =
    cc (is_active, c.need-need.ensures, edges_are_needed P graph c.args.phase c.args.states.now) in
    omega (arith, ap (λ (xs : List BadEdge). length xs) are_needed, few_needed P graph c.args.phase c.args.states.now c.requires.within c.requires.are_states.state_count)

pub returns-in_err-messages-clause-bad_edge : goal.returns-in_err-messages-clause-bad_edge
returns-in_err-messages-clause-bad_edge g c =
    let P = g.P.Program.rules c.args.program.now in
    let graph = c.args.graph.now in
    let bad = c.in_err-messages.field-0.0 in
    let is_active : c.as_slice.result.now ≡ all_active P c.args.phase c.args.states.now = c.as_slice.ensures.value ∙ c.in_ok-next.ensures.active in
    let are_needed : edges_over c.need-need.result graph c.as_slice.result.now ≡ needed P graph c.args.phase c.args.states.now =
    cc (is_active, c.need-need.ensures, edges_are_needed P graph c.args.phase c.args.states.now) in
    let p = err_from_is_err_and c.from_residual-in_err-messages.result c.from_residual-in_err-messages.ensures.1 in
    rw (p.1, p.2) (plain_bad P graph c.args.phase c.args.states.now bad (sym (ap (find (is_bad graph.n)) are_needed) ∙ c.in_err-messages.ensures.err))

pub returns-clause-ok : goal.returns-clause-ok
returns-clause-ok g c =
    let P = g.P.Program.rules c.args.program.now in
    let graph = c.args.graph.now in
    let states = c.args.states.now in
    let phase = c.args.phase in
    let is_active : c.as_slice.result.now ≡ all_active P phase states = c.as_slice.ensures.value ∙ c.in_ok-next.ensures.active in
    let is_next : c.as_mut_slice.result.now ≡ states_after_runs P phase states = c.as_mut_slice.ensures.value ∙ c.in_ok-next.ensures.states in
    let are_needed : edges_over c.need-need.result graph c.as_slice.result.now ≡ needed P graph phase states = cc (is_active, c.need-need.ensures, edges_are_needed P graph phase states) in
    let is_written = written c.in_ok-next.field-0.states.len c.deliver.new.states (drop (length c.deliver.new.states) c.in_ok-next.field-0.states.items) (sym (c.deliver.auto.states ∙ c.as_mut_slice.ensures.len)) in
    let is_folded : c.from_vec.result ≡ folded P (mail P graph phase states) (states_after_runs P phase states) = plain_folded P graph phase states c.need-need.result c.as_slice.result.now c.as_mut_slice.result.now c.from_vec.result c.need-need.ensures is_active is_next (c.from_vec.ensures ∙ is_written ∙ c.in_ok-messages.ensures.ok_states) in
    plain_iteration P graph phase states (record { states = c.from_vec.result; active = c.len.result; messages = c.in_ok-messages.messages })
    (sym (ap (find (is_bad graph.n)) are_needed) ∙ c.in_ok-messages.ensures.ok_sound)
    is_folded
    (omega (arith, c.len.ensures, c.as_slice.ensures.len, ap (λ (xs : List Active). length xs) is_active, length-active P phase states))
    (c.in_ok-messages.ensures.ok_count ∙ ap (λ (xs : List BadEdge). length xs) are_needed)

pub returns-clause-ok_states : goal.returns-clause-ok_states
returns-clause-ok_states g c =
    let P = g.P.Program.rules c.args.program.now in
    let graph = c.args.graph.now in
    let states = c.args.states.now in
    let phase = c.args.phase in
    let is_active : c.as_slice.result.now ≡ all_active P phase states = c.as_slice.ensures.value ∙ c.in_ok-next.ensures.active in
    let is_next : c.as_mut_slice.result.now ≡ states_after_runs P phase states = c.as_mut_slice.ensures.value ∙ c.in_ok-next.ensures.states in
    let is_written = written c.in_ok-next.field-0.states.len c.deliver.new.states (drop (length c.deliver.new.states) c.in_ok-next.field-0.states.items) (sym (c.deliver.auto.states ∙ c.as_mut_slice.ensures.len)) in
    let is_folded : c.from_vec.result ≡ folded P (mail P graph phase states) (states_after_runs P phase states) = plain_folded P graph phase states c.need-need.result c.as_slice.result.now c.as_mut_slice.result.now c.from_vec.result c.need-need.ensures is_active is_next (c.from_vec.ensures ∙ is_written ∙ c.in_ok-messages.ensures.ok_states) in
    let of_states : List VState → Type 0 = λ s. AreStates graph.n s in
    subst of_states (sym (is_folded ∙ after_is P graph phase states))
    (after_are_states P graph phase states (g.met.P.Program.lawful c.args.program.now) c.requires.within c.ranges.phase.fits c.requires.are_states)

pub returns-clause-ok_active : goal.returns-clause-ok_active
returns-clause-ok_active g c =
    let P = g.P.Program.rules c.args.program.now in
    let is_active : c.as_slice.result.now ≡ all_active P c.args.phase c.args.states.now = c.as_slice.ensures.value ∙ c.in_ok-next.ensures.active in
    omega (arith, c.len.ensures, c.as_slice.ensures.len, ap (λ (xs : List Active). length xs) is_active, length-active P c.args.phase c.args.states.now, few_active P c.args.phase c.args.states.now, c.requires.are_states.state_count, c.requires.within.vertex_count)

pub returns-clause-ok_messages : goal.returns-clause-ok_messages
returns-clause-ok_messages g c =
    let P = g.P.Program.rules c.args.program.now in
    let graph = c.args.graph.now in
    let is_active : c.as_slice.result.now ≡ all_active P c.args.phase c.args.states.now = c.as_slice.ensures.value ∙ c.in_ok-next.ensures.active in
    let are_needed : edges_over c.need-need.result graph c.as_slice.result.now ≡ needed P graph c.args.phase c.args.states.now =
    cc (is_active, c.need-need.ensures, edges_are_needed P graph c.args.phase c.args.states.now) in
    omega (arith, c.in_ok-messages.ensures.ok_count, ap (λ (xs : List BadEdge). length xs) are_needed, few_needed P graph c.args.phase c.args.states.now c.requires.within c.requires.are_states.state_count)

pub returns-in_err-next-clause-few_runs : goal.returns-in_err-next-clause-few_runs
unfolding begun_at
returns-in_err-next-clause-few_runs g c =
    let P = g.P.Program.rules c.args.program.now in
    let graph = c.args.graph.now in
    let phase = c.args.phase in
    let states = c.args.states.now in
    let few = c.in_err-next.ensures.few_runs in
    record { at_least = omega (arith, few.at_least); at_most = omega (arith, few.at_most, length-active P phase states) }

pub returns-in_err-messages-clause-few_runs : goal.returns-in_err-messages-clause-few_runs
unfolding begun_at
returns-in_err-messages-clause-few_runs g c =
    let P = g.P.Program.rules c.args.program.now in
    let graph = c.args.graph.now in
    let phase = c.args.phase in
    let states = c.args.states.now in
    let few = c.in_ok-next.ensures.few_runs in
    record { at_least = omega (arith, few.at_least, c.in_err-messages.ensures.runs); at_most = omega (arith, few.at_most, c.in_err-messages.ensures.runs, length-active P phase states) }

pub returns-clause-few_runs : goal.returns-clause-few_runs
unfolding begun_at
returns-clause-few_runs g c =
    let P = g.P.Program.rules c.args.program.now in
    let graph = c.args.graph.now in
    let phase = c.args.phase in
    let states = c.args.states.now in
    let few = c.in_ok-next.ensures.few_runs in
    record { at_least = omega (arith, few.at_least, c.in_ok-messages.ensures.runs); at_most = omega (arith, few.at_most, c.in_ok-messages.ensures.runs, length-active P phase states) }

pub returns-in_err-messages-clause-few_entries : goal.returns-in_err-messages-clause-few_entries
unfolding begun_at
returns-in_err-messages-clause-few_entries g c =
    let P = g.P.Program.rules c.args.program.now in
    let graph = c.args.graph.now in
    let phase = c.args.phase in
    let states = c.args.states.now in
    let is_active : c.as_slice.result.now ≡ all_active P phase states = c.as_slice.ensures.value ∙ c.in_ok-next.ensures.active in
    let are_needed : edges_over c.need-need.result graph c.as_slice.result.now ≡ needed P graph phase states = cc (is_active, c.need-need.ensures, edges_are_needed P graph phase states) in
    let few = c.in_err-messages.ensures.few_entries in
    record {
      at_least = omega (arith, few.at_least, c.in_ok-next.ensures.entries);
      at_most = omega (arith, few.at_most, c.in_ok-next.ensures.entries, ap (λ (xs : List BadEdge). length xs) are_needed);
    }

pub returns-clause-few_entries : goal.returns-clause-few_entries
unfolding begun_at
returns-clause-few_entries g c =
    let P = g.P.Program.rules c.args.program.now in
    let graph = c.args.graph.now in
    let phase = c.args.phase in
    let states = c.args.states.now in
    let is_active : c.as_slice.result.now ≡ all_active P phase states = c.as_slice.ensures.value ∙ c.in_ok-next.ensures.active in
    let are_needed : edges_over c.need-need.result graph c.as_slice.result.now ≡ needed P graph phase states = cc (is_active, c.need-need.ensures, edges_are_needed P graph phase states) in
    let few = c.in_ok-messages.ensures.few_entries in
    record {
      at_least = omega (arith, few.at_least, c.in_ok-next.ensures.entries);
      at_most = omega (arith, few.at_most, c.in_ok-next.ensures.entries, ap (λ (xs : List BadEdge). length xs) are_needed);
    }
