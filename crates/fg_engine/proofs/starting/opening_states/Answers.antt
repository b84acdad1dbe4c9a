use Rattle.std.proofs.Common.{◌≡◌, ℕ, ◌++◌, [], ◌∷◌, length, sym, ap, ◌∙◌, arith}
use Rattle.std.specs.List.{slice_index}
use Rattle.std.proofs.lemmas.List.Elements.{All-push, All-same}
use Rattle.std.proofs.lemmas.List.FromFn.{map-range_with_len_more, length-map-range_with_len}
use Rattle.fg_base.specs.declared.plain.VState.{VState}
use Rattle.fg_model.specs.Program.{IsInRange}
use Rattle.fg_engine.proofs.StartLaws.{opening_below, opening-on, vertices-on}
use Rattle.fg_engine.proofs.starting.opening_states.Goals as goal

pub loop-v-preserved : goal.loop-v-preserved
loop-v-preserved g c =
    let P = g.P.Program.rules c.args.program.now in
    let index = c.args.opened.now.index in
    let v = c.loop-v.v in
    let before = c.loop-v.states.items in
    let init = λ (w : ℕ). P.init w (slice_index index.outs w) (slice_index index.ins w) in
    let is : c.init.result ≡ init v = c.init.ensures ∙ ap (λ outs. P.init v outs c.degree-ins.result) c.degree-outs.ensures ∙ ap (P.init v (slice_index index.outs v)) c.degree-ins.ensures in
    let fits : IsInRange c.init.result = rw c.init.ensures ((g.met.P.Program.lawful c.args.program.now).init_fits v c.degree-outs.result c.degree-ins.result (omega (arith, c.n-v-end.type_inv)) c.degree-outs.type_inv c.degree-ins.type_inv) in
    record {
      states_so_far = c.in_ok-push.ensures.items ∙ ap (λ xs. xs ++ c.init.result ∷ []) c.loop-v.invariant.states_so_far ∙ ap (λ (s : VState). opening_below P c.args.opened.now v ++ s ∷ []) is
          ∙ sym (map-range_with_len_more init 0 v v (omega arith));
      states_fit = All-same IsInRange c.push.new.self.items (before ++ c.init.result ∷ []) c.in_ok-push.ensures.items
          (All-push IsInRange before c.init.result c.loop-v.invariant.states_fit fits);
    }

pub returns-clause-states : goal.returns-clause-states
returns-clause-states g c image =
    let P = g.P.Program.rules c.args.program.now in
    let o = c.args.opened.now in
    let end : c.loop-v.v ≡ length o.index.outs = omega (arith, c.n-v-end.ensures.outs, c.loop-v.auto.v-end) in
    c.loop-v.invariant.states_so_far ∙ ap (opening_below P o) end ∙ opening-on P o image

pub returns-clause-are_states : goal.returns-clause-are_states
returns-clause-are_states g c image =
    let o = c.args.opened.now in
    let init = λ (w : ℕ). (g.P.Program.rules c.args.program.now).init w (slice_index o.index.outs w) (slice_index o.index.ins w) in
    let end : c.loop-v.v ≡ length o.index.outs = omega (arith, c.n-v-end.ensures.outs, c.loop-v.auto.v-end) in
    record {
      state_count = ap length c.loop-v.invariant.states_so_far ∙ length-map-range_with_len init 0 c.loop-v.v ∙ end ∙ sym (vertices-on o image);
      all_fit = c.loop-v.invariant.states_fit;
    }
