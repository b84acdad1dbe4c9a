use Rattle.std.proofs.Common.{◌≡◌, ℕ, ◌+◌, ◌-◌, List, ◌++◌, length, refl, ap, sym, ◌∙◌, arith}
use Rattle.fg_base.specs.declared.plain.Entry.{Entry}
use Rattle.fg_base.specs.declared.plain.VState.{VState}
use Rattle.fg_model.specs.Graph.{row}
use Rattle.fg_model.proofs.IterationLemmas.{row_read}
use Rattle.fg_model.proofs.PlainLemmas.{opening-end, opening-more, opening_all, opening_from}
use Rattle.fg_model.proofs.plain.open_states.Goals as goal

pub loop-v-init : goal.loop-v-init
loop-v-init g c =
    let P = g.P.Program.rules c.args.program.now in
    let graph = c.args.graph.now in
    record {
      the_end = refl;
      rest_opening = ap (λ (xs : List VState). xs ++ opening_from 0 (graph.n - 0) P graph) c.in_ok-states.ensures.items ∙ ap (λ (n : ℕ). opening_from 0 n P graph) (omega arith) ∙ opening_all P graph;
    }

pub loop-v-preserved : goal.loop-v-preserved
loop-v-preserved g c =
    let P = g.P.Program.rules c.args.program.now in
    let graph = c.args.graph.now in
    let v = c.loop-v.v in
    let is_outs : c.index-as_slice-v.result ≡ row graph.outs v =
    row_read graph.outs c.as_slice.result.now v c.index-as_slice-v.result c.index-as_slice-v.result (omega (arith, c.loop-v-test.true, c.requires.out_side.row_count)) c.as_slice.ensures c.index-as_slice-v.is refl in
    let is_ins : c.index-as_slice-v-in-loop-v.result ≡ row graph.ins v =
    row_read graph.ins c.as_slice-in-loop-v.result.now v c.index-as_slice-v-in-loop-v.result c.index-as_slice-v-in-loop-v.result (omega (arith, c.loop-v-test.true, c.requires.in_side.row_count)) c.as_slice-in-loop-v.ensures c.index-as_slice-v-in-loop-v.is refl in
    let outs_length = c.len-outs.ensures ∙ ap (λ (xs : List Entry). length xs) is_outs in
    let ins_length = c.len-ins.ensures ∙ ap (λ (xs : List Entry). length xs) is_ins in
    let is_opening : c.init.result ≡ P.init v (length (row graph.outs v)) (length (row graph.ins v)) =
    c.init.ensures ∙ ap (λ (outs : ℕ). P.init v outs c.len-ins.result) outs_length ∙ ap (P.init v (length (row graph.outs v))) ins_length in
    record {
      the_end = refl;
      rest_opening = ap (λ (xs : List VState). xs ++ opening_from (v + 1) (graph.n - (v + 1)) P graph) c.in_ok-push.ensures.items
          ∙ sym (opening-more P graph v (graph.n - v) (graph.n - (v + 1)) c.loop-v.states.items c.init.result (omega (arith, c.loop-v-test.true)) is_opening) ∙ c.loop-v.invariant.rest_opening;
    }

pub returns : goal.returns
returns g c =
    let P = g.P.Program.rules c.args.program.now in
    let graph = c.args.graph.now in
    sym (opening-end P graph c.loop-v.v (graph.n - c.loop-v.v) c.loop-v.states.items (omega (arith, c.loop-v-test.false))) ∙ c.loop-v.invariant.rest_opening
