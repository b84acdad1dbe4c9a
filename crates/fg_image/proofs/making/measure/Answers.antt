use Rattle.std.proofs.Common.{ℕ, List, length, sum, ap, ◌∙◌, arith}
use Rattle.fg_image.proofs.MakingLaws.{counted_of, header_told, sized}
use Rattle.fg_image.specs.Making.{index_bytes}
use Rattle.fg_image.proofs.making.measure.Goals as goal

pub index_len-index_bytes-requires-clause-few_vertices : goal.index_len-index_bytes-requires-clause-few_vertices
index_len-index_bytes-requires-clause-few_vertices c =
    let are = c.n-n.ensures.within in
    let size = sized _ are _ _ (counted_of _ are _ _ _ _ c.n-n.ensures.n c.pairs-pairs.ensures.pairs c.in_ok-outs.ensures c.in_ok-ins.ensures) in
    omega (arith, ap length c.deref.ensures.value, size.each_out, are.vertex_count)

pub index_len-index_bytes-requires-clause-few_outs : goal.index_len-index_bytes-requires-clause-few_outs
index_len-index_bytes-requires-clause-few_outs c =
    let are = c.n-n.ensures.within in
    let size = sized _ are _ _ (counted_of _ are _ _ _ _ c.n-n.ensures.n c.pairs-pairs.ensures.pairs c.in_ok-outs.ensures c.in_ok-ins.ensures) in
    omega (arith, ap sum c.deref.ensures.value, size.sum_outs, are.pair_count)

pub index_len-index_bytes-requires-clause-few_ins : goal.index_len-index_bytes-requires-clause-few_ins
index_len-index_bytes-requires-clause-few_ins c =
    let are = c.n-n.ensures.within in
    let size = sized _ are _ _ (counted_of _ are _ _ _ _ c.n-n.ensures.n c.pairs-pairs.ensures.pairs c.in_ok-outs.ensures c.in_ok-ins.ensures) in
    omega (arith, ap sum c.deref-2.ensures.value, size.sum_ins, are.pair_count)

pub returns-clause-header : goal.returns-clause-header
returns-clause-header c =
    let are = c.n-n.ensures.within in
    let outs = c.in_ok-outs.outs.items in
    let ins = c.in_ok-ins.ins.items in
    let counted = counted_of _ are _ _ outs ins c.n-n.ensures.n c.pairs-pairs.ensures.pairs c.in_ok-outs.ensures c.in_ok-ins.ensures in
    let index =
    c.index_len-index_bytes.ensures.len
    ∙ ap (λ (l : List ℕ). length (index_bytes l c.deref-2.result.now)) c.deref.ensures.value
    ∙ ap (λ (l : List ℕ). length (index_bytes outs l)) c.deref-2.ensures.value in
    c.with-header.ensures
    ∙ header_told c.args.edges.now are c.is_weighted.result c.n-n.result (length c.pairs-pairs.result.now) c.index_len-index_bytes.result outs ins counted
    c.is_weighted.ensures.weighted c.n-n.ensures.n (ap length c.pairs-pairs.ensures.pairs) index
