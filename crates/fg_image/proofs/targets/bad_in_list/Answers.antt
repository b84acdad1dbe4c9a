use Rattle.std.proofs.Common.{◌≡◌, ℕ, ◌<◌, ◌≤◌, length, get_or, ap, sym, ◌∙◌, arith}
use Rattle.std.specs.Prelude.{Some, find}
use Rattle.fg_base.specs.declared.plain.Entry.{Entry}
use Rattle.fg_image.specs.Lists.{entries_at}
use Rattle.fg_image.proofs.TargetLaws.{edge_at, edge_of, entry-read, first-bad, none-more}
use Rattle.fg_index.specs.ImageIndex.{degrees_in, entry_bytes}
use Rattle.fg_model.specs.Iteration.{is_bad}
use Rattle.fg_model.specs.VertexRun.{edges_from}
use Rattle.fg_image.proofs.targets.bad_in_list.Goals as goal

pub returns-then-n-entry : goal.returns-then-n-entry
returns-then-n-entry c =
    let index = c.args.index.now in
    let w = index.weighted in
    let image = c.args.image.now in
    let v = c.args.v in
    let dir = c.args.dir in
    let begin = c.args.begin in
    let n = length index.outs in
    let i = c.loop-place.place in
    let degree = get_or (degrees_in index dir) v 0 in
    let entry = c.entry_at-entry.result in
    let size = c.entry_bytes-size.ensures.size ∙ ap entry_bytes c.weighted.ensures in
    let is = entry-read w c.weighted-in-loop-place.result image begin i c.entry_bytes-size.result entry c.entry_at-entry.ensures c.weighted-in-loop-place.ensures size in
    let target : entry.target ≡ (edge_at w image begin n v dir i).found = ap (λ (e : Entry). e.target) is in
    let past : n ≤ (edge_at w image begin n v dir i).found = omega (arith, target, c.if-n-entry.true, c.n-n.ensures.outs) in
    let below : i < degree = omega (arith, c.loop-place-test.true, c.degree-place-end.ensures) in
    ap (λ (e : Entry). Some (edge_of v dir i e)) is
    ∙ sym (first-bad w image begin n v dir i degree below c.loop-place.invariant past)
    ∙ ap (λ (at : ℕ). find (is_bad n) (edges_from v dir 0 (entries_at w image at degree))) c.requires.begin

pub loop-place-preserved : goal.loop-place-preserved
loop-place-preserved c =
    let index = c.args.index.now in
    let w = index.weighted in
    let image = c.args.image.now in
    let begin = c.args.begin in
    let n = length index.outs in
    let i = c.loop-place.place in
    let entry = c.entry_at-entry.result in
    let size = c.entry_bytes-size.ensures.size ∙ ap entry_bytes c.weighted.ensures in
    let is = entry-read w c.weighted-in-loop-place.result image begin i c.entry_bytes-size.result entry c.entry_at-entry.ensures c.weighted-in-loop-place.ensures size in
    let target : entry.target ≡ (edge_at w image begin n c.args.v c.args.dir i).found = ap (λ (e : Entry). e.target) is in
    none-more w image begin n c.args.v c.args.dir i c.loop-place.invariant (omega (arith, target, c.if-n-entry.false, c.n-n.ensures.outs))
