use Rattle.std.proofs.Common.{◌≡◌, ◌+◌, List, [], length, drop, get_or, ap, subst, ◌∙◌, arith}
use Rattle.std.specs.Prelude.{All, sum_by}
use Rattle.std.proofs.lemmas.List.{drop_more, get_or_read}
use Rattle.std.proofs.lemmas.List.Elements.{All-more}
use Rattle.std.proofs.lemmas.List.Sums.{sum_by-cons, sum_by-take-drop}
use Rattle.fg_base.specs.declared.plain.Entry.{Entry}
use Rattle.fg_model.specs.Graph.{IsEntryOf}
use Rattle.fg_model.proofs.graph.is_side.Goals as goal

pub loop-row-preserved : goal.loop-row-preserved
loop-row-preserved c =
    let rows = c.args.rows.now in
    let i = c.loop-row.row-index in
    let entries = c.as_slice-entries.result.now in
    let is_row : entries ≡ get_or rows i [] = c.as_slice-entries.ensures ∙ get_or_read rows i c.row-item.result c.loop-row-test.true c.row-item.is [] in
    let of_row : List Entry → Type 0 = λ xs. All (IsEntryOf c.args.weighted) xs in
    let here : All (IsEntryOf c.args.weighted) entries = c.are_entries.ensures.0 (cc (c.if-not-are_entries.false)) in
    let size = λ (xs : List Entry). length xs in
    record {
      all_seen = All-more of_row rows i [] c.loop-row-test.true c.loop-row.invariant.all_seen (subst of_row is_row here);
      room_left = omega (arith, c.loop-row.invariant.room_left, c.if-entries-room.false, ap size is_row, sum_by-take-drop size rows i, sum_by-take-drop size rows (i + 1), ap (sum_by size) (drop_more rows i [] c.loop-row-test.true), sum_by-cons size (get_or rows i []) (drop (i + 1) rows));
    }
