use Rattle.std.proofs.Common.{◌≡◌, ◌+◌, length, take}
use Rattle.std.specs.Prelude.{All, sum_by}
use Rattle.fg_model.specs.Graph.{IsEntryOf}
use Rattle.fg_model.proofs.graph.is_side.Given as goal

abbrev pub invariant-loop-row : goal.invariant-loop-row
invariant-loop-row l = record {
  all_seen : All (λ entries. All (IsEntryOf l.weighted) entries) (take l.row-index l.rows);
  room_left : l.room + sum_by length (take l.row-index l.rows) ≡ 67108864;
}
