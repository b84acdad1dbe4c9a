use Rattle.std.proofs.Common.{◌≡◌, ◌-◌, map, vec_len, []}
use Rattle.std.specs.List.{All, range_with_len}
use Rattle.fg_steal.specs.Seat.{fresh_seat}
use Rattle.fg_steal.specs.Once.{view_of}
use Rattle.fg_steal.proofs.claims.Claims.seat_all.Given as goal

abbrev pub invariant-loop-number : goal.invariant-loop-number
invariant-loop-number l = record {
  count : vec_len l.seats ≡ l.number;
  fresh : All (λ seat. seat ≡ fresh_seat l.self seat.number) l.seats.items;
  numbers : map (λ seat. seat.number) l.seats.items ≡ range_with_len 0 l.number;
  table : l.place.table_id ≡ l.self.table;
  left : l.place.me ≡ (view_of l.self.counts l.self.seats (l.self.seats - l.number) [] [], []);
}
