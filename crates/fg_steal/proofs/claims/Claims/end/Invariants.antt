use Rattle.std.proofs.Common.{◌≡◌, ℕ, ◌+◌, ◌<◌, [], ◌++◌, length, map, vec_len}
use Rattle.std.specs.List.{All, Contains, flat_map}
use Rattle.fg_steal.specs.Run.{run_lengths, block_at}
use Rattle.fg_steal.proofs.claims.Claims.end.Given as goal

abbrev pub invariant-loop-seat : goal.invariant-loop-seat
invariant-loop-seat l = record {
  table : l.place.table_id ≡ l.fn.self.table;
  plan : (l.place.me.0.counts ≡ l.fn.self.counts) × (l.place.me.0.seats ≡ l.fn.self.seats);
  stands : l.place.me.0.stands_for + vec_len l.seats ≡ l.fn.self.seats;
  some_seat : 0 < l.place.me.0.stands_for;
  holds_nothing : l.place.me.1 ≡ [];
  drawn : flat_map (λ seat. seat.drawn) l.seats.items ++ map (block_at l.fn.self.counts) l.place.me.0.drawn ≡ flat_map (λ seat. seat.drawn) l.fn.seats.items;
  told : All (λ seat. (part : ℕ) → part < length l.fn.self.counts → Contains seat.told part) l.fn.seats.items → (run : ℕ) → run < length (run_lengths l.fn.self.counts) → Contains l.place.me.0.spent run;
  own : All (λ seat. seat.claims ≡ l.fn.self) l.seats.items;
}

abbrev pub decreases-loop-seat : goal.decreases-loop-seat
decreases-loop-seat l = goal.left-loop-seat l
