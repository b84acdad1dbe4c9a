use Rattle.std.proofs.Common.{◌≡◌, ℕ, ◌<◌, ◌≤◌, length, map, get_or}
use Rattle.std.specs.Prelude.{All, vec_capacity}
use Rattle.fg_crew.specs.Slots.{Has, IsFresh}
use Rattle.fg_steal.specs.Seat.{SeatValue, fresh_seat}
use Rattle.fg_crew.proofs.seating.seat_all.Given as goal

abbrev pub invariant-loop-seat : goal.invariant-loop-seat
invariant-loop-seat g l = record {
  within : length l.seats.items ≤ length l.slots;
  seats : All (λ (seat : SeatValue). seat ≡ fresh_seat l.claims seat.number) l.seats.items;
  room : vec_capacity l.seats ≡ vec_capacity l.fn.seats;
  kept : map (λ slot. slot.kept) l.slots ≡ map (λ slot. slot.kept) l.fn.slots;
  fresh : (k : ℕ) (d : _) → length l.seats.items ≤ k → k < length l.slots → Has (IsFresh l.claims) (get_or l.slots k d).desk;
}

abbrev pub decreases-loop-seat : goal.decreases-loop-seat
decreases-loop-seat g l = goal.left-loop-seat g l
