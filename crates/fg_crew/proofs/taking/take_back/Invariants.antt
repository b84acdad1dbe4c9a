use Rattle.std.proofs.Common.{◌≡◌, ℕ, ◌+◌, ◌<◌, ◌≤◌, ◌++◌, length, map, take, get_or}
use Rattle.std.specs.Prelude.{All, IfErr, OnOk, vec_capacity, vec_len}
use Rattle.std.specs.List.{flat_map}
use Rattle.fg_task.specs.Blocks.{HasCause}
use Rattle.fg_crew.specs.Slots.{HasEndedWell, results_at, seat_at}
use Rattle.fg_crew.proofs.taking.take_back.Given as goal

abbrev pub invariant-loop-k : goal.invariant-loop-k
invariant-loop-k g l = record {
  the_end : l.k-end ≡ length l.fn.slots;
  count : length l.slots ≡ length l.fn.slots;
  kept : map (λ slot. slot.kept) l.slots ≡ map (λ slot. slot.kept) l.fn.slots;
  rest : (j : ℕ) (d : _) → l.k ≤ j → j < length l.slots → get_or l.slots j d ≡ get_or l.fn.slots j d;
  room : (vec_len l.seats ≤ vec_len l.fn.seats + l.k) × (vec_capacity l.seats ≡ vec_capacity l.fn.seats);
  seats : l.seats.items ≡ l.fn.seats.items ++ flat_map seat_at (take l.k l.fn.slots);
  ended : OnOk l.taken (All HasEndedWell (take l.k l.fn.slots));
  results : OnOk l.taken (l.results.items ≡ l.fn.results.items ++ flat_map results_at (take l.k l.fn.slots));
  fault : IfErr l.taken (HasCause (g.B.RunsBlock.caused l.runner));
}
