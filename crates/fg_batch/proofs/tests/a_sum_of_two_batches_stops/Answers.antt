use Rattle.std.proofs.Common.{◌≡◌, ℕ, ◌/◌, ◌%◌, ◌^◌, zero, suc, [], ◌∷◌, ap₂, arith}
use Rattle.std.specs.Prelude.{All}
use Rattle.fg_batch.specs.Lanes.{IsFor}
use Rattle.fg_part.specs.declared.part_map.PartMap.{PartMap}
use Rattle.fg_batch.proofs.tests.a_sum_of_two_batches_stops.Goals as goal

to_three : (map : PartMap) → map.n ≡ 4 → map.shift ≡ 0 → map.parts ≡ 2 → (message : ℕ) → All (IsFor map 1) (record { target = 3; message = message } ∷ [])
to_three map four single two message zero d below =
    record { vertex = omega (arith, four); own = ap₂ (λ (shift parts : ℕ). 3 / 2 ^ shift % parts) single two }
to_three map four single two message (suc k) d below = absurd (omega (arith, below))

pub deliver-requires : goal.deliver-requires
deliver-requires g c =
    let is = c.new-map.ensures in
    rw (c.in_ok-inbox.ensures.map, c.in_ok-inbox.ensures.part, c.in_ok-batch_of.ensures) (to_three c.new-map.result is.0 is.1 is.2 _)
