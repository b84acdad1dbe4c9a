use Rattle.std.proofs.Common.{◌≡◌, ℕ, ◌^◌, ap, ap₂, ◌∙◌, arith}
use Rattle.std.specs.Int.{div_ceil}
use Rattle.fg_part.specs.declared.part_map.PartMap.{PartMap}
use Rattle.fg_part.specs.PartMap.{block_total}
use Rattle.fg_wave.proofs.tests.gathered.Goals as goal

-- blocks of one vertex are as many as the vertices
total-is : (map given : PartMap) → map ≡ given → given.n ≡ 12 → given.shift ≡ 0 → block_total map ≡ 12
total-is map given same vertices small = ap block_total same ∙ ap₂ (λ (n s : ℕ). div_ceil n (2 ^ s)) vertices small

pub mark_all-requires-clause-marks : goal.mark_all-requires-clause-marks
mark_all-requires-clause-marks g c κs within =
    let total = total-is c.map-map.result c.args.inboxes.now.map c.map-map.ensures c.requires.map.0 c.requires.map.1 in
    omega (arith, total, c.in_ok-marks.ensures.len, c.deref_mut.ensures.len)
