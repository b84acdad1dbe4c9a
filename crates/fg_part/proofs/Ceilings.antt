-- A number is below a quotient rounded up exactly where its product is below what was divided.
use Rattle.std.proofs.Common.{ℕ, ◌*◌, ◌<◌, ◌≤◌, suc, lt_of_not-le, arith}
use Rattle.std.proofs.Math.Nat.{mul-le-mul_right, suc-mul}
use Rattle.std.proofs.lemmas.Grind.{div_ceil_times}
use Rattle.std.specs.Int.{div_ceil}

pub product_below : (x a b : ℕ) → 0 < b → x < div_ceil a b → x * b < a
product_below x a b pos below =
    let ends = div_ceil_times a b pos in
    let steps : suc x * b ≤ div_ceil a b * b = mul-le-mul_right b below in
    omega (arith, suc-mul x b)

pub below_ceiling : (x a b : ℕ) → 0 < b → x * b < a → x < div_ceil a b
below_ceiling x a b pos less =
    let ends = div_ceil_times a b pos in
    lt_of_not-le (λ over. let steps : div_ceil a b * b ≤ x * b = mul-le-mul_right b over in omega arith)
