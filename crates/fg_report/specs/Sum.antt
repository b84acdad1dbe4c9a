-- The sum of the values of all vertices.
use Rattle.std.specs.Prelude.{ℕ, List, ◌++◌, codes, decimal, sum_by}
use Rattle.fg_base.specs.declared.plain.Value.{Value}
use Rattle.fg_base.specs.declared.plain.Value.TheVariants.{Absent, One, Two}
use Rattle.fg_base.specs.declared.plain.VState.{VState}

-- what a value adds to the sum: its first number, or nothing where it has none
abbrev pub value_number : Value → ℕ
value_number Absent = 0
value_number (One x) = x
value_number (Two x y) = x

-- the sum of the values
abbrev pub values_sum : (VState → Value) → List VState → ℕ
values_sum show states = sum_by (λ state. value_number (show state)) states

-- the line of the sum, with its end
abbrev pub sum_line : (VState → Value) → List VState → List ℕ
sum_line show states = codes "sum " ++ decimal (values_sum show states) ++ codes "\n"
