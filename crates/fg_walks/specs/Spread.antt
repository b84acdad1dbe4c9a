-- Numbers that spread from a source along out-entries, each entry adding its cost: levels and least weights are such.
use Rattle.std.specs.Prelude.{ℕ, ◌+◌, ◌-◌, ◌==◌, ◌^◌, nat_lt, min, None, if◌then◌else◌}
use Rattle.fg_base.specs.declared.plain.Entry.{Entry}
use Rattle.fg_base.specs.declared.plain.Need.TheVariants as Need
use Rattle.fg_base.specs.declared.plain.Value.{Value}
use Rattle.fg_base.specs.declared.plain.Value.TheVariants.{Absent, One}
use Rattle.fg_model.specs.Program.{Rules}

-- the number that stands for none, and at which a sum stops
abbrev pub none : ℕ
none = 2 ^ 64 - 1

-- the printed value of a number
abbrev pub number_shown : ℕ → Value
number_shown number = if number == none then Absent else One number

-- from `source`: `a` is the least number that reached the vertex, `b` the number that it last sent on, with the cost of the entry
abbrev pub spread : (Entry → ℕ) → ℕ → Rules
spread cost source = record {
  need = Need.Out;
  init = λ v outs ins. record { a = (if v == source then 0 else none); b = none; c = 0 };
  begin = λ phase v s. (record { a = s.a; b = s.a; c = s.c }, s.a);
  edge = λ carry dir entry. min (carry + cost entry) none;
  receive = λ s m. record { a = min s.a m; b = s.b; c = s.c };
  combine = λ x y. min x y;
  wake = λ phase s. nat_lt s.a s.b;
  bid = λ s. None;
  show = λ s. number_shown s.a;
}
