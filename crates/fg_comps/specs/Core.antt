-- Core numbers.
use Rattle.std.specs.Prelude.{ℕ, ◌+◌, ◌-◌, ◌==◌, ◌&&◌, ◌^◌, nat_le, min, None, Some, if◌then◌else◌}
use Rattle.fg_base.specs.declared.plain.Need.TheVariants as Need
use Rattle.fg_base.specs.declared.plain.Value.TheVariants.{One}
use Rattle.fg_base.specs.declared.plain.VState.{VState}
use Rattle.fg_model.specs.Program.{Rules}

-- a sum that stops at 2^64 - 1
abbrev pub stopping : ℕ → ℕ → ℕ
stopping x y = min (x + y) (2 ^ 64 - 1)

-- a state with so many neighbours fewer
abbrev pub less : VState → ℕ → VState
less s m = record { a = s.a - m; b = s.b; c = s.c }

-- the same where the vertex is left; what was taken out keeps what it had
abbrev pub lessened : VState → ℕ → VState
lessened s m = if s.b == 0 then less s m else s

-- core numbers: `a` is the number of entries to vertices that are left, `b` is 0 while the vertex itself is left, and `c`
-- the phase in which it was taken out
unfoldable pub core : Rules
core = record {
  need = Need.Both;
  init = λ v outs ins. record { a = outs + ins; b = 0; c = 0 };
  begin = λ phase v s. (record { a = s.a; b = 1; c = phase }, 1);
  edge = λ carry dir entry. carry;
  receive = λ s m. lessened s m;
  combine = λ x y. stopping x y;
  wake = λ phase s. (s.b == 0) && nat_le s.a phase;
  bid = λ s. if s.b == 0 then Some s.a else None;
  show = λ s. One s.c;
}
