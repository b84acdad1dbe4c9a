-- Weakly connected components.
use Rattle.std.specs.Prelude.{ℕ, ◌-◌, ◌^◌, nat_lt, min, None}
use Rattle.fg_base.specs.declared.plain.Need.TheVariants as Need
use Rattle.fg_base.specs.declared.plain.Value.TheVariants.{One}
use Rattle.fg_base.specs.declared.plain.VState.{VState}
use Rattle.fg_model.specs.Program.{Rules}

-- the number that stands for no vertex
abbrev pub none : ℕ
none = 2 ^ 64 - 1

-- a state with one vertex's number folded in
abbrev pub lowered : VState → ℕ → VState
lowered s m = record { a = min s.a m; b = s.b; c = s.c }

-- components: `a` is the least vertex whose number reached this one, `b` the number that it last sent on
unfoldable pub wcc : Rules
wcc = record {
  need = Need.Both;
  init = λ v outs ins. record { a = v; b = none; c = 0 };
  begin = λ phase v s. (record { a = s.a; b = s.a; c = s.c }, s.a);
  edge = λ carry dir entry. carry;
  receive = λ s m. lowered s m;
  combine = λ x y. min x y;
  wake = λ phase s. nat_lt s.a s.b;
  bid = λ s. None;
  show = λ s. One s.a;
}
