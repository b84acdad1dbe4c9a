-- The greatest vertex that reaches each.
use Rattle.std.specs.Prelude.{ℕ, nat_lt, max, None}
use Rattle.fg_base.specs.declared.plain.Need.TheVariants as Need
use Rattle.fg_base.specs.declared.plain.Value.TheVariants.{One}
use Rattle.fg_base.specs.declared.plain.VState.{VState}
use Rattle.fg_model.specs.Program.{Rules}

-- a state with one vertex's number folded in
abbrev pub raised : VState → ℕ → VState
raised s m = record { a = max s.a m; b = s.b; c = s.c }

-- `a` is the greatest vertex whose number reached this one, `b` the number that it last sent on. Before it sends any that is
-- 0, which would raise no other vertex, so vertex 0 may rest until it hears of a greater one
unfoldable pub greatest : Rules
greatest = record {
  need = Need.Out;
  init = λ v outs ins. record { a = v; b = 0; c = 0 };
  begin = λ phase v s. (record { a = s.a; b = s.a; c = s.c }, s.a);
  edge = λ carry dir entry. carry;
  receive = λ s m. raised s m;
  combine = λ x y. max x y;
  wake = λ phase s. nat_lt s.b s.a;
  bid = λ s. None;
  show = λ s. One s.a;
}
