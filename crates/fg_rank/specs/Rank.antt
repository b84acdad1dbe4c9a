-- The fixed-point rank.
use Rattle.std.specs.Prelude.{ℕ, ◌+◌, ◌*◌, ◌-◌, ◌/◌, ◌==◌, ◌^◌, nat_le, min, None, if◌then◌else◌}
use Rattle.fg_base.specs.declared.plain.Need.TheVariants as Need
use Rattle.fg_base.specs.declared.plain.Value.TheVariants.{Two}
use Rattle.fg_model.specs.Program.{Rules}

-- a sum that stops at 2^64 - 1
abbrev pub stopping : ℕ → ℕ → ℕ
stopping x y = min (x + y) (2 ^ 64 - 1)

-- what a vertex without in-entries has: 15 hundredths of the unit, which is 2^20
abbrev pub opening : ℕ
opening = 157286

-- what goes along each of `outs` entries: 85 hundredths of what is left, in equal parts, rounded down twice
abbrev pub share_of : ℕ → ℕ → ℕ
share_of left outs = if outs == 0 then 0 else left * 85 / 100 / outs

-- the rank of each vertex: `a` is what it has and sent on, `b` what came since, `c` the length of its out-list; what came
-- is sent on once it is `cut` or more
unfoldable pub rank : ℕ → Rules
rank cut = record {
  need = Need.Out;
  init = λ v outs ins. record { a = 0; b = opening; c = outs };
  begin = λ phase v s. (record { a = stopping s.a s.b; b = 0; c = s.c }, share_of s.b s.c);
  edge = λ carry dir entry. carry;
  receive = λ s m. record { a = s.a; b = stopping s.b m; c = s.c };
  combine = λ x y. stopping x y;
  wake = λ phase s. nat_le cut s.b;
  bid = λ s. None;
  show = λ s. Two s.a s.b;
}
