-- `greatest` is a lawful program.
use Rattle.std.proofs.Common.{◌≡◌, ℕ, max, ap, arith, lit<}
use Rattle.fg_base.specs.declared.plain.VState.{VState}
use Rattle.fg_model.specs.Program.{IsLawful}
use Rattle.fg_greatest.specs.Greatest.{greatest}

-- the greatest of three, in either order
max-swap : (a x y : ℕ) → max (max a x) y ≡ max (max a y) x
max-swap a x y = omega arith

-- the greatest of three, one by one or two at first
max-join : (a x y : ℕ) → max (max a x) y ≡ max a (max x y)
max-join a x y = omega arith

-- a state with another first number
with_first : VState → ℕ → VState
with_first s a = record { a = a; b = s.b; c = s.c }

pub greatest_is_lawful : IsLawful greatest
unfolding greatest with_first
greatest_is_lawful = record {
  order = λ s x y s_fits x_fits y_fits. ap (with_first s) (max-swap s.a x y);
  joins = λ s x y s_fits x_fits y_fits. ap (with_first s) (max-join s.a x y);
  init_fits = λ v outs ins v_fits outs_fits ins_fits. record { a_fits = omega arith; b_fits = lit< tt; c_fits = lit< tt };
  begin_fits = λ phase v s phase_fits v_fits s_fits awake. record { a_fits = s_fits.a_fits; b_fits = s_fits.a_fits; c_fits = s_fits.c_fits };
  carry_fits = λ phase v s phase_fits v_fits s_fits awake. s_fits.a_fits;
  edge_fits = λ carry dir entry carry_fits target_fits weight_fits. carry_fits;
  receive_fits = λ s m s_fits m_fits. record { a_fits = omega (arith, s_fits.a_fits); b_fits = s_fits.b_fits; c_fits = s_fits.c_fits };
  combine_fits = λ x y x_fits y_fits. omega arith;
  bid_fits = λ s s_fits. tt;
  show_fits = λ s s_fits. s_fits.a_fits;
}
