-- `core` is a lawful program.
use Rattle.std.proofs.Common.{◌≡◌, ℕ, ◌-◌, ◌<◌, ◌^◌, Bool, true, false, refl, sym, ap, ◌∙◌, arith, lit<}
use Rattle.std.specs.Prelude.{Some, None, IfSome, ◌==◌, if◌then◌else◌}
use Rattle.fg_base.specs.declared.plain.VState.{VState}
use Rattle.fg_model.specs.Program.{IsInRange, IsLawful}
use Rattle.fg_comps.specs.Core.{core, less, lessened, stopping}

pub lessened-left : (s : VState) (m : ℕ) → (s.b == 0) ≡ true → lessened s m ≡ less s m
lessened-left s m is = rw is refl

pub lessened-gone : (s : VState) (m : ℕ) → (s.b == 0) ≡ false → lessened s m ≡ s
lessened-gone s m is = rw is refl

twice-left : (s : VState) (x y : ℕ) → (s.b == 0) ≡ true → lessened (lessened s x) y ≡ less (less s x) y
twice-left s x y is = ap (λ (t : VState). lessened t y) (lessened-left s x is) ∙ lessened-left (less s x) y is

twice-gone : (s : VState) (x y : ℕ) → (s.b == 0) ≡ false → lessened (lessened s x) y ≡ s
twice-gone s x y is = ap (λ (t : VState). lessened t y) (lessened-gone s x is) ∙ lessened-gone s y is

less-swap : (s : VState) (x y : ℕ) → less (less s x) y ≡ less (less s y) x
less-swap s x y = let e : s.a - x - y ≡ s.a - y - x = omega arith in ap (λ (a : ℕ). let t : VState = record { a = a; b = s.b; c = s.c } in t) e

less-join : (s : VState) (x y : ℕ) → s.a < 2 ^ 64 → less (less s x) y ≡ less s (stopping x y)
less-join s x y fits = let e : s.a - x - y ≡ s.a - stopping x y = omega arith in ap (λ (a : ℕ). let t : VState = record { a = a; b = s.b; c = s.c } in t) e

-- in either order, and as one, by whether the vertex is left
order_by : (b : Bool) (s : VState) (x y : ℕ) → (s.b == 0) ≡ b → lessened (lessened s x) y ≡ lessened (lessened s y) x
order_by true s x y is = twice-left s x y is ∙ less-swap s x y ∙ sym (twice-left s y x is)
order_by false s x y is = twice-gone s x y is ∙ sym (twice-gone s y x is)

joins_by : (b : Bool) (s : VState) (x y : ℕ) → s.a < 2 ^ 64 → (s.b == 0) ≡ b → lessened (lessened s x) y ≡ lessened s (stopping x y)
joins_by true s x y fits is = twice-left s x y is ∙ less-join s x y fits ∙ sym (lessened-left s (stopping x y) is)
joins_by false s x y fits is = twice-gone s x y is ∙ sym (lessened-gone s (stopping x y) is)

receive_by : (b : Bool) (s : VState) (m : ℕ) → IsInRange s → IsInRange (if b then less s m else s)
receive_by true s m fits = record { a_fits = omega (arith, fits.a_fits); b_fits = fits.b_fits; c_fits = fits.c_fits }
receive_by false s m fits = fits

bid_by : (b : Bool) (a : ℕ) → a < 2 ^ 64 → IfSome (if b then Some a else None) (λ phase. phase < 2 ^ 64)
bid_by true a fits = fits
bid_by false a fits = tt

pub core_is_lawful : IsLawful core
unfolding core
core_is_lawful = record {
  order = λ s x y s_fits x_fits y_fits. order_by (s.b == 0) s x y refl;
  joins = λ s x y s_fits x_fits y_fits. joins_by (s.b == 0) s x y s_fits.a_fits refl;
  init_fits = λ v outs ins v_fits outs_fits ins_fits. record { a_fits = omega arith; b_fits = lit< tt; c_fits = lit< tt };
  begin_fits = λ phase v s phase_fits v_fits s_fits awake. record { a_fits = s_fits.a_fits; b_fits = lit< tt; c_fits = phase_fits };
  carry_fits = λ phase v s phase_fits v_fits s_fits awake. lit< tt;
  edge_fits = λ carry dir entry carry_fits target_fits weight_fits. carry_fits;
  receive_fits = λ s m s_fits m_fits. receive_by (s.b == 0) s m s_fits;
  combine_fits = λ x y x_fits y_fits. omega arith;
  bid_fits = λ s s_fits. bid_by (s.b == 0) s.a s_fits.a_fits;
  show_fits = λ s s_fits. s_fits.c_fits;
}
