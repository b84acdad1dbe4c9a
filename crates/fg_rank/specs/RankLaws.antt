-- `rank` is a lawful program.
use Rattle.std.proofs.Common.{◌≡◌, ℕ, ◌*◌, ◌<◌, ◌≤◌, ◌^◌, Bool, true, false, ap, arith, lit<}
use Rattle.std.proofs.Math.Nat.{div-le_self}
use Rattle.std.specs.Prelude.{◌/◌, ◌==◌, if◌then◌else◌}
use Rattle.fg_base.specs.declared.plain.VState.{VState}
use Rattle.fg_model.specs.Program.{IsLawful}
use Rattle.fg_rank.specs.Rank.{rank, share_of, stopping}

-- two sums that stop, in either order
stopping-swap : (b x y : ℕ) → stopping (stopping b x) y ≡ stopping (stopping b y) x
stopping-swap b x y = omega arith

-- two sums that stop, one by one or the last two at first
stopping-join : (b x y : ℕ) → stopping (stopping b x) y ≡ stopping b (stopping x y)
stopping-join b x y = omega arith

stopping-fits : (x y : ℕ) → stopping x y < 2 ^ 64
stopping-fits x y = omega arith

part-fits : (b : Bool) (left outs : ℕ) → left < 2 ^ 64 → (if b then 0 else left * 85 / 100 / outs) < 2 ^ 64
part-fits true left outs fits = lit< tt
part-fits false left outs fits = let least : left * 85 / 100 / outs ≤ left * 85 / 100 = div-le_self (left * 85 / 100) outs in omega arith

share-fits : (left outs : ℕ) → left < 2 ^ 64 → share_of left outs < 2 ^ 64
share-fits left outs fits = part-fits (outs == 0) left outs fits

pub rank_is_lawful : (cut : ℕ) → IsLawful (rank cut)
unfolding rank
rank_is_lawful cut = record {
  order = λ s x y s_fits x_fits y_fits. ap (λ (b : ℕ). let t : VState = record { a = s.a; b = b; c = s.c } in t) (stopping-swap s.b x y);
  joins = λ s x y s_fits x_fits y_fits. ap (λ (b : ℕ). let t : VState = record { a = s.a; b = b; c = s.c } in t) (stopping-join s.b x y);
  init_fits = λ v outs ins v_fits outs_fits ins_fits. record { a_fits = lit< tt; b_fits = lit< tt; c_fits = omega arith };
  begin_fits = λ phase v s phase_fits v_fits s_fits awake. record { a_fits = stopping-fits s.a s.b; b_fits = lit< tt; c_fits = s_fits.c_fits };
  carry_fits = λ phase v s phase_fits v_fits s_fits awake. share-fits s.b s.c s_fits.b_fits;
  edge_fits = λ carry dir entry carry_fits target_fits weight_fits. carry_fits;
  receive_fits = λ s m s_fits m_fits. record { a_fits = s_fits.a_fits; b_fits = stopping-fits s.b m; c_fits = s_fits.c_fits };
  combine_fits = λ x y x_fits y_fits. stopping-fits x y;
  bid_fits = λ s s_fits. tt;
  show_fits = λ s s_fits. (s_fits.a_fits, s_fits.b_fits);
}
