-- Programs whose numbers spread are lawful.
use Rattle.std.proofs.Common.{◌≡◌, ℕ, ◌<◌, ◌^◌, Bool, true, false, min, ap, arith, lit<}
use Rattle.std.specs.Prelude.{◌==◌, if◌then◌else◌}
use Rattle.fg_base.specs.declared.plain.Entry.{Entry}
use Rattle.fg_base.specs.declared.plain.Value.TheVariants.{Absent, One}
use Rattle.fg_base.specs.declared.plain.VState.{VState}
use Rattle.fg_model.specs.Program.{IsShownInRange, IsLawful}
use Rattle.fg_walks.specs.Bfs.{bfs}
use Rattle.fg_walks.specs.LeastWalks.{least_walks}
use Rattle.fg_walks.specs.Spread.{none, spread}
use Rattle.fg_walks.specs.Sssp.{sssp}

-- the lesser of three, in either order
min-swap : (a x y : ℕ) → min (min a x) y ≡ min (min a y) x
min-swap a x y = omega arith

-- the lesser of three, one by one or two at first
min-join : (a x y : ℕ) → min (min a x) y ≡ min a (min x y)
min-join a x y = omega arith

opening-fits : (b : Bool) → (if b then 0 else none) < 2 ^ 64
opening-fits true = lit< tt
opening-fits false = lit< tt

shown-fits : (b : Bool) (level : ℕ) → level < 2 ^ 64 → IsShownInRange (if b then Absent else One level)
shown-fits true level fits = tt
shown-fits false level fits = fits

spread_is_lawful : (cost : Entry → ℕ) (source : ℕ) → IsLawful (spread cost source)
spread_is_lawful cost source = record {
  order = λ s x y s_fits x_fits y_fits. ap (λ (a : ℕ). let t : VState = record { a = a; b = s.b; c = s.c } in t) (min-swap s.a x y);
  joins = λ s x y s_fits x_fits y_fits. ap (λ (a : ℕ). let t : VState = record { a = a; b = s.b; c = s.c } in t) (min-join s.a x y);
  init_fits = λ v outs ins v_fits outs_fits ins_fits. record { a_fits = opening-fits (v == source); b_fits = lit< tt; c_fits = lit< tt };
  begin_fits = λ phase v s phase_fits v_fits s_fits awake. record { a_fits = s_fits.a_fits; b_fits = s_fits.a_fits; c_fits = s_fits.c_fits };
  carry_fits = λ phase v s phase_fits v_fits s_fits awake. s_fits.a_fits;
  edge_fits = λ carry dir entry carry_fits target_fits weight_fits. omega arith;
  receive_fits = λ s m s_fits m_fits. record { a_fits = omega arith; b_fits = s_fits.b_fits; c_fits = s_fits.c_fits };
  combine_fits = λ x y x_fits y_fits. omega arith;
  bid_fits = λ s s_fits. tt;
  show_fits = λ s s_fits. shown-fits (s.a == none) s.a s_fits.a_fits;
}

pub bfs_is_lawful : (source : ℕ) → IsLawful (bfs source)
unfolding bfs
bfs_is_lawful = spread_is_lawful (λ entry. 1)

pub sssp_is_lawful : (source : ℕ) → IsLawful (sssp source)
unfolding sssp
sssp_is_lawful = spread_is_lawful (λ entry. entry.weight)

pub least_walks_are_lawful : (weighted : Bool) (source : ℕ) → IsLawful (least_walks weighted source)
least_walks_are_lawful false source = bfs_is_lawful source
least_walks_are_lawful true source = sssp_is_lawful source
