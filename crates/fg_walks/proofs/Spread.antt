-- Numbers that spread from a source along out-entries, each entry adding its cost: levels and least weights are such.
use Rattle.std.proofs.Common.{◌≡◌, ℕ, Bool, true, false, refl}
use Rattle.std.specs.Prelude.{nat_lt}
use Rattle.fg_base.specs.declared.plain.Entry.{Entry}
use Rattle.fg_base.specs.declared.plain.VState.{VState}
use Rattle.fg_model.specs.Iteration.{own_state}
use Rattle.fg_walks.specs.Bfs.{bfs}
use Rattle.fg_walks.specs.LeastWalks.{cost_by, least_walks}
use Rattle.fg_walks.specs.Spread.{spread}
use Rattle.fg_walks.specs.Sssp.{sssp}

pub least_walks_spread : (weighted : Bool) (source : ℕ) → least_walks weighted source ≡ spread (cost_by weighted) source
unfolding bfs sssp
least_walks_spread true source = refl
least_walks_spread false source = refl

-- a vertex's own state
pub own_number : (cost : Entry → ℕ) (source phase v : ℕ) (s : VState) (awake : Bool) → nat_lt s.a s.b ≡ awake → (own_state (spread cost source) phase v s).a ≡ s.a
own_number cost source phase v s true is = rw is refl
own_number cost source phase v s false is = rw is refl

pub own_sent : (cost : Entry → ℕ) (source phase v : ℕ) (s : VState) → nat_lt s.a s.b ≡ true → (own_state (spread cost source) phase v s).b ≡ s.a
own_sent cost source phase v s is = rw is refl

pub own_resting : (cost : Entry → ℕ) (source phase v : ℕ) (s : VState) → nat_lt s.a s.b ≡ false → (own_state (spread cost source) phase v s).b ≡ s.b
own_resting cost source phase v s is = rw is refl
