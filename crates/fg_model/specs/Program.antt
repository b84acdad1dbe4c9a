-- A vertex program as nine functions on whole numbers.
use Rattle.std.specs.Prelude.{◌≡◌, ℕ, ◌<◌, ◌^◌, Bool, true, Option, IfSome}
use Rattle.fg_base.specs.declared.plain.Dir.{Dir}
use Rattle.fg_base.specs.declared.plain.Entry.{Entry}
use Rattle.fg_base.specs.declared.plain.Need.{Need}
use Rattle.fg_base.specs.declared.plain.Value.{Value}
use Rattle.fg_base.specs.declared.plain.Value.TheVariants.{Absent, One, Two}
use Rattle.fg_base.specs.declared.plain.VState.{VState}

-- what a program does: `need` are the lists that a run goes over; `init v outs ins` is the opening state from the two
-- degrees; `begin phase v s` is the vertex's own new state and the carry; `edge carry dir entry` is the message to the
-- entry's target; `receive s m` folds one message in; `combine x y` is one message in place of two; `wake phase s` says
-- whether the vertex is active; `bid s` is the phase that the vertex waits for; `show s` is what is printed of it
pub record Rules : Type 0 where
  pub need : Need
  pub init : ℕ → ℕ → ℕ → VState
  pub begin : ℕ → ℕ → VState → VState × ℕ
  pub edge : ℕ → Dir → Entry → ℕ
  pub receive : VState → ℕ → VState
  pub combine : ℕ → ℕ → ℕ
  pub wake : ℕ → VState → Bool
  pub bid : VState → Option ℕ
  pub show : VState → Value

-- the three numbers of a state are below 2^64
pub record IsInRange (state : VState) : Type 0 where
  pub a_fits : state.a < 2 ^ 64
  pub b_fits : state.b < 2 ^ 64
  pub c_fits : state.c < 2 ^ 64

-- the numbers that are printed are below 2^64
abbrev pub IsShownInRange : Value → Type 0
IsShownInRange Absent = Unit {0}
IsShownInRange (One x) = x < 2 ^ 64
IsShownInRange (Two x y) = (x < 2 ^ 64) × (y < 2 ^ 64)

-- a program's law: two messages may be folded in either order, or as the one that they combine to, and every function
-- stays below 2^64
pub record IsLawful (P : Rules) : Type 0 where
  pub order : (s : VState) (x y : ℕ) → IsInRange s → x < 2 ^ 64 → y < 2 ^ 64 → P.receive (P.receive s x) y ≡ P.receive (P.receive s y) x
  pub joins : (s : VState) (x y : ℕ) → IsInRange s → x < 2 ^ 64 → y < 2 ^ 64 → P.receive (P.receive s x) y ≡ P.receive s (P.combine x y)
  pub init_fits : (v outs ins : ℕ) → v < 2 ^ 32 → outs < 2 ^ 32 → ins < 2 ^ 32 → IsInRange (P.init v outs ins)
  pub begin_fits : (phase v : ℕ) (s : VState) → phase < 2 ^ 64 → v < 2 ^ 32 → IsInRange s → P.wake phase s ≡ true → IsInRange (P.begin phase v s).0
  pub carry_fits : (phase v : ℕ) (s : VState) → phase < 2 ^ 64 → v < 2 ^ 32 → IsInRange s → P.wake phase s ≡ true → (P.begin phase v s).1 < 2 ^ 64
  pub edge_fits : (carry : ℕ) (dir : Dir) (entry : Entry) → carry < 2 ^ 64 → entry.target < 2 ^ 32 → entry.weight < 2 ^ 32 → P.edge carry dir entry < 2 ^ 64
  pub receive_fits : (s : VState) (m : ℕ) → IsInRange s → m < 2 ^ 64 → IsInRange (P.receive s m)
  pub combine_fits : (x y : ℕ) → x < 2 ^ 64 → y < 2 ^ 64 → P.combine x y < 2 ^ 64
  pub bid_fits : (s : VState) → IsInRange s → IfSome (P.bid s) (λ phase. phase < 2 ^ 64)
  pub show_fits : (s : VState) → IsInRange s → IsShownInRange (P.show s)
