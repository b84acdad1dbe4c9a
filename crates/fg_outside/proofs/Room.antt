-- The room of a drive over several appends.
use Rattle.std.proofs.Common.{rules, ◌≡◌, ℕ, ◌+◌, ◌≤◌, Option, Some, None, IsSome, refl, ap, arith}
use Rattle.fg_outside.specs.Pages.{HasRoom, lessened}

-- enough room is told room
pub room_is_told : (room : Option ℕ) (pages : ℕ) → HasRoom room pages → IsSome room
room_is_told None pages has = absurd has
room_is_told (Some free) pages has = search rules

-- enough for all of them is enough for the first of them
pub room_for_fewer : (room : Option ℕ) (fewer pages : ℕ) → fewer ≤ pages → HasRoom room pages → HasRoom room fewer
room_for_fewer None fewer pages le has = has
room_for_fewer (Some free) fewer pages le has = omega arith

-- and after them for the rest
pub room_for_rest : (room : Option ℕ) (first rest : ℕ) → HasRoom room (first + rest) → HasRoom (lessened room first) rest
room_for_rest None first rest has = has
room_for_rest (Some free) first rest has = omega arith

-- two appends
pub lessened_twice : (room : Option ℕ) (first second : ℕ) → lessened (lessened room first) second ≡ lessened room (first + second)
lessened_twice None first second = refl
lessened_twice (Some free) first second = ap Some (omega arith)
