-- What is counted slot by slot, while the slots before a place are settled.
use Rattle.std.proofs.Common.{◌≡◌, ℕ, ◌+◌, ◌<◌, ◌^◌, List, drop, get_or, length, inl, inr, ap, subst, sym, arith}
use Rattle.std.proofs.Math.ListN.{set}
use Rattle.std.proofs.lemmas.Bool.{cases_eq}
use Rattle.std.proofs.lemmas.List.{drop-set-lt, get_or-set_other, get_or-set_same}
use Rattle.std.proofs.lemmas.List.Elements.{All-set}
use Rattle.std.proofs.lemmas.List.Sums.{sum_by-drop_more, sum_by-set}
use Rattle.std.specs.Prelude.{All}
use Rattle.std.specs.List.{sum_by}

-- one item of a list, which is put in place of another
module _ {X : Type 0} (xs : List X) (i : ℕ) (d next : X) (below : i < length xs) where
  abbrev one : X
  one = get_or xs i d

  -- what is counted for it leaves the rest
  pub counted-more : (f : X → ℕ) (counted now whole : ℕ) → counted + sum_by f (drop i xs) ≡ whole → now ≡ counted + f one
      → now + sum_by f (drop (i + 1) (set xs i next)) ≡ whole
  counted-more f counted now whole so_far more =
      let rest : sum_by f (drop (i + 1) (set xs i next)) ≡ sum_by f (drop (i + 1) xs) = ap (sum_by f) (drop-set-lt (i + 1) xs i next (omega arith)) in
      omega (arith, sum_by-drop_more f xs i d below, so_far, more, rest)

  -- and there is room for it where there is room for all
  pub counted-room : (f : X → ℕ) (counted whole : ℕ) → counted + sum_by f (drop i xs) ≡ whole → whole < 2 ^ 64 → counted + f one < 2 ^ 64
  counted-room f counted whole so_far room = omega (arith, sum_by-drop_more f xs i d below, so_far, room)

  -- a sum stays, to which it gives the same
  pub sum-kept : (f : X → ℕ) (whole : ℕ) → sum_by f xs ≡ whole → f next ≡ f one → sum_by f (set xs i next) ≡ whole
  sum-kept f whole so_far same = omega (arith, sum_by-set f xs i next d below, so_far, same)

  -- what holds of it and of those before it
  pub settled-more : (P : X → Type 0) → P next → ((k : ℕ) (e : X) → k < i → P (get_or xs k e)) → (k : ℕ) (e : X) → k < i + 1 → P (get_or (set xs i next) k e)
  settled-more P here before k e under = elim (cases_eq k i) [
    | inl same ↦ subst (λ (j : ℕ). P (get_or (set xs i next) j e)) (sym same) (subst P (sym (get_or-set_same xs i next e below)) here)
    | inr other ↦ subst P (sym (get_or-set_other xs i k next e other)) (before k e (omega (arith, under, other)))
  ]

  -- what held of it holds of all, where it holds of the other
  pub all-kept : (P : X → Type 0) → All P xs → (P one → P next) → All P (set xs i next)
  all-kept P all keeps = All-set P xs i next (keeps (all i d below)) all
