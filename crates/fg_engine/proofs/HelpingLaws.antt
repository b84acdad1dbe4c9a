-- What work left behind.
use denote.Param.Members.{Once}
use denote.Ref.{MutBor}
use Rattle.std.proofs.Common.{◌≡◌, subst, sym}
use Rattle.fg_engine.specs.Helping.{HasDone}

module _ {F G A B R : Type 0} (g : Once F (G × (MutBor A × (MutBor B × Unit {0}))) (R × (MutBor A × (MutBor B × Unit {0})))) (work : F) (given : G) where
  -- what the work left in the two is what they have then
  pub left_there : (x : A) (y : B) (r : R) (a a_then : A) (b b_then : B) → HasDone g work given x y r a b → a_then ≡ a → b_then ≡ b
      → HasDone g work given x y r a_then b_then
  left_there x y r a a_then b b_then done same_a same_b =
      subst (λ (one : A). HasDone g work given x y r one b_then) (sym same_a)
      (subst (λ (two : B). HasDone g work given x y r a two) (sym same_b) done)

  -- what is so of each call of the work is so of what was done
  pub so_done : (so : A → B → A → B → Type 0) (x : A) (y : B) (r : R) (x' : A) (y' : B)
      → ((p : MutBor A) (q : MutBor B) (left : MutBor A × (MutBor B × Unit {0})) → g.post work (given, (p, (q, tt))) (r, left)
      → so p.now q.now left.0.now left.1.0.now)
      → HasDone g work given x y r x' y' → so x y x' y'
  so_done so x y r x' y' each done =
      subst (λ (one : A). so one y x' y') done.shows.0
      (subst (λ (two : B). so done.first.now two x' y') done.shows.1
      (subst (λ (one : A). so done.first.now done.second.now one y') done.leaves.0
      (subst (λ (two : B). so done.first.now done.second.now done.left.0.now two) done.leaves.1
      (each done.first done.second done.left done.met))))
