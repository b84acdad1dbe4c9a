use Rattle.std.proofs.Common.{◌≡◌, ℕ, zero, suc, ◌<◌, List, [], ◌∷◌, length, refl, sym, subst, arith}
use Rattle.std.proofs.lemmas.List.Elements.{All-nil, All-push, All-same}
use Rattle.std.specs.List.{Contains}
use Rattle.fg_steal.specs.Seat.{SeatValue}
use Rattle.fg_steal.proofs.tests.back.Goals as goal

told_both : (told : List ℕ) → told ≡ 0 ∷ 1 ∷ [] → (part : ℕ) → part < 2 → Contains told part
told_both told is zero below = subst (λ (l : List ℕ). Contains l 0) (sym is) (0, omega arith, refl)
told_both told is (suc zero) below = subst (λ (l : List ℕ). Contains l 1) (sym is) (1, omega arith, refl)
told_both told is (suc (suc part)) below = absurd (omega arith)

pub close-requires-clause-told : goal.close-requires-clause-told
close-requires-clause-told g c =
    let P = λ (seat : SeatValue). (part : ℕ) → part < length c.args.claims.counts → Contains seat.told part in
    All-same P _ _ c.in_ok-push-2.ensures.items
    (All-push P _ _
    (All-same P _ _ c.in_ok-push.ensures.items
    (All-push P _ _
    (All-same P _ _ c.new-seats.ensures.items (All-nil P))
    (λ part below. told_both _ c.told_of_both.ensures.told part (omega (arith, below, c.requires.claims.0)))))
    (λ part below. told_both _ c.told_of_both-2.ensures.told part (omega (arith, below, c.requires.claims.0))))
