-- The turn of the clock, look by look.
use Rattle.std.proofs.Common.{◌≡◌, ℕ, ◌+◌, ◌-◌, ◌<◌, suc, true, false, Some, None, List, length, get_or, set, refl, arith}
use Rattle.std.proofs.lemmas.Bool.{cond-true, cond-false}
use Rattle.std.proofs.lemmas.List.{get_or_read}
use Rattle.fg_set.specs.Clock.{turn, is_taken, hand_after}
use Rattle.fg_set.specs.Entry.{blank, loading, passed}
use Rattle.fg_set.specs.declared.entry.Entry.{Entry}

pub turn-taken : (looks page : ℕ) (entries : List Entry) (hand : ℕ) → is_taken (get_or entries hand blank) ≡ true →
    turn (suc looks) page entries hand ≡
    record { taken = Some hand; entries = set entries hand (loading page (get_or entries hand blank)); hand = hand_after (length entries) hand }
unfolding turn
turn-taken looks page entries hand taken = cond-true _ _ _ taken

pub turn-passed : (looks page : ℕ) (entries : List Entry) (hand : ℕ) → is_taken (get_or entries hand blank) ≡ false →
    turn (suc looks) page entries hand ≡ turn looks page (set entries hand (passed (get_or entries hand blank))) (hand_after (length entries) hand)
unfolding turn
turn-passed looks page entries hand passes = cond-false _ _ _ passes

pub turn-none : (page : ℕ) (entries : List Entry) (hand : ℕ) → turn 0 page entries hand ≡ record { taken = None; entries = entries; hand = hand }
unfolding turn
turn-none page entries hand = refl

-- the look number `look` of `all`, at the entry that was read
pub look_takes : (all look page : ℕ) (entries : List Entry) (hand : ℕ) (entry : Entry) → look < all → hand < length entries →
    entry ≡ get_or entries hand entry → is_taken entry ≡ true →
    turn (all - look) page entries hand ≡
    record { taken = Some hand; entries = set entries hand (loading page entry); hand = hand_after (length entries) hand }
look_takes all look page entries hand entry more within read taken =
    let left : all - look ≡ suc (all - (look + 1)) = omega arith in
    let is : entry ≡ get_or entries hand blank = get_or_read entries hand entry within read blank in
    rw (left, is) (turn-taken (all - (look + 1)) page entries hand (rw is at taken))

pub look_passes : (all look page : ℕ) (entries : List Entry) (hand : ℕ) (entry : Entry) → look < all → hand < length entries →
    entry ≡ get_or entries hand entry → is_taken entry ≡ false →
    turn (all - look) page entries hand ≡
    turn (all - (look + 1)) page (set entries hand (passed entry)) (hand_after (length entries) hand)
look_passes all look page entries hand entry more within read passes =
    let left : all - look ≡ suc (all - (look + 1)) = omega arith in
    let is : entry ≡ get_or entries hand blank = get_or_read entries hand entry within read blank in
    rw (left, is) (turn-passed (all - (look + 1)) page entries hand (rw is at passes))
