-- What a seat remembers of spent runs, and which parts they leave without a block.
use Rattle.std.proofs.Common.{◌≡◌, ℕ, ◌+◌, ◌-◌, ◌<◌, ◌≤◌, ◌≢◌, ◌⊎◌, inl, inr, ⊎_elim, Bool, true, false, cond, List, [], ◌∷◌, ◌++◌, length, set, get_or, refl, sym, ap, subst, ◌∙◌, arith, length-set}
use Rattle.std.proofs.lemmas.Bool.{cases_lt, cases_eq, lt-ltb, le-ltb}
use Rattle.std.proofs.lemmas.List.{get_or-set_other, get_or-set_same, append-nil}
use Rattle.std.proofs.lemmas.List.Elements.{Contains-append_left, Contains-append_cases, Contains-push}
use Rattle.std.specs.List.{Contains}
use Rattle.fg_steal.specs.declared.run.Run.{Run}
use Rattle.fg_steal.specs.declared.run.Run.TheVariants.{Near, Far}
use Rattle.fg_steal.specs.Run.{run_of, part_of, twin, times_in, spent_parts}
use Rattle.fg_steal.specs.Seat.{IsMarked, IsToldOf}
use Rattle.fg_steal.proofs.Times.{told_once, never_told, found_in, here_first, further_on, first_or_further}

-- one run more is marked
pub marked_more : (flags : List Bool) (spent : List ℕ) (run : ℕ) → run < length flags → IsMarked flags spent → IsMarked (set flags run true) (run ∷ spent)
marked_more flags spent run within marked = record { set = marks; clear = clears }
  where
    other : (q : ℕ) (d : Bool) → q ≢ run → get_or (set flags run true) q d ≡ get_or flags q d
    other q d differ = get_or-set_other flags run q true d differ

    marks : (q : ℕ) (d : Bool) → q < length (set flags run true) → get_or (set flags run true) q d ≡ true → Contains (run ∷ spent) q
    marks q d below is = ⊎_elim
        (λ (same : q ≡ run). subst (Contains (run ∷ spent)) (sym same) (here_first run spent))
        (λ (differ : q ≢ run). further_on run q spent (marked.set q d (omega (arith, length-set flags run true)) (sym (other q d differ) ∙ is)))
        (cases_eq q run)

    clears : (q : ℕ) (d : Bool) → q < length (set flags run true) → get_or (set flags run true) q d ≡ false → Contains (run ∷ spent) q → ⊥
    clears q d below is found = ⊎_elim
        (λ (same : q ≡ run). let now : get_or (set flags run true) q d ≡ true = rw same (get_or-set_same flags run true d within) in cc)
        (λ (differ : q ≢ run). ⊎_elim
        (λ (first : run ≡ q). differ (sym first))
        (λ further. marked.clear q d (omega (arith, length-set flags run true)) (sym (other q d differ) ∙ is) further)
        (first_or_further run q spent found))
        (cases_eq q run)

-- a run stands in a list, or doesn't
is_there : (run : ℕ) (runs : List ℕ) → Contains runs run ⊎ (Contains runs run → ⊥)
is_there run runs = ⊎_elim
    (λ (some : 0 < times_in run runs). inl (found_in run runs some))
    (λ (none : times_in run runs ≤ 0). inr (λ found. omega (arith, told_once run runs found)))
    (cases_lt 0 (times_in run runs))

module _ (counts : List ℕ) where
  -- a run whose twin isn't spent leaves the part as it was, and another ends it
  pub alone : (run : ℕ) (spent : List ℕ) → (Contains spent (twin counts run) → ⊥) → spent_parts counts (run ∷ spent) ≡ spent_parts counts spent
  alone run spent missing = rw (never_told (twin counts run) spent missing) (append-nil (spent_parts counts spent))

  pub paired : (run : ℕ) (spent : List ℕ) → Contains spent (twin counts run) → spent_parts counts (run ∷ spent) ≡ spent_parts counts spent ++ part_of counts run ∷ []
  paired run spent found = rw (lt-ltb 0 (times_in (twin counts run) spent) (told_once (twin counts run) spent found)) refl

  module _ (part : ℕ) (within : part < length counts) where
    abbrev far : ℕ
    far = length counts + part

    pub near_part : part_of counts part ≡ part
    near_part = rw (lt-ltb part (length counts) within) refl

    pub near_twin : twin counts part ≡ far
    near_twin = rw (lt-ltb part (length counts) within) refl

    pub far_part : part_of counts far ≡ part
    far_part = rw (le-ltb far (length counts) (omega arith)) (omega arith)

    pub far_twin : twin counts far ≡ part
    far_twin = rw (le-ltb far (length counts) (omega arith)) (omega arith)

    -- a part that is spent had both its runs spent
    pub both_spent : (spent : List ℕ) → Contains (spent_parts counts spent) part → Contains spent part × Contains spent far
    both_spent [] (k, below, at) = absurd (omega arith)
    both_spent (run ∷ spent) found = ⊎_elim
        (λ (there : Contains spent (twin counts run)). ⊎_elim
        (λ (before : Contains (spent_parts counts spent) part). earlier (both_spent spent before))
        (λ now. ⊎_elim (λ (is : part_of counts run ≡ part). latest there is) (λ (more : Contains [] part). absurd (omega (arith, more.1))) (first_or_further (part_of counts run) part [] now))
        (Contains-append_cases (spent_parts counts spent) (part_of counts run ∷ []) part (subst (λ (l : List ℕ). Contains l part) (paired run spent there) found)))
        (λ (missing : Contains spent (twin counts run) → ⊥). earlier (both_spent spent (subst (λ (l : List ℕ). Contains l part) (alone run spent missing) found)))
        (is_there (twin counts run) spent)
      where
        earlier : Contains spent part × Contains spent far → Contains (run ∷ spent) part × Contains (run ∷ spent) far
        earlier both = (further_on run part spent both.0, further_on run far spent both.1)

        latest : Contains spent (twin counts run) → part_of counts run ≡ part → Contains (run ∷ spent) part × Contains (run ∷ spent) far
        latest there is = ⊎_elim
            (λ (small : run < length counts).
            let same : run ≡ part = sym (rw (lt-ltb run (length counts) small) refl) ∙ is in
            (subst (Contains (run ∷ spent)) same (here_first run spent), further_on run far spent (subst (Contains spent) (ap (twin counts) same ∙ near_twin) there)))
            (λ (past : length counts ≤ run).
            let minus : run - length counts ≡ part = sym (rw (le-ltb run (length counts) past) refl) ∙ is in
            let same : run ≡ far = omega arith in
            (further_on run part spent (subst (Contains spent) (ap (twin counts) same ∙ far_twin) there), subst (Contains (run ∷ spent)) same (here_first run spent)))
            (cases_lt run (length counts))

    -- and one with both its runs spent is spent
    pub part_spent : (spent : List ℕ) → Contains spent part → Contains spent far → Contains (spent_parts counts spent) part
    part_spent [] (k, below, at) other = absurd (omega arith)
    part_spent (run ∷ spent) near_one far_one = ⊎_elim
        (λ (now : run ≡ part). ⊎_elim
        (λ (again : run ≡ far). absurd (omega arith))
        (λ (there : Contains spent far). last (subst (Contains spent) (sym (ap (twin counts) now ∙ near_twin)) there) (ap (part_of counts) now ∙ near_part))
        (first_or_further run far spent far_one))
        (λ (near_there : Contains spent part). ⊎_elim
        (λ (now : run ≡ far). last (subst (Contains spent) (sym (ap (twin counts) now ∙ far_twin)) near_there) (ap (part_of counts) now ∙ far_part))
        (λ (far_there : Contains spent far). Contains-append_left (spent_parts counts spent) _ part (part_spent spent near_there far_there))
        (first_or_further run far spent far_one))
        (first_or_further run part spent near_one)
      where
        last : Contains spent (twin counts run) → part_of counts run ≡ part → Contains (spent_parts counts (run ∷ spent)) part
        last there is = subst (λ (l : List ℕ). Contains l part) (sym (paired run spent there)) (subst (λ (p : ℕ). Contains (spent_parts counts spent ++ p ∷ []) part) (sym is) (Contains-push (spent_parts counts spent) part))

    -- the two runs that a seat tries, in its order
    pub record AreTwins (first second : ℕ) : Type 0 where
      pub differ : first ≢ second
      pub first_part : part_of counts first ≡ part
      pub second_part : part_of counts second ≡ part
      pub first_twin : twin counts first ≡ second
      pub second_twin : twin counts second ≡ first

    pub twins : (own : Bool) → AreTwins (run_of counts part (cond own Near Far)) (run_of counts part (cond own Far Near))
    twins true = record { differ = λ same. omega arith; first_part = near_part; second_part = far_part; first_twin = near_twin; second_twin = far_twin }
    twins false = record { differ = λ same. omega arith; first_part = far_part; second_part = near_part; first_twin = far_twin; second_twin = near_twin }

    pub of_either : (own : Bool) (P : ℕ → Type 0) → P (run_of counts part (cond own Near Far)) → P (run_of counts part (cond own Far Near)) → (run : Run) → P (run_of counts part run)
    of_either true P first second Near = first
    of_either true P first second Far = second
    of_either false P first second Near = second
    of_either false P first second Far = first

    module _ (first second : ℕ) (are : AreTwins first second) (before between : List ℕ) (told : IsToldOf first before between) where
      pub first_is_there : Contains between first
      first_is_there = ⊎_elim
          (λ (was : Contains before first × (between ≡ before)). subst (λ (l : List ℕ). Contains l first) (sym was.1) was.0)
          (λ (now : (Contains before first → ⊥) × (between ≡ first ∷ before)). subst (λ (l : List ℕ). Contains l first) (sym now.1) (here_first first before))
          told

      -- while the second isn't spent, no part is more
      pub no_part_more : (Contains between second → ⊥) → spent_parts counts between ≡ spent_parts counts before
      no_part_more missing = ⊎_elim
          (λ (was : Contains before first × (between ≡ before)). ap (spent_parts counts) was.1)
          (λ (now : (Contains before first → ⊥) × (between ≡ first ∷ before)). ap (spent_parts counts) now.1 ∙ alone first before
          (λ there. missing (subst (λ (l : List ℕ). Contains l second) (sym now.1) (further_on first second before (subst (Contains before) are.first_twin there)))))
          told

      module _ (after : List ℕ) (told_too : IsToldOf second between after) where
        pub both_there : Contains after first × Contains after second
        both_there = ⊎_elim
            (λ (was : Contains between second × (after ≡ between)).
            (subst (λ (l : List ℕ). Contains l first) (sym was.1) first_is_there, subst (λ (l : List ℕ). Contains l second) (sym was.1) was.0))
            (λ (now : (Contains between second → ⊥) × (after ≡ second ∷ between)).
            (subst (λ (l : List ℕ). Contains l first) (sym now.1) (further_on second first between first_is_there), subst (λ (l : List ℕ). Contains l second) (sym now.1) (here_first second between)))
            told_too

        -- and with both spent, the part is
        pub one_part_more : (Contains before first → Contains before second → ⊥) → spent_parts counts after ≡ spent_parts counts before ++ part ∷ []
        one_part_more not_both = ⊎_elim
            (λ (late : Contains between second × (after ≡ between)). ap (spent_parts counts) late.1 ∙ ⊎_elim
            (λ (was : Contains before first × (between ≡ before)). absurd (not_both was.0 (subst (λ (l : List ℕ). Contains l second) was.1 late.0)))
            (λ (now : (Contains before first → ⊥) × (between ≡ first ∷ before)). ap (spent_parts counts) now.1 ∙ ⊎_elim
            (λ (same : first ≡ second). absurd (are.differ same))
            (λ (there : Contains before second). paired first before (subst (Contains before) (sym are.first_twin) there) ∙ ap (λ (p : ℕ). spent_parts counts before ++ p ∷ []) are.first_part)
            (first_or_further first second before (subst (λ (l : List ℕ). Contains l second) now.1 late.0)))
            told)
            (λ (now : (Contains between second → ⊥) × (after ≡ second ∷ between)).
            ap (spent_parts counts) now.1 ∙ paired second between (subst (Contains between) (sym are.second_twin) first_is_there)
            ∙ ap (λ (p : ℕ). spent_parts counts between ++ p ∷ []) are.second_part ∙ ap (λ (l : List ℕ). l ++ part ∷ []) (no_part_more now.0))
            told_too
