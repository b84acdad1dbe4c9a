-- What came of some blocks, and of the next ones, is what came of all these.
use Rattle.std.proofs.Common.{◌≡◌, ℕ, zero, suc, ◌+◌, ◌-◌, ◌^◌, ◌<◌, ◌≤◌, Option, None, List, [], ◌∷◌, ◌++◌, map, length, refl, sym, ap, ap₂, subst, ◌∙◌, arith, append_assoc, IsPermutation}
use Rattle.std.proofs.lemmas.Grind.{flat_map-append}
use Rattle.std.proofs.lemmas.List.{append-nil, map-append}
use Rattle.std.proofs.lemmas.List.Elements.{All-head}
use Rattle.std.proofs.lemmas.List.FromFn.{fill_by_all}
use Rattle.std.proofs.lemmas.List.Sorted.{IsPermutation-append, IsPermutation-refl}
use Rattle.std.proofs.lemmas.List.Sums.{sum_by-append}
use Rattle.std.specs.Prelude.{All, IsSome}
use Rattle.std.specs.List.{range_with_len, sum_by}
use Rattle.fg_base.specs.declared.plain.BadEdge.{BadEdge}
use Rattle.fg_crew.specs.Wave.{EachSpentWithin, HasRoomForAll, block_at, blocks_in, in_all}
use Rattle.fg_crew.specs.declared.slot.Slot.{Slot}
use Rattle.fg_gather.specs.Arrivals.{HasCome}
use Rattle.fg_model.specs.declared.mail.Mail.{Mail}
use Rattle.fg_model.specs.Program.{Rules}
use Rattle.fg_part.specs.declared.part_map.PartMap.{PartMap}
use Rattle.fg_task.specs.Blocks.{Blocks}
use Rattle.fg_task.specs.Spending.{Counted, HasRoom, SpentInAllUpTo}
use Rattle.fg_wave.specs.declared.told.Told.{Told}
use Rattle.fg_wave.specs.Telling.{first_some}
use Rattle.fg_wave.specs.Waves.{EachSpentOnList, HasRoomForList, IsTold, MoreCame, SpentAsTold}
use Rattle.fg_wave.proofs.TellingLaws.{first-past, first-stays, no-edge}

ranges : (from front back : ℕ) → range_with_len from (front + back) ≡ range_with_len from front ++ range_with_len (from + front) back
ranges from zero back =
    let none : zero + back ≡ back = omega arith in
    let start : from ≡ from + zero = omega arith in
    ap₂ range_with_len start none
ranges from (suc front) back =
    let count : suc front + back ≡ suc (front + back) = omega arith in
    let start : (from + 1) + front ≡ from + suc front = omega arith in
    ap (range_with_len from) count ∙ ap (λ (l : List ℕ). from ∷ l) (ranges (from + 1) front back)
    ∙ ap (λ (b : ℕ). from ∷ (range_with_len (from + 1) front ++ range_with_len b back)) start

module _ (list : List ℕ) where
  -- the blocks of the waves so far, and those of the next one
  pub blocks-then : (from to : ℕ) → from ≤ to → blocks_in list 0 to ≡ blocks_in list 0 from ++ blocks_in list from to
  blocks-then from to ordered =
      let count : to - 0 ≡ (from - 0) + (to - from) = omega (arith, ordered) in
      let start : 0 + (from - 0) ≡ from = omega arith in
      ap (λ (n : ℕ). map (block_at list) (range_with_len 0 n)) count
      ∙ ap (map (block_at list)) (ranges 0 (from - 0) (to - from))
      ∙ map-append (block_at list) (range_with_len 0 (from - 0)) (range_with_len (0 + (from - 0)) (to - from))
      ∙ ap (λ (b : ℕ). blocks_in list 0 from ++ map (block_at list) (range_with_len b (to - from))) start

  pub blocks-all : blocks_in list 0 (length list) ≡ list
  blocks-all =
      let count : length list - 0 ≡ length list = omega arith in
      ap (λ (n : ℕ). map (block_at list) (range_with_len 0 n)) count ∙ sym (fill_by_all (block_at list) list (length list) 0 refl (λ k below. refl))

  pub in_all-then : (of : ℕ → ℕ) (from to : ℕ) → from ≤ to → in_all of list 0 to ≡ in_all of list 0 from + in_all of list from to
  in_all-then of from to ordered = ap (sum_by of) (blocks-then from to ordered) ∙ sum_by-append of (blocks_in list 0 from) (blocks_in list from to)

  pub in_all-within : (of : ℕ → ℕ) (to : ℕ) → to ≤ length list → in_all of list 0 to ≤ sum_by of list
  in_all-within of to inside = omega (arith, in_all-then of to (length list) inside, ap (sum_by of) blocks-all)

module _ (blocks : Blocks) (xs ys : List ℕ) where
  pub told-then : (one next told : Told) → one.bad ≡ None → (told.active ≡ one.active + next.active) × (told.sent ≡ one.sent + next.sent) × (told.bad ≡ next.bad)
      → IsTold blocks xs one → IsTold blocks ys next → IsTold blocks (xs ++ ys) told
  told-then one next told fine is first rest =
      let active = sum_by-append blocks.active_of xs ys in
      let needed = sum_by-append blocks.needed_of xs ys in
      record {
        few_active = omega (arith, active, is.0, first.few_active, rest.few_active);
        few_sent = omega (arith, needed, is.1, first.few_sent, rest.few_sent);
        all_active = λ none. let more = rest.all_active (sym is.2 ∙ none) in omega (arith, active, is.0, first.all_active fine, more);
        all_sent = λ none. let more = rest.all_sent (sym is.2 ∙ none) in omega (arith, needed, is.1, first.all_sent fine, more);
        bad = λ known.
            is.2 ∙ rest.bad known ∙ sym (first-past (map blocks.bad_of xs) (map blocks.bad_of ys) (sym (first.bad known) ∙ fine))
            ∙ ap first_some (sym (map-append blocks.bad_of xs ys));
      }

  -- blocks behind a bad edge change nothing
  pub told-stops : (told : Told) → IsSome told.bad → IsTold blocks xs told → IsTold blocks (xs ++ ys) told
  told-stops told some first =
      let active = sum_by-append blocks.active_of xs ys in
      let needed = sum_by-append blocks.needed_of xs ys in
      record {
        few_active = omega (arith, active, first.few_active);
        few_sent = omega (arith, needed, first.few_sent);
        all_active = λ none. absurd (no-edge told.bad none some);
        all_sent = λ none. absurd (no-edge told.bad none some);
        bad = λ known.
            let told_there = subst (λ (bad : Option BadEdge). IsSome bad) (first.bad known) some in
            first.bad known ∙ sym (first-stays (map blocks.bad_of xs) (map blocks.bad_of ys) told_there)
            ∙ ap first_some (sym (map-append blocks.bad_of xs ys));
      }

  module _ (old middle new : List Counted) where
    pub spent-then : (one next told : Told) → one.bad ≡ None → (told.active ≡ one.active + next.active) × (told.sent ≡ one.sent + next.sent) × (told.bad ≡ next.bad)
        → SpentAsTold blocks xs old middle one → SpentAsTold blocks ys middle new next → SpentAsTold blocks (xs ++ ys) old new told
    spent-then one next told fine is first rest = record {
      runs = omega (arith, is.0, first.runs, rest.runs);
      entries = omega (arith, is.1, first.entries, rest.entries);
      hits = λ none.
          let more = rest.hits (sym is.2 ∙ none) in
          omega (arith, first.hits fine, more, sum_by-append blocks.visits_of xs ys);
    }

    pub spent-stops : (told : Told) → IsSome told.bad → SpentAsTold blocks xs old new told → SpentAsTold blocks (xs ++ ys) old new told
    spent-stops told some first = record { runs = first.runs; entries = first.entries; hits = λ none. absurd (no-edge told.bad none some) }

  module _ (P : Rules) (pmap : PartMap) (old middle new : List (List (Option ℕ))) where
    pub came-then : (one next told : Told) → one.bad ≡ None → told.bad ≡ next.bad → MoreCame P pmap blocks xs one old middle → MoreCame P pmap blocks ys next middle new
        → MoreCame P pmap blocks (xs ++ ys) told old new
    came-then one next told fine is first rest before come =
        let more = first before come in
        let last = rest (before ++ more.mail) more.come in
        record {
          mail = more.mail ++ last.mail;
          come = subst (λ (mail : List Mail). HasCome P pmap new mail) (append_assoc before more.mail last.mail) last.come;
          own = λ known none.
              subst (λ (l : List Mail). IsPermutation l (more.mail ++ last.mail)) (sym (flat_map-append blocks.mail_of xs ys))
              (IsPermutation-append _ _ _ _ (more.own known fine) (last.own known (sym is ∙ none)));
        }

    pub came-stops : (told : Told) → IsSome told.bad → MoreCame P pmap blocks xs told old new → MoreCame P pmap blocks (xs ++ ys) told old new
    came-stops told some first before come =
        let more = first before come in
        record { mail = more.mail; come = more.come; own = λ known none. absurd (no-edge told.bad none some) }

-- what came of the waves so far, and of the next one
module _ (blocks : Blocks) (list : List ℕ) (from to : ℕ) (ordered : from ≤ to) (one next told : Told) (fine : one.bad ≡ None)
    (is : (told.active ≡ one.active + next.active) × (told.sent ≡ one.sent + next.sent) × (told.bad ≡ next.bad)) where
  pub told-to : IsTold blocks (blocks_in list 0 from) one → IsTold blocks (blocks_in list from to) next → IsTold blocks (blocks_in list 0 to) told
  told-to first rest =
      subst (λ (l : List ℕ). IsTold blocks l told) (sym (blocks-then list from to ordered)) (told-then blocks (blocks_in list 0 from) (blocks_in list from to) one next told fine is first rest)

  pub spent-to : (old middle new : List Counted) → SpentAsTold blocks (blocks_in list 0 from) old middle one → SpentAsTold blocks (blocks_in list from to) middle new next
      → SpentAsTold blocks (blocks_in list 0 to) old new told
  spent-to old middle new first rest =
      subst (λ (l : List ℕ). SpentAsTold blocks l old new told) (sym (blocks-then list from to ordered))
      (spent-then blocks (blocks_in list 0 from) (blocks_in list from to) old middle new one next told fine is first rest)

  -- the inboxes have their program and their map
  pub came-to : {X : Type 0} (rules : X → Rules) (first_program program : X) (first_map pmap : PartMap) (old middle new : List (List (Option ℕ))) → program ≡ first_program → pmap ≡ first_map
      → MoreCame (rules first_program) first_map blocks (blocks_in list 0 from) one old middle → MoreCame (rules program) pmap blocks (blocks_in list from to) next middle new
      → MoreCame (rules first_program) first_map blocks (blocks_in list 0 to) told old new
  came-to {X = X} rules first_program program first_map pmap old middle new same_program same_map first rest =
      let moved = subst (λ (x : X). MoreCame (rules x) first_map blocks (blocks_in list from to) next middle new) same_program
      (subst (λ (m : PartMap). MoreCame (rules program) m blocks (blocks_in list from to) next middle new) same_map rest) in
      subst (λ (l : List ℕ). MoreCame (rules first_program) first_map blocks l told old new) (sym (blocks-then list from to ordered))
      (came-then blocks (blocks_in list 0 from) (blocks_in list from to) (rules first_program) first_map old middle new one next told fine is.2 first moved)

-- a bad edge ends the waves
module _ (blocks : Blocks) (list : List ℕ) (to : ℕ) (inside : to ≤ length list) (told : Told) (some : IsSome told.bad) where
  whole : blocks_in list 0 to ++ blocks_in list to (length list) ≡ list
  whole = sym (blocks-then list to (length list) inside) ∙ blocks-all list

  pub told-end : IsTold blocks (blocks_in list 0 to) told → IsTold blocks list told
  told-end first = subst (λ (l : List ℕ). IsTold blocks l told) whole (told-stops blocks (blocks_in list 0 to) (blocks_in list to (length list)) told some first)

  pub spent-end : (old new : List Counted) → SpentAsTold blocks (blocks_in list 0 to) old new told → SpentAsTold blocks list old new told
  spent-end old new first =
      subst (λ (l : List ℕ). SpentAsTold blocks l old new told) whole (spent-stops blocks (blocks_in list 0 to) (blocks_in list to (length list)) old new new told some first)

  pub came-end : (P : Rules) (pmap : PartMap) (old new : List (List (Option ℕ))) → MoreCame P pmap blocks (blocks_in list 0 to) told old new → MoreCame P pmap blocks list told old new
  came-end P pmap old new first =
      subst (λ (l : List ℕ). MoreCame P pmap blocks l told old new) whole
      (came-stops blocks (blocks_in list 0 to) (blocks_in list to (length list)) P pmap old new new told some first)

-- before the first wave
module _ (blocks : Blocks) where
  pub told-none : (told : Told) → (told.active ≡ 0) × (told.sent ≡ 0) × (told.bad ≡ None) → IsTold blocks [] told
  told-none told is = record {
    few_active = omega (arith, is.0);
    few_sent = omega (arith, is.1);
    all_active = λ _. is.0;
    all_sent = λ _. is.1;
    bad = λ _. is.2;
  }

  pub spent-none : (told : Told) (old : List Counted) → (told.active ≡ 0) × (told.sent ≡ 0) × (told.bad ≡ None) → SpentAsTold blocks [] old old told
  spent-none told old is = record { runs = omega (arith, is.0); entries = omega (arith, is.1); hits = λ _. omega arith }

  pub came-none : (P : Rules) (pmap : PartMap) (told : Told) (parts : List (List (Option ℕ))) → MoreCame P pmap blocks [] told parts parts
  came-none P pmap told parts before come = record {
    mail = [];
    come = subst (λ (mail : List Mail). HasCome P pmap parts mail) (sym (append-nil before)) come;
    own = λ known none. IsPermutation-refl [];
  }

-- what the workers spent so far, and what they have room for
module _ {K F : Type 0} (blocks : Blocks) (list : List ℕ) (spent : K → Counted) where
  abbrev HasRoomAt : Slot K F → Type 0
  HasRoomAt slot = HasRoomForList blocks list (spent slot.kept)

  pub each-then : (from to : ℕ) → from ≤ to → (old middle new : List (Slot K F)) → length middle ≡ length old → EachSpentWithin spent blocks list 0 from old middle → EachSpentWithin spent blocks list from to middle new
      → EachSpentWithin spent blocks list 0 to old new
  each-then from to ordered old middle new count first rest k d below =
      let one = first k d below in
      let next = rest k d (omega (arith, below, count)) in
      record {
        few_runs = omega (arith, one.few_runs, next.few_runs, in_all-then list blocks.active_of from to ordered);
        few_entries = omega (arith, one.few_entries, next.few_entries, in_all-then list blocks.needed_of from to ordered);
      }

  pub each-whole : (to : ℕ) → to ≤ length list → (old new : List (Slot K F)) → EachSpentWithin spent blocks list 0 to old new
      → EachSpentOnList spent blocks list old new
  each-whole to inside old new few k d below =
      let one = few k d below in
      record {
        few_runs = omega (arith, one.few_runs, in_all-within list blocks.active_of to inside);
        few_entries = omega (arith, one.few_entries, in_all-within list blocks.needed_of to inside);
      }

  pub room-next : (from to : ℕ) → from ≤ to → to ≤ length list → (old middle : List (Slot K F)) → length middle ≡ length old → EachSpentWithin spent blocks list 0 from old middle
      → All HasRoomAt old → All (λ (slot : Slot K F). HasRoomForAll blocks list from to (spent slot.kept)) middle
  room-next from to ordered inside old middle count few room k d below =
      let under : k < length old = omega (arith, below, count) in
      let one = few k d under in
      let has = room k d under in
      record {
        for_runs = omega (arith, one.few_runs, has.for_runs, in_all-then list blocks.active_of from to ordered, in_all-within list blocks.active_of to inside);
        for_entries = omega (arith, one.few_entries, has.for_entries, in_all-then list blocks.needed_of from to ordered, in_all-within list blocks.needed_of to inside);
      }

-- and what all of them spent together
module _ (blocks : Blocks) (list : List ℕ) where
  pub sum-then : (from to : ℕ) → from ≤ to → (old middle new : List Counted) → SpentInAllUpTo blocks (blocks_in list 0 from) old middle → SpentInAllUpTo blocks (blocks_in list from to) middle new
      → SpentInAllUpTo blocks (blocks_in list 0 to) old new
  sum-then from to ordered old middle new first rest = record {
    few_runs = omega (arith, first.few_runs, rest.few_runs, in_all-then list blocks.active_of from to ordered);
    few_entries = omega (arith, first.few_entries, rest.few_entries, in_all-then list blocks.needed_of from to ordered);
  }

  pub sum-whole : (to : ℕ) → to ≤ length list → (old new : List Counted) → SpentInAllUpTo blocks (blocks_in list 0 to) old new → SpentInAllUpTo blocks list old new
  sum-whole to inside old new few = record {
    few_runs = omega (arith, few.few_runs, in_all-within list blocks.active_of to inside);
    few_entries = omega (arith, few.few_entries, in_all-within list blocks.needed_of to inside);
  }

-- so much can be counted, since there is a worker who has room for it
pub some-count : {K F : Type 0} (spent : K → Counted) (runs entries : ℕ) (slots : List (Slot K F)) → 0 < length slots
    → All (λ (slot : Slot K F). HasRoom (spent slot.kept) runs entries) slots → (runs < 2 ^ 64) × (entries < 2 ^ 64)
some-count spent runs entries [] some room = absurd (omega (arith, some))
some-count {K = K} {F = F} spent runs entries (slot ∷ slots) some room =
    let has = All-head (λ (one : Slot K F). HasRoom (spent one.kept) runs entries) slot slots room in
    (omega (arith, has.for_runs), omega (arith, has.for_entries))
