-- What a run leaves, found in one pass over the queue.
use Rattle.std.proofs.Common.{◌≡◌, ◌≢◌, ◌∙◌, ◌++◌, ◌∷◌, [], ◌&&◌, ℕ, ◌+◌, ◌-◌, ◌<◌, ◌≤◌, zero, suc, Bool, true, false, List, length, get_or, set, take, drop, replicate, cond, refl, sym, ap, arith, inl, inr}
use Rattle.std.specs.Bool.{nat_le}
use Rattle.std.proofs.lemmas.Bool.{cases_Bool, cases_eq, cases_lt, both_ways, and_parts, and_from, leb-true, le-leb, eq-eqb, ne_eqb, cond-true, cond-false, false_from_ne_true}
use Rattle.std.proofs.lemmas.List.{get_or-set_same, get_or-set_other, get_or-replicate, get_or_past, length-set, length-replicate, set-set, set_comm, set-get_or, drop_more, take_more_set, drop-set-lt, append_assoc, append-nil, drop_all}
use Rattle.fg_queue.specs.QueueStep.{without_oldest, rest_after}
use Rattle.fg_queue.specs.declared.load.Load.{Load}
use Rattle.fg_queue.proofs.RunLemmas.{Climbs}

-- the load's local page is one whose oldest load is still to be taken out; `due` is of the local pages from `first` on
abbrev pub is_due : ℕ → List Bool → Load → Bool
is_due first due load = nat_le first load.local && get_or due (load.local - first) false

-- what one pass leaves: a load that is due leaves, and the next ones of its local page stay
unfoldable pub left : ℕ → List Bool → List Load → List Load
left first due [] = []
left first due (load ∷ loads) =
    cond (is_due first due load) (left first (set due (load.local - first) false) loads) (load ∷ left first due loads)

pub left-due : (first : ℕ) (due : List Bool) (load : Load) (loads : List Load) → is_due first due load ≡ true →
    left first due (load ∷ loads) ≡ left first (set due (load.local - first) false) loads
unfolding left
left-due first due load loads is = cond-true _ _ _ is

pub left-stays : (first : ℕ) (due : List Bool) (load : Load) (loads : List Load) → is_due first due load ≡ false →
    left first due (load ∷ loads) ≡ load ∷ left first due loads
unfolding left
left-stays first due load loads is = cond-false _ _ _ is

pub left-nil : (first : ℕ) (due : List Bool) → left first due [] ≡ []
unfolding left
left-nil first due = refl

-- no load is due
pub left-none : (first : ℕ) (due : List Bool) (loads : List Load) → ((k : ℕ) → get_or due k false ≡ false) → left first due loads ≡ loads
unfolding left
left-none first due [] none = refl
left-none first due (load ∷ loads) none =
    left-stays first due load loads (false_from_ne_true _ (λ is. both_ways _ (none (load.local - first)) (and_parts (nat_le first load.local) _ is).1))
    ∙ ap (λ rest. load ∷ rest) (left-none first due loads none)

-- a load that isn't due isn't so either once another place is
not_due : (first place : ℕ) (due : List Bool) (load : Load) → is_due first due load ≡ false → (first ≤ load.local → load.local - first ≢ place) →
    is_due first (set due place true) load ≡ false
not_due first place due load stays apart =
    elim (cases_Bool (nat_le first load.local)) [
      | inl above ↦
          let ne : load.local - first ≢ place = apart (leb-true first load.local above) in
          ap (λ bit. nat_le first load.local && bit) (get_or-set_other due place (load.local - first) true false ne) ∙ stays
      | inr below ↦ rw below refl
    ]

-- one more local page is due: that is its oldest load taken out before
left-one_more : (first place : ℕ) (due : List Bool) (loads : List Load) → place < length due → get_or due place false ≡ false →
    left first (set due place true) loads ≡ left first due (without_oldest (first + place) loads)
unfolding left
left-one_more first place due [] within free = refl
left-one_more first place due (load ∷ loads) within free =
    elim (cases_eq load.local (first + place)) [
      | inl here ↦
          let at : load.local - first ≡ place = omega arith in
          let is : is_due first (set due place true) load ≡ true =
          and_from (nat_le first load.local) _ (le-leb first load.local (omega arith)) (rw at (get_or-set_same due place true false within)) in
          let out : without_oldest (first + place) (load ∷ loads) ≡ loads = rw (eq-eqb load.local (first + place) here) refl in
          let back : set (set due place true) (load.local - first) false ≡ due =
          rw at (set-set due place true false ∙ ap (set due place) (sym free) ∙ set-get_or due place false) in
          left-due first (set due place true) load loads is ∙ rw (back, out) refl
      | inr other ↦
          let out : without_oldest (first + place) (load ∷ loads) ≡ load ∷ without_oldest (first + place) loads = rw (ne_eqb load.local (first + place) other) refl in
          let apart : first ≤ load.local → load.local - first ≢ place = λ h. λ e. other (omega arith) in
          elim (cases_Bool (is_due first due load)) [
            | inl is ↦
                let parts = and_parts (nat_le first load.local) _ is in
                let ne : load.local - first ≢ place = apart (leb-true first load.local parts.0) in
                let still : is_due first (set due place true) load ≡ true =
                and_from (nat_le first load.local) _ parts.0 (get_or-set_other due place (load.local - first) true false ne ∙ parts.1) in
                let free' : get_or (set due (load.local - first) false) place false ≡ false =
                get_or-set_other due (load.local - first) place false false (λ e. ne (sym e)) ∙ free in
                left-due first (set due place true) load loads still
                ∙ ap (λ bits. left first bits loads) (set_comm due place (load.local - first) true false (λ e. ne (sym e)))
                ∙ left-one_more first place (set due (load.local - first) false) loads (omega (arith, within, length-set due (load.local - first) false)) free'
                ∙ sym (left-due first due load (without_oldest (first + place) loads) is)
                ∙ sym (rw out refl)
            | inr stays ↦
                let still : is_due first (set due place true) load ≡ false = not_due first place due load stays apart in
                left-stays first (set due place true) load loads still
                ∙ ap (λ rest. load ∷ rest) (left-one_more first place due loads within free)
                ∙ sym (left-stays first due load (without_oldest (first + place) loads) stays)
                ∙ sym (rw out refl)
          ]
    ]

-- the places from one on, as many as there are, of 32
abbrev pub due_from : ℕ → ℕ → List Bool
due_from place zero = replicate 32 false
due_from place (suc count) = set (due_from (place + 1) count) place true

pub length-due_from : (place count : ℕ) → length (due_from place count) ≡ 32
length-due_from place zero = length-replicate 32 false
length-due_from place (suc count) = length-set (due_from (place + 1) count) place true ∙ length-due_from (place + 1) count

nothing_due : (k : ℕ) → get_or (replicate 32 false) k false ≡ false
nothing_due k = elim (cases_lt k 32) [
  | inl h ↦ get_or-replicate 32 k false false h
  | inr over ↦ get_or_past (replicate 32 false) k false over
]

-- a place before them isn't due
not_yet : (before place count : ℕ) → before < place → get_or (due_from place count) before false ≡ false
not_yet before place zero h = nothing_due before
not_yet before place (suc count) h =
    get_or-set_other (due_from (place + 1) count) place before true false (λ e. absurd (omega arith)) ∙ not_yet before (place + 1) count (omega arith)

-- the pass leaves what the run leaves
pub left-run : (first place : ℕ) (run loads : List Load) → Climbs (first + place) run → place + length run ≤ 32 →
    left first (due_from place (length run)) loads ≡ rest_after run loads
left-run first place [] loads climbs fits = left-none first (replicate 32 false) loads nothing_due
left-run first place (load ∷ run) loads climbs fits =
    let within : place < length (due_from (place + 1) (length run)) = omega (arith, length-due_from (place + 1) (length run)) in
    let on : (first + place) + 1 ≡ first + (place + 1) = omega arith in
    left-one_more first place (due_from (place + 1) (length run)) loads within (not_yet place (place + 1) (length run) (omega arith))
    ∙ left-run first (place + 1) run (without_oldest (first + place) loads) (rw on at climbs.1) (omega arith)
    ∙ ap (λ local. rest_after run (without_oldest local loads)) (sym climbs.0)

-- ---- a step of the pass: the loads kept so far, then what is left of the others

next_load : (next : ℕ) (loads : List Load) (load : Load) → next < length loads → load ≡ get_or loads next load → drop next loads ≡ load ∷ drop (next + 1) loads
next_load next loads load within read = drop_more loads next load within ∙ ap (λ (x : Load). x ∷ drop (next + 1) loads) (sym read)

pub pass_due : (first kept next : ℕ) (due : List Bool) (loads whole : List Load) (load : Load) → next < length loads → load ≡ get_or loads next load →
    is_due first due load ≡ true → take kept loads ++ left first due (drop next loads) ≡ whole →
    take kept loads ++ left first (set due (load.local - first) false) (drop (next + 1) loads) ≡ whole
pass_due first kept next due loads whole load within read is so_far =
    rw (← left-due first due load (drop (next + 1) loads) is) (rw (← next_load next loads load within read) so_far)

pub pass_keeps : (first kept next : ℕ) (due : List Bool) (loads whole : List Load) (load : Load) → next < length loads → load ≡ get_or loads next load → kept ≤ next →
    is_due first due load ≡ false → take kept loads ++ left first due (drop next loads) ≡ whole →
    take (kept + 1) (set loads kept load) ++ left first due (drop (next + 1) (set loads kept load)) ≡ whole
pass_keeps first kept next due loads whole load within read behind stays so_far =
    let front : take (kept + 1) (set loads kept load) ≡ take kept loads ++ load ∷ [] = take_more_set loads kept load (omega arith) in
    let back : drop (next + 1) (set loads kept load) ≡ drop (next + 1) loads = drop-set-lt (next + 1) loads kept load (omega arith) in
    rw (front, back) (append_assoc (take kept loads) (load ∷ []) _
    ∙ rw (← left-stays first due load (drop (next + 1) loads) stays) (rw (← next_load next loads load within read) so_far))

-- the pass is over
pub pass_ends : (first kept next : ℕ) (due : List Bool) (loads whole : List Load) → length loads ≤ next →
    take kept loads ++ left first due (drop next loads) ≡ whole → take kept loads ≡ whole
pass_ends first kept next due loads whole over so_far =
    sym (append-nil (take kept loads)) ∙ (rw (drop_all next loads over, left-nil first due) at so_far)

-- a load is due where its local page is not below the first one and its place is due
pub due_is : (first : ℕ) (due : List Bool) (load : Load) → first ≤ load.local → get_or due (load.local - first) false ≡ true → is_due first due load ≡ true
due_is first due load above at = and_from (nat_le first load.local) _ (le-leb first load.local above) at

pub due_parts : (first : ℕ) (due : List Bool) (load : Load) → is_due first due load ≡ true → (first ≤ load.local) × (get_or due (load.local - first) false ≡ true)
due_parts first due load is =
    let parts = and_parts (nat_le first load.local) _ is in
    (leb-true first load.local parts.0, parts.1)
