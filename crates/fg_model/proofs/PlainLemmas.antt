-- The run in memory: vertex by vertex, it makes the iteration of the definition.
use Rattle.std.proofs.Common.{◌≡◌, ℕ, zero, suc, ◌+◌, ◌-◌, ◌<◌, ◌≤◌, ◌^◌, Bool, true, false, cond, None, Some, List, [], ◌∷◌, ◌++◌, length, map, get_or, drop, take, refl, ap, sym, ◌∙◌, arith}
use Rattle.std.specs.Prelude.{◌==◌, All, filter, find, fold, if◌then◌else◌, sum_by}
use Rattle.std.specs.List.{enumerate_from, flat_map, range_with_len}
use Rattle.std.proofs.Math.Seq.{take-append_seam}
use Rattle.std.proofs.lemmas.List.{append-nil, append_assoc, at_drop_all, at_drop_more, length-append, length-map}
use Rattle.std.proofs.lemmas.List.Elements.{All-append, All-cons, All-get_or, All-head, All-map, All-nil, All-tail, All-weaker}
use Rattle.std.proofs.lemmas.List.Folds.{flat_map-map}
use Rattle.std.proofs.lemmas.List.FromFn.{fill_by_all, length-enumerate_from, length-map-range_with_len, length-range_with_len}
use Rattle.std.proofs.lemmas.List.Sums.{get_or-le-sum_by, sum_by-cons}
use Rattle.fg_base.specs.declared.plain.BadEdge.{BadEdge}
use Rattle.fg_base.specs.declared.plain.Dir.{Dir}
use Rattle.fg_base.specs.declared.plain.Entry.{Entry}
use Rattle.fg_base.specs.declared.plain.Need.{Need}
use Rattle.fg_base.specs.declared.plain.VState.{VState}
use Rattle.fg_model.specs.declared.graph.Graph.{Graph}
use Rattle.fg_model.specs.declared.iteration.Iteration.{Iteration}
use Rattle.fg_model.specs.declared.plain.Active.{Active}
use Rattle.fg_model.specs.declared.mail.Mail.{Mail}
use Rattle.fg_model.specs.Graph.{IsEntryOf, IsSide, IsWithinLimits, row}
use Rattle.fg_model.specs.Iteration.{AreStates, IsIteration, active_vertices, after, begun_at, first_bad, folded, is_bad, mail, needed, own_state, sent_to, state_at, states_after_runs}
use Rattle.fg_model.specs.Plain.{active_at, all_active, edges_over, messages_over, sent_from}
use Rattle.fg_model.specs.Program.{IsInRange, IsLawful, Rules}
use Rattle.fg_model.specs.Run.{opening_states}
use Rattle.fg_model.specs.VertexRun.{edges_from, edges_of, message_along, over_lists, ran}
use Rattle.fg_model.proofs.IterationLemmas.{find-front, find-skip, folded-append, folded-nil, length-edges_from, length-folded}

-- the active vertices from one on
abbrev pub ran_at : List Active → ℕ → Active
ran_at active i = get_or active i (record { v = 0; carry = 0 })

edges_over-more : (need : Need) (graph : Graph) (active : List Active) (i : ℕ) → i < length active → edges_over need graph (drop i active) ≡ edges_of need graph (ran_at active i).v ++ edges_over need graph (drop (i + 1) active)
unfolding edges_over
edges_over-more need graph active i below = at_drop_more (λ (rest : List Active). flat_map (λ from. edges_of need graph from.v) rest) active i (record { v = 0; carry = 0 }) below

messages_over-more : (P : Rules) (need : Need) (graph : Graph) (active : List Active) (i : ℕ) → i < length active → messages_over P need graph (drop i active) ≡ sent_from P need graph (ran_at active i) ++ messages_over P need graph (drop (i + 1) active)
unfolding messages_over
messages_over-more P need graph active i below = at_drop_more (λ (rest : List Active). flat_map (sent_from P need graph) rest) active i (record { v = 0; carry = 0 }) below

edges_over-end : (need : Need) (graph : Graph) (active : List Active) (i : ℕ) → length active ≤ i → edges_over need graph (drop i active) ≡ []
unfolding edges_over
edges_over-end need graph active i done = at_drop_all (λ (rest : List Active). flat_map (λ from. edges_of need graph from.v) rest) active i done

messages_over-end : (P : Rules) (need : Need) (graph : Graph) (active : List Active) (i : ℕ) → length active ≤ i → messages_over P need graph (drop i active) ≡ []
unfolding messages_over
messages_over-end P need graph active i done = at_drop_all (λ (rest : List Active). flat_map (sent_from P need graph) rest) active i done

pub length-over-more : (need : Need) (graph : Graph) (active : List Active) (i : ℕ) → i < length active
    → length (edges_over need graph (drop i active)) ≡ length (edges_of need graph (ran_at active i).v) + length (edges_over need graph (drop (i + 1) active))
length-over-more need graph active i below =
    ap (λ (xs : List BadEdge). length xs) (edges_over-more need graph active i below) ∙ length-append (edges_of need graph (ran_at active i).v) (edges_over need graph (drop (i + 1) active))

pub length-over-end : (need : Need) (graph : Graph) (active : List Active) (i : ℕ) → length active ≤ i → length (edges_over need graph (drop i active)) ≡ 0
length-over-end need graph active i done = ap (λ (xs : List BadEdge). length xs) (edges_over-end need graph active i done)

-- a bad edge of one vertex is the first of those from it on; with none the rest decides
pub over_bad : (n : ℕ) (need : Need) (graph : Graph) (active : List Active) (i : ℕ) (bad : BadEdge) → i < length active → find (is_bad n) (edges_of need graph (ran_at active i).v) ≡ Some bad
    → find (is_bad n) (edges_over need graph (drop i active)) ≡ Some bad
over_bad n need graph active i bad below is_bad_edge =
    ap (find (is_bad n)) (edges_over-more need graph active i below) ∙ find-front (is_bad n) (edges_of need graph (ran_at active i).v) (edges_over need graph (drop (i + 1) active)) bad is_bad_edge

pub over_good : (n : ℕ) (need : Need) (graph : Graph) (active : List Active) (i : ℕ) → i < length active → find (is_bad n) (edges_of need graph (ran_at active i).v) ≡ None
    → find (is_bad n) (edges_over need graph (drop i active)) ≡ find (is_bad n) (edges_over need graph (drop (i + 1) active))
over_good n need graph active i below good =
    ap (find (is_bad n)) (edges_over-more need graph active i below) ∙ find-skip (is_bad n) (edges_of need graph (ran_at active i).v) (edges_over need graph (drop (i + 1) active)) good

pub over_none : (n : ℕ) (need : Need) (graph : Graph) (active : List Active) (i : ℕ) → length active ≤ i → find (is_bad n) (edges_over need graph (drop i active)) ≡ None
over_none n need graph active i done = ap (find (is_bad n)) (edges_over-end need graph active i done)

-- one vertex's messages, folded in before the rest
pub over_folded : (P : Rules) (need : Need) (graph : Graph) (active : List Active) (i : ℕ) (states : List VState) → i < length active
    → folded P (messages_over P need graph (drop i active)) states ≡ folded P (messages_over P need graph (drop (i + 1) active)) (folded P (sent_from P need graph (ran_at active i)) states)
over_folded P need graph active i states below =
    ap (λ (messages : List Mail). folded P messages states) (messages_over-more P need graph active i below)
    ∙ folded-append P (sent_from P need graph (ran_at active i)) (messages_over P need graph (drop (i + 1) active)) states

pub over_all : (P : Rules) (need : Need) (graph : Graph) (active : List Active) (i : ℕ) (states : List VState) → length active ≤ i → folded P (messages_over P need graph (drop i active)) states ≡ states
over_all P need graph active i states done = ap (λ (messages : List Mail). folded P messages states) (messages_over-end P need graph active i done) ∙ folded-nil P states

-- the states after the runs, and the active vertices, from the vertex k on
abbrev pub runs_from : ℕ → Rules → ℕ → List VState → List VState
runs_from k P phase states = map (λ (v, s). own_state P phase v s) (enumerate_from k states)

abbrev pub active_from : ℕ → ℕ → Rules → ℕ → List VState → List Active
active_from k left P phase states = map (active_at P phase states) (filter (λ v. P.wake phase (state_at states v)) (range_with_len k left))

pub runs_all : (P : Rules) (phase : ℕ) (states : List VState) → runs_from 0 P phase states ≡ states_after_runs P phase states
unfolding states_after_runs
runs_all P phase states = refl

pub active_all : (P : Rules) (phase : ℕ) (states : List VState) → active_from 0 (length states) P phase states ≡ all_active P phase states
unfolding all_active
active_all P phase states = refl

own-awake : (P : Rules) (phase v : ℕ) (s : VState) → P.wake phase s ≡ true → own_state P phase v s ≡ (P.begin phase v s).0
own-awake P phase v s awake = rw awake refl

own-asleep : (P : Rules) (phase v : ℕ) (s : VState) → P.wake phase s ≡ false → own_state P phase v s ≡ s
own-asleep P phase v s asleep = rw asleep refl

pub runs-awake : (P : Rules) (phase k : ℕ) (states next : List VState) → k < length states → P.wake phase (state_at states k) ≡ true
    → next ++ runs_from k P phase (drop k states) ≡ (next ++ (P.begin phase k (state_at states k)).0 ∷ []) ++ runs_from (k + 1) P phase (drop (k + 1) states)
runs-awake P phase k states next below awake =
    ap (λ (xs : List VState). next ++ xs)
    (at_drop_more (λ (rest : List VState). runs_from k P phase rest) states k (record { a = 0; b = 0; c = 0 }) below
    ∙ ap (λ (s : VState). s ∷ runs_from (k + 1) P phase (drop (k + 1) states)) (own-awake P phase k (state_at states k) awake))
    ∙ sym (append_assoc next ((P.begin phase k (state_at states k)).0 ∷ []) (runs_from (k + 1) P phase (drop (k + 1) states)))

pub runs-asleep : (P : Rules) (phase k : ℕ) (states next : List VState) → k < length states → P.wake phase (state_at states k) ≡ false
    → next ++ runs_from k P phase (drop k states) ≡ (next ++ state_at states k ∷ []) ++ runs_from (k + 1) P phase (drop (k + 1) states)
runs-asleep P phase k states next below asleep =
    ap (λ (xs : List VState). next ++ xs)
    (at_drop_more (λ (rest : List VState). runs_from k P phase rest) states k (record { a = 0; b = 0; c = 0 }) below
    ∙ ap (λ (s : VState). s ∷ runs_from (k + 1) P phase (drop (k + 1) states)) (own-asleep P phase k (state_at states k) asleep))
    ∙ sym (append_assoc next (state_at states k ∷ []) (runs_from (k + 1) P phase (drop (k + 1) states)))

pub runs-end : (P : Rules) (phase k : ℕ) (states next : List VState) → length states ≤ k → next ++ runs_from k P phase (drop k states) ≡ next
runs-end P phase k states next done =
    ap (λ (xs : List VState). next ++ xs) (at_drop_all (λ (rest : List VState). runs_from k P phase rest) states k done) ∙ append-nil next

active-more : (P : Rules) (phase k left more : ℕ) (states : List VState) (b : Bool) → left ≡ suc more → P.wake phase (state_at states k) ≡ b
    → active_from k left P phase states ≡ (if b then active_at P phase states k ∷ active_from (k + 1) more P phase states else active_from (k + 1) more P phase states)
active-more P phase k left more states true some is = rw (some, is) refl
active-more P phase k left more states false some is = rw (some, is) refl

pub active-awake : (P : Rules) (phase k left more : ℕ) (states : List VState) (active : List Active) → left ≡ suc more → P.wake phase (state_at states k) ≡ true
    → active ++ active_from k left P phase states ≡ (active ++ active_at P phase states k ∷ []) ++ active_from (k + 1) more P phase states
active-awake P phase k left more states active some awake =
    ap (λ (xs : List Active). active ++ xs) (active-more P phase k left more states true some awake)
    ∙ sym (append_assoc active (active_at P phase states k ∷ []) (active_from (k + 1) more P phase states))

pub active-asleep : (P : Rules) (phase k left more : ℕ) (states : List VState) (active : List Active) → left ≡ suc more → P.wake phase (state_at states k) ≡ false
    → active ++ active_from k left P phase states ≡ active ++ active_from (k + 1) more P phase states
active-asleep P phase k left more states active some asleep = ap (λ (xs : List Active). active ++ xs) (active-more P phase k left more states false some asleep)

pub active-end : (P : Rules) (phase k left : ℕ) (states : List VState) (active : List Active) → left ≡ 0 → active ++ active_from k left P phase states ≡ active
active-end P phase k left states active none = rw none (append-nil active)

-- an active vertex is one of all that the iteration has
pub awake_counted : (P : Rules) (phase k : ℕ) (states : List VState) (active : List Active) → k < length states → P.wake phase (state_at states k) ≡ true
    → active ++ active_from k (length states - k) P phase states ≡ all_active P phase states → length active + 1 ≤ length (all_active P phase states)
awake_counted P phase k states active below awake are =
    let more = length states - (k + 1) in
    let next = active ++ active_at P phase states k ∷ [] in
    let rest = active_from (k + 1) more P phase states in
    let whole : next ++ rest ≡ all_active P phase states = sym (active-awake P phase k (length states - k) more states active (omega arith) awake) ∙ are in
    omega (arith, ap (λ (xs : List Active). length xs) whole, length-append next rest, length-append active (active_at P phase states k ∷ []))

-- what the run in memory delivers is what the definition says
pub edges_are_needed : (P : Rules) (graph : Graph) (phase : ℕ) (states : List VState) → edges_over P.need graph (all_active P phase states) ≡ needed P graph phase states
unfolding edges_over all_active needed
edges_are_needed P graph phase states = flat_map-map (λ (from : Active). edges_of P.need graph from.v) (active_at P phase states) (active_vertices P phase states)

pub messages_are_mail : (P : Rules) (graph : Graph) (phase : ℕ) (states : List VState) → messages_over P P.need graph (all_active P phase states) ≡ mail P graph phase states
unfolding messages_over all_active mail
messages_are_mail P graph phase states = flat_map-map (sent_from P P.need graph) (active_at P phase states) (active_vertices P phase states)

pub length-active : (P : Rules) (phase : ℕ) (states : List VState) → length (all_active P phase states) ≡ length (active_vertices P phase states)
unfolding all_active
length-active P phase states = length-map (active_vertices P phase states) (active_at P phase states)

pub length-runs : (P : Rules) (phase : ℕ) (states : List VState) → length (states_after_runs P phase states) ≡ length states
unfolding states_after_runs
length-runs P phase states = length-map (enumerate_from 0 states) (λ (v, s). own_state P phase v s) ∙ length-enumerate_from 0 states

-- facts of every item, through filters and flat maps
kept_by : {X : Type 0} (Q : X → Type 0) (test : X → Bool) (x : X) (xs : List X) (b : Bool) → test x ≡ b → Q x → All (λ y. Q y × (test y ≡ true)) xs → All (λ y. Q y × (test y ≡ true)) (cond b (x ∷ xs) xs)
kept_by Q test x xs true is here rest = All-cons (λ y. Q y × (test y ≡ true)) x xs (here, is) rest
kept_by Q test x xs false is here rest = rest

All-filter : {X : Type 0} (Q : X → Type 0) (test : X → Bool) (xs : List X) → All Q xs → All (λ x. Q x × (test x ≡ true)) (filter test xs)
All-filter Q test [] all = All-nil (λ x. Q x × (test x ≡ true))
All-filter Q test (x ∷ xs) all = kept_by Q test x (filter test xs) (test x) refl (All-head Q x xs all) (All-filter Q test xs (All-tail Q x xs all))

All-flat_map : {X Y : Type 0} (Q : X → Type 0) (R : Y → Type 0) (f : X → List Y) → ((x : X) → Q x → All R (f x)) → (xs : List X) → All Q xs → All R (flat_map f xs)
All-flat_map Q R f each [] all = All-nil R
All-flat_map Q R f each (x ∷ xs) all = All-append R (f x) (flat_map f xs) (each x (All-head Q x xs all)) (All-flat_map Q R f each xs (All-tail Q x xs all))

All-range : (top k n : ℕ) → k + n ≤ top → All (λ v. v < top) (range_with_len k n)
All-range top k zero fits = All-nil (λ v. v < top)
All-range top k (suc n) fits = All-cons (λ v. v < top) k (range_with_len (k + 1) n) (omega arith) (All-range top (k + 1) n (omega arith))

-- an active vertex is a vertex, and awake
pub All-active : (P : Rules) (phase : ℕ) (states : List VState) → All (λ v. (v < length states) × (P.wake phase (state_at states v) ≡ true)) (active_vertices P phase states)
All-active P phase states = All-filter (λ v. v < length states) (λ v. P.wake phase (state_at states v)) (range_with_len 0 (length states)) (All-range (length states) 0 (length states) (omega arith))

pub All-active_below : (P : Rules) (phase : ℕ) (states : List VState) → All (λ (from : Active). from.v < length states) (all_active P phase states)
unfolding all_active
All-active_below P phase states = All-map (λ (from : Active). from.v < length states) (active_at P phase states) (active_vertices P phase states)
    (All-weaker (λ v. (v < length states) × (P.wake phase (state_at states v) ≡ true)) (λ v. v < length states) (λ v both. both.0) (active_vertices P phase states) (All-active P phase states))

-- there are at most as many needed entries as entries
few_of : (need : Need) (graph : Graph) (v : ℕ) → length (edges_of need graph v) ≤ length (row graph.outs v) + length (row graph.ins v)
few_of Need.Out graph v = omega (arith, length-edges_from v Dir.Out 0 (row graph.outs v))
few_of Need.In graph v = omega (arith, length-edges_from v Dir.In 0 (row graph.ins v))
few_of Need.Both graph v = omega (arith, length-edges_from v Dir.Out 0 (row graph.outs v), length-edges_from v Dir.In 0 (row graph.ins v), length-append (edges_from v Dir.Out 0 (row graph.outs v)) (edges_from v Dir.In 0 (row graph.ins v)))

few_over : (need : Need) (graph : Graph) (vs : List ℕ) → length (flat_map (edges_of need graph) vs) ≤ sum_by (λ v. length (row graph.outs v)) vs + sum_by (λ v. length (row graph.ins v)) vs
few_over need graph [] = omega arith
few_over need graph (v ∷ vs) = omega (arith, few_of need graph v, few_over need graph vs, length-append (edges_of need graph v) (flat_map (edges_of need graph) vs), sum_by-cons (λ v. length (row graph.outs v)) v vs, sum_by-cons (λ v. length (row graph.ins v)) v vs)

less_by : (f : ℕ → ℕ) (x : ℕ) (xs : List ℕ) (more : ℕ) (b : Bool) → sum_by f xs ≤ more → sum_by f (cond b (x ∷ xs) xs) ≤ f x + more
less_by f x xs more true less = omega (arith, sum_by-cons f x xs)
less_by f x xs more false less = omega arith

sum_filter : (f : ℕ → ℕ) (test : ℕ → Bool) (xs : List ℕ) → sum_by f (filter test xs) ≤ sum_by f xs
sum_filter f test [] = omega arith
sum_filter f test (x ∷ xs) =
    let less : sum_by f (filter test (x ∷ xs)) ≤ f x + sum_by f xs = less_by f x (filter test xs) (sum_by f xs) (test x) (sum_filter f test xs) in
    omega (arith, less, sum_by-cons f x xs)

rows_are : (rows : List (List Entry)) → rows ≡ map (row rows) (range_with_len 0 (length rows))
rows_are rows = fill_by_all (row rows) rows (length rows) [] refl (λ k below. refl)

sum_map : (rows : List (List Entry)) (vs : List ℕ) → sum_by length (map (row rows) vs) ≡ sum_by (λ v. length (row rows v)) vs
sum_map rows [] = refl
sum_map rows (v ∷ vs) =
    sum_by-cons (λ (entries : List Entry). length entries) (row rows v) (map (row rows) vs) ∙ ap (λ (n : ℕ). length (row rows v) + n) (sum_map rows vs) ∙ sym (sum_by-cons (λ v. length (row rows v)) v vs)

sum_rows : (rows : List (List Entry)) (n : ℕ) → length rows ≡ n → sum_by (λ v. length (row rows v)) (range_with_len 0 n) ≡ sum_by length rows
sum_rows rows n is = rw (sym is) (sym (ap (sum_by length) (rows_are rows) ∙ sum_map rows (range_with_len 0 (length rows))))

pub few_needed : (P : Rules) (graph : Graph) (phase : ℕ) (states : List VState) → IsWithinLimits graph → length states ≡ graph.n → length (needed P graph phase states) ≤ 2 ^ 27
unfolding needed
few_needed P graph phase states within count =
    let awake : ℕ → Bool = λ v. P.wake phase (state_at states v) in
    let all = range_with_len 0 (length states) in
    omega (
      arith,
      few_over P.need graph (active_vertices P phase states),
      sum_filter (λ v. length (row graph.outs v)) awake all,
      sum_filter (λ v. length (row graph.ins v)) awake all,
      sum_rows graph.outs (length states) (within.out_side.row_count ∙ sym count),
      sum_rows graph.ins (length states) (within.in_side.row_count ∙ sym count),
      within.out_side.entry_count,
      within.in_side.entry_count,
    )

length_less : {X : Type 0} (x : X) (xs : List X) (more : ℕ) (b : Bool) → length xs ≤ more → length (cond b (x ∷ xs) xs) ≤ suc more
length_less x xs more true less = omega arith
length_less x xs more false less = omega arith

length_filter : (test : ℕ → Bool) (xs : List ℕ) → length (filter test xs) ≤ length xs
length_filter test [] = omega arith
length_filter test (x ∷ xs) = length_less x (filter test xs) (length xs) (test x) (length_filter test xs)

pub few_active : (P : Rules) (phase : ℕ) (states : List VState) → length (active_vertices P phase states) ≤ length states
few_active P phase states =
    let awake : ℕ → Bool = λ v. P.wake phase (state_at states v) in
    let all = range_with_len 0 (length states) in
    omega (arith, length_filter awake all, length-range_with_len 0 (length states))

pub row_few : (n : ℕ) (weighted : Bool) (rows : List (List Entry)) (v : ℕ) → IsSide n weighted rows → v < n → length (row rows v) ≤ 2 ^ 26
row_few n weighted rows v side below = omega (arith, get_or-le-sum_by (λ (entries : List Entry). length entries) rows v [] (omega (arith, side.row_count, below)), side.entry_count)

-- the states after an iteration are in range
own_fits : (P : Rules) (phase v : ℕ) (s : VState) (b : Bool) → IsLawful P → phase < 2 ^ 64 → v < 2 ^ 32 → IsInRange s → P.wake phase s ≡ b → IsInRange (if b then (P.begin phase v s).0 else s)
own_fits P phase v s true lawful phase_fits v_fits s_fits is = lawful.begin_fits phase v s phase_fits v_fits s_fits is
own_fits P phase v s false lawful phase_fits v_fits s_fits is = s_fits

runs_fit : (k : ℕ) (P : Rules) (phase : ℕ) (states : List VState) → IsLawful P → phase < 2 ^ 64 → k + length states ≤ 2 ^ 32 → All IsInRange states → All IsInRange (runs_from k P phase states)
runs_fit k P phase [] lawful phase_fits k_fits all = All-nil IsInRange
runs_fit k P phase (s ∷ states) lawful phase_fits k_fits all =
    All-cons IsInRange (own_state P phase k s) (runs_from (k + 1) P phase states) (own_fits P phase k s (P.wake phase s) lawful phase_fits (omega arith) (All-head IsInRange s states all) refl)
    (runs_fit (k + 1) P phase states lawful phase_fits (omega arith) (All-tail IsInRange s states all))

abbrev pub MailFits : Mail → Type 0
MailFits message = message.message < 2 ^ 64

along_fits : (P : Rules) (carry : ℕ) (dir : Dir) (weighted : Bool) (entries : List Entry) → IsLawful P → carry < 2 ^ 64 → All (IsEntryOf weighted) entries → All MailFits (map (message_along P carry dir) entries)
along_fits P carry dir weighted entries lawful carry_fits all =
    All-map MailFits (message_along P carry dir) entries
    (All-weaker (IsEntryOf weighted) (λ entry. MailFits (message_along P carry dir entry)) (λ entry is. lawful.edge_fits carry dir entry carry_fits is.target_fits is.weight_fits) entries all)

row_fits : (n : ℕ) (weighted : Bool) (rows : List (List Entry)) (v : ℕ) → IsSide n weighted rows → v < n → All (IsEntryOf weighted) (row rows v)
row_fits n weighted rows v side below = All-get_or (λ (entries : List Entry). All (IsEntryOf weighted) entries) rows v [] (omega (arith, side.row_count, below)) side.all_entries

sent_fits : (P : Rules) (need : Need) (graph : Graph) (carry v : ℕ) → IsLawful P → IsWithinLimits graph → carry < 2 ^ 64 → v < graph.n
    → All MailFits (over_lists need graph v (λ dir entries. map (message_along P carry dir) entries))
sent_fits P Need.Out graph carry v lawful within carry_fits below = along_fits P carry Dir.Out graph.weighted (row graph.outs v) lawful carry_fits (row_fits graph.n graph.weighted graph.outs v within.out_side below)
sent_fits P Need.In graph carry v lawful within carry_fits below = along_fits P carry Dir.In graph.weighted (row graph.ins v) lawful carry_fits (row_fits graph.n graph.weighted graph.ins v within.in_side below)
sent_fits P Need.Both graph carry v lawful within carry_fits below =
    All-append MailFits (map (message_along P carry Dir.Out) (row graph.outs v)) (map (message_along P carry Dir.In) (row graph.ins v))
    (along_fits P carry Dir.Out graph.weighted (row graph.outs v) lawful carry_fits (row_fits graph.n graph.weighted graph.outs v within.out_side below))
    (along_fits P carry Dir.In graph.weighted (row graph.ins v) lawful carry_fits (row_fits graph.n graph.weighted graph.ins v within.in_side below))

-- every message of an iteration is in range
pub mail_fits : (P : Rules) (graph : Graph) (phase : ℕ) (states : List VState) → IsLawful P → IsWithinLimits graph → phase < 2 ^ 64 → AreStates graph.n states → All MailFits (mail P graph phase states)
unfolding mail
mail_fits P graph phase states lawful within phase_fits are =
    All-flat_map (λ v. (v < length states) × (P.wake phase (state_at states v) ≡ true)) MailFits (λ v. (ran P graph phase v (state_at states v)).messages)
    (λ v is.
    let s_fits = All-get_or IsInRange states v (record { a = 0; b = 0; c = 0 }) is.0 are.all_fit in
    let v_fits : v < 2 ^ 32 = omega (arith, is.0, are.state_count, within.vertex_count) in
    sent_fits P P.need graph (P.begin phase v (state_at states v)).1 v lawful within (lawful.carry_fits phase v (state_at states v) phase_fits v_fits s_fits is.1) (omega (arith, is.0, are.state_count)))
    (active_vertices P phase states) (All-active P phase states)

fold_fits : (P : Rules) (s : VState) (values : List ℕ) → IsLawful P → IsInRange s → All (λ m. m < 2 ^ 64) values → IsInRange (fold P.receive s values)
fold_fits P s [] lawful s_fits all = s_fits
fold_fits P s (m ∷ values) lawful s_fits all =
    fold_fits P (P.receive s m) values lawful (lawful.receive_fits s m s_fits (All-head (λ m. m < 2 ^ 64) m values all)) (All-tail (λ m. m < 2 ^ 64) m values all)

sent_to_fits : (v : ℕ) (messages : List Mail) → All MailFits messages → All (λ m. m < 2 ^ 64) (sent_to v messages)
sent_to_fits v messages all =
    All-map (λ m. m < 2 ^ 64) (λ (message : Mail). message.message) (filter (λ message. message.target == v) messages)
    (All-weaker (λ (message : Mail). MailFits message × ((message.target == v) ≡ true)) MailFits (λ message both. both.0) (filter (λ message. message.target == v) messages)
    (All-filter MailFits (λ message. message.target == v) messages all))

from_fits : (k : ℕ) (P : Rules) (messages : List Mail) (states : List VState) → IsLawful P → All MailFits messages → All IsInRange states → All IsInRange (map (λ (v, s). fold P.receive s (sent_to v messages)) (enumerate_from k states))
from_fits k P messages [] lawful mail_all all = All-nil IsInRange
from_fits k P messages (s ∷ states) lawful mail_all all =
    All-cons IsInRange (fold P.receive s (sent_to k messages)) (map (λ (v, s). fold P.receive s (sent_to v messages)) (enumerate_from (k + 1) states))
    (fold_fits P s (sent_to k messages) lawful (All-head IsInRange s states all) (sent_to_fits k messages mail_all))
    (from_fits (k + 1) P messages states lawful mail_all (All-tail IsInRange s states all))

pub folded_fits : (P : Rules) (messages : List Mail) (states : List VState) → IsLawful P → All MailFits messages → All IsInRange states → All IsInRange (folded P messages states)
unfolding folded
folded_fits P messages states lawful mail_all all = from_fits 0 P messages states lawful mail_all all

pub runs_all_fit : (P : Rules) (phase : ℕ) (states : List VState) → IsLawful P → phase < 2 ^ 64 → length states ≤ 2 ^ 32 → All IsInRange states → All IsInRange (states_after_runs P phase states)
unfolding states_after_runs
runs_all_fit P phase states lawful phase_fits few all = runs_fit 0 P phase states lawful phase_fits (omega arith) all

pub after_are_states : (P : Rules) (graph : Graph) (phase : ℕ) (states : List VState) → IsLawful P → IsWithinLimits graph → phase < 2 ^ 64 → AreStates graph.n states → AreStates graph.n (after P graph phase states)
unfolding after
after_are_states P graph phase states lawful within phase_fits are = record {
  state_count = length-folded P (mail P graph phase states) (states_after_runs P phase states) ∙ length-runs P phase states ∙ are.state_count;
  all_fit = folded_fits P (mail P graph phase states) (states_after_runs P phase states) lawful (mail_fits P graph phase states lawful within phase_fits are)
      (runs_all_fit P phase states lawful phase_fits (omega (arith, are.state_count, within.vertex_count)) are.all_fit);
}

-- what the run in memory answers of an iteration is the definition's
pub plain_iteration : (P : Rules) (graph : Graph) (phase : ℕ) (states : List VState) (iteration : Iteration)
    → find (is_bad graph.n) (needed P graph phase states) ≡ None
    → iteration.states ≡ folded P (mail P graph phase states) (states_after_runs P phase states)
    → iteration.active ≡ length (active_vertices P phase states) → iteration.messages ≡ length (needed P graph phase states)
    → IsIteration P graph phase states iteration
unfolding first_bad after begun_at
plain_iteration P graph phase states iteration good is_states is_active is_messages = record { no_bad_edge = good; next_states = is_states; active_count = is_active; message_count = is_messages }

pub plain_bad : (P : Rules) (graph : Graph) (phase : ℕ) (states : List VState) (bad : BadEdge) → find (is_bad graph.n) (needed P graph phase states) ≡ Some bad → first_bad P graph phase states ≡ Some bad
unfolding first_bad
plain_bad P graph phase states bad is = is

-- the opening states, one vertex more, and that they are in range
abbrev pub opening_from : ℕ → ℕ → Rules → Graph → List VState
opening_from k left P graph = map (λ v. P.init v (length (row graph.outs v)) (length (row graph.ins v))) (range_with_len k left)

pub opening_all : (P : Rules) (graph : Graph) → opening_from 0 graph.n P graph ≡ opening_states P graph
unfolding opening_states
opening_all P graph = refl

pub opening-more : (P : Rules) (graph : Graph) (k left more : ℕ) (states : List VState) (s : VState) → left ≡ suc more → s ≡ P.init k (length (row graph.outs k)) (length (row graph.ins k))
    → states ++ opening_from k left P graph ≡ (states ++ s ∷ []) ++ opening_from (k + 1) more P graph
opening-more P graph k left more states s some is =
    ap (λ (n : ℕ). states ++ opening_from k n P graph) some
    ∙ ap (λ (x : VState). states ++ (x ∷ opening_from (k + 1) more P graph)) (sym is)
    ∙ sym (append_assoc states (s ∷ []) (opening_from (k + 1) more P graph))

pub opening-end : (P : Rules) (graph : Graph) (k left : ℕ) (states : List VState) → left ≡ 0 → states ++ opening_from k left P graph ≡ states
opening-end P graph k left states none = ap (λ (n : ℕ). states ++ opening_from k n P graph) none ∙ append-nil states

pub opening_are_states : (P : Rules) (graph : Graph) → IsLawful P → IsWithinLimits graph → AreStates graph.n (opening_states P graph)
unfolding opening_states
opening_are_states P graph lawful within = record {
  state_count = length-map-range_with_len (λ v. P.init v (length (row graph.outs v)) (length (row graph.ins v))) 0 graph.n;
  all_fit = All-map IsInRange (λ v. P.init v (length (row graph.outs v)) (length (row graph.ins v))) (range_with_len 0 graph.n)
      (All-weaker (λ v. v < graph.n) (λ v. IsInRange (P.init v (length (row graph.outs v)) (length (row graph.ins v))))
      (λ v below. lawful.init_fits v (length (row graph.outs v)) (length (row graph.ins v)) (omega (arith, below, within.vertex_count))
      (omega (arith, row_few graph.n graph.weighted graph.outs v within.out_side below)) (omega (arith, row_few graph.n graph.weighted graph.ins v within.in_side below)))
      (range_with_len 0 graph.n) (All-range graph.n 0 graph.n (omega arith)));
}

pub after_is : (P : Rules) (graph : Graph) (phase : ℕ) (states : List VState) → folded P (mail P graph phase states) (states_after_runs P phase states) ≡ after P graph phase states
unfolding after
after_is P graph phase states = refl

pub plain_folded : (P : Rules) (graph : Graph) (phase : ℕ) (states : List VState) (need : Need) (active : List Active) (next new : List VState)
    → need ≡ P.need → active ≡ all_active P phase states → next ≡ states_after_runs P phase states → new ≡ folded P (messages_over P need graph active) next
    → new ≡ folded P (mail P graph phase states) (states_after_runs P phase states)
plain_folded P graph phase states need active next new is_need is_active is_next is_new =
    is_new ∙ ap (λ (n : Need). folded P (messages_over P n graph active) next) is_need ∙ ap (λ (xs : List Active). folded P (messages_over P P.need graph xs) next) is_active
    ∙ ap (folded P (messages_over P P.need graph (all_active P phase states))) is_next
    ∙ ap (λ (messages : List Mail). folded P messages (states_after_runs P phase states)) (messages_are_mail P graph phase states)

-- a whole vector written through its slice
pub written : (n : ℕ) (new rest : List VState) → n ≡ length new → take n (new ++ rest) ≡ new
written n new rest is = ap (λ (k : ℕ). take k (new ++ rest)) is ∙ take-append_seam new rest
