-- After a settled run a vertex's number is the greatest vertex that reaches it.
use Rattle.std.proofs.Common.{◌≡◌, ℕ, ◌<◌, ◌≤◌, inl, inr, Bool, true, false, None, Ok, List, [], ◌∷◌, ◌++◌, length, max, refl, sym, ap, ◌∙◌, subst, arith}
use Rattle.std.specs.Prelude.{Contains, nat_lt, fold}
use Rattle.std.specs.List.{list_any}
use Rattle.std.proofs.lemmas.Bool.{both_ways, cases_Bool, cases_lt, ltb-false}
use Rattle.std.proofs.lemmas.List.{get_or_past}
use Rattle.std.proofs.lemmas.List.Folds.{list_any_at}
use Rattle.fg_base.specs.declared.plain.Dir.{Dir}
use Rattle.fg_base.specs.declared.plain.Entry.{Entry}
use Rattle.fg_base.specs.declared.plain.Need.TheVariants as Need
use Rattle.fg_base.specs.declared.plain.Value.TheVariants.{One}
use Rattle.fg_base.specs.declared.plain.VState.{VState}
use Rattle.fg_model.specs.declared.graph.Graph.{Graph}
use Rattle.fg_model.specs.declared.run.End.{End}
use Rattle.fg_model.specs.Graph.{IsWithinLimits, row}
use Rattle.fg_model.specs.Iteration.{after, mail, own_state, sent_to, state_at}
use Rattle.fg_model.specs.Program.{Rules}
use Rattle.fg_model.specs.Run.{answer_of, is_some_active, opening_states, run}
use Rattle.fg_model.specs.VertexRun.{message_along}
use Rattle.fg_model.proofs.AfterLemmas.{after_at, awake_at, each_sent, length-after, length-opening, mail_down, mail_up, opening_at, sent_each}
use Rattle.fg_model.proofs.Each.{Each, each-map, each_at, each_mapped, each_of, each_weaker}
use Rattle.fg_model.proofs.Keeps.{IsKept, answer_keeps}
use Rattle.fg_walks.specs.Walks.{IsWalk}
use Rattle.fg_greatest.specs.Greatest.{greatest, raised}
use Rattle.fg_greatest.specs.Reaching.{GivesGreatestReaching, IsGreatestReaching, Reaches}

-- the same rules, open
abbrev rules : Rules
rules = record {
  need = Need.Out;
  init = λ v outs ins. record { a = v; b = 0; c = 0 };
  begin = λ phase v s. (record { a = s.a; b = s.a; c = s.c }, s.a);
  edge = λ carry dir entry. carry;
  receive = raised;
  combine = λ x y. max x y;
  wake = λ phase s. nat_lt s.b s.a;
  bid = λ s. None;
  show = λ s. One s.a;
}

-- the number of a vertex, and what it last sent on
abbrev at : List VState → ℕ → ℕ
at states v = (state_at states v).a

abbrev last : List VState → ℕ → ℕ
last states v = (state_at states v).b

-- what a vertex sent on each target has heard
abbrev Heard : Graph → List VState → ℕ → Entry → Type 0
Heard graph states b entry = entry.target < graph.n → b ≤ at states entry.target

record IsRising (graph : Graph) (states : List VState) : Type 0 where
  counted : length states ≡ graph.n
  reached : (v : ℕ) → v < graph.n → Reaches graph.outs (at states v) v
  own : (v : ℕ) → v < graph.n → v ≤ at states v
  heard : (v : ℕ) → v < graph.n → Each (Heard graph states (last states v)) (row graph.outs v)

-- numbers folded into a state
fold_greatest : (s : VState) (ms : List ℕ) → s.a ≤ (fold raised s ms).a
fold_greatest s [] = omega arith
fold_greatest s (m ∷ ms) = omega (arith, fold_greatest (raised s m) ms)

fold_each : (s : VState) (ms : List ℕ) → Each (λ m. m ≤ (fold raised s ms).a) ms
fold_each s [] = tt
fold_each s (m ∷ ms) = (omega (arith, fold_greatest (raised s m) ms), fold_each (raised s m) ms)

max_one : (P : ℕ → Type 0) (x y : ℕ) → P x → P y → P (max x y)
max_one P x y first next = elim (cases_lt x y) [
  | inl low ↦ let e : y ≡ max x y = omega arith in subst P e next
  | inr high ↦ let e : x ≡ max x y = omega arith in subst P e first
]

fold_from : (P : ℕ → Type 0) (s : VState) (ms : List ℕ) → P s.a → Each P ms → P (fold raised s ms).a
fold_from P s [] here each = here
fold_from P s (m ∷ ms) here each = fold_from P (raised s m) ms (max_one P s.a m here each.0) each.1

fold_same : (s : VState) (ms : List ℕ) → (fold raised s ms).b ≡ s.b
fold_same s [] = refl
fold_same s (m ∷ ms) = fold_same (raised s m) ms

-- the opening
opens : (graph : Graph) → IsRising graph (opening_states rules graph)
opens graph =
    let states = opening_states rules graph in
    record {
      counted = length-opening rules graph;
      reached = λ v below. ([], ap (λ (s : VState). s.a) (opening_at rules graph v below));
      own = λ v below. omega (arith, ap (λ (s : VState). s.a) (opening_at rules graph v below));
      heard = λ v below. each_of (Heard graph states (last states v)) (row graph.outs v) (λ entry has target_below. omega (arith, ap (λ (s : VState). s.b) (opening_at rules graph v below)));
    }

-- a vertex's own state
own_number : (phase v : ℕ) (s : VState) (awake : Bool) → nat_lt s.b s.a ≡ awake → (own_state rules phase v s).a ≡ s.a
own_number phase v s true is = rw is refl
own_number phase v s false is = rw is refl

own_sent : (phase v : ℕ) (s : VState) → nat_lt s.b s.a ≡ true → (own_state rules phase v s).b ≡ s.a
own_sent phase v s is = rw is refl

own_resting : (phase v : ℕ) (s : VState) → nat_lt s.b s.a ≡ false → (own_state rules phase v s).b ≡ s.b
own_resting phase v s is = rw is refl

-- the number after an iteration, and what was sent on by then
after_number : (graph : Graph) (phase v : ℕ) (states : List VState) → v < length states
    → at (after rules graph phase states) v ≡ (fold raised (own_state rules phase v (state_at states v)) (sent_to v (mail rules graph phase states))).a
after_number graph phase v states below = ap (λ (s : VState). s.a) (after_at rules graph phase v states below)

after_sent : (graph : Graph) (phase v : ℕ) (states : List VState) → v < length states
    → last (after rules graph phase states) v ≡ (own_state rules phase v (state_at states v)).b
after_sent graph phase v states below =
    ap (λ (s : VState). s.b) (after_at rules graph phase v states below) ∙ fold_same (own_state rules phase v (state_at states v)) (sent_to v (mail rules graph phase states))

-- no number falls
rises : (graph : Graph) (phase v : ℕ) (states : List VState) → v < length states → at states v ≤ at (after rules graph phase states) v
rises graph phase v states below =
    let own = own_state rules phase v (state_at states v) in
    let ms = sent_to v (mail rules graph phase states) in
    omega (arith, after_number graph phase v states below, fold_greatest own ms, own_number phase v (state_at states v) (awake_at rules phase states v) refl)

-- every message to a vertex was heard
all_heard : (graph : Graph) (phase : ℕ) (states : List VState) → length states ≡ graph.n
    → Each (λ message. message.target < graph.n → message.message ≤ at (after rules graph phase states) message.target) (mail rules graph phase states)
all_heard graph phase states counted =
    let next = after rules graph phase states in
    let messages = mail rules graph phase states in
    each_of (λ message. message.target < graph.n → message.message ≤ at next message.target) messages (λ message has target_below.
    let below : message.target < length states = omega (arith, counted, target_below) in
    let own = own_state rules phase message.target (state_at states message.target) in
    let to = each_sent (λ m. m ≤ (fold raised own (sent_to message.target messages)).a) message.target messages (fold_each own (sent_to message.target messages)) in
    let high = each_at (λ other. other.target ≡ message.target → other.message ≤ (fold raised own (sent_to message.target messages)).a) messages message to has refl in
    omega (arith, high, after_number graph phase message.target states below))

-- one entry more
walk_more : (outs : List (List Entry)) (u v : ℕ) (entries : List Entry) (entry : Entry) → IsWalk outs u entries v → Contains (row outs v) entry → IsWalk outs u (entries ++ entry ∷ []) entry.target
walk_more outs u v [] entry walk has = (let P : ℕ → Type 0 = λ w. Contains (row outs w) entry in subst P (sym walk) has, refl)
walk_more outs u v (first ∷ entries) entry walk has = (walk.0, walk_more outs first.target v entries entry walk.1 has)

-- what reaches a vertex
reached_next : (graph : Graph) (phase v : ℕ) (states : List VState) → IsRising graph states → v < graph.n → Reaches graph.outs (at (after rules graph phase states) v) v
reached_next graph phase v states is below =
    let own = own_state rules phase v (state_at states v) in
    let messages = mail rules graph phase states in
    let Is : ℕ → ℕ → Type 0 = λ w x. Reaches graph.outs x w in
    let sent : Each (λ message. Is message.target message.message) messages =
    mail_up rules graph phase states (λ message. Is message.target message.message) (λ u u_below awake.
    let walk = is.reached u (omega (arith, is.counted)) in
    each-map (λ message. Is message.target message.message) (message_along rules (at states u) Dir.Out) (row graph.outs u)
    (each_of (λ entry. Is entry.target (at states u)) (row graph.outs u) (λ entry has.
    (walk.0 ++ entry ∷ [], walk_more graph.outs (at states u) u walk.0 entry walk.1 has)))) in
    let here : Is v own.a = subst (Is v) (sym (own_number phase v (state_at states v) (awake_at rules phase states v) refl)) (is.reached v below) in
    subst (Is v) (sym (after_number graph phase v states (omega (arith, is.counted)))) (fold_from (Is v) own (sent_to v messages) here (sent_each Is v messages sent))

-- what a vertex sent on
heard_next : (graph : Graph) (phase v : ℕ) (states : List VState) → IsRising graph states → v < graph.n
    → Each (Heard graph (after rules graph phase states) (last (after rules graph phase states) v)) (row graph.outs v)
heard_next graph phase v states is below =
    let next = after rules graph phase states in
    let v_below : v < length states = omega (arith, is.counted) in
    let sent = after_sent graph phase v states v_below in
    let Is : ℕ → Type 0 = λ b. Each (Heard graph next b) (row graph.outs v) in
    elim (cases_Bool (awake_at rules phase states v)) [
      | inl awake ↦
          let all = mail_down rules graph phase states (λ message. message.target < graph.n → message.message ≤ at next message.target) (all_heard graph phase states is.counted) v v_below awake in
          subst Is (sym (sent ∙ own_sent phase v (state_at states v) awake))
          (each_mapped (λ message. message.target < graph.n → message.message ≤ at next message.target) (message_along rules (at states v) Dir.Out) (row graph.outs v) all)
      | inr asleep ↦
          let more : (entry : Entry) → Heard graph states (last states v) entry → Heard graph next (last states v) entry =
          λ entry heard target_below. omega (arith, heard target_below, rises graph phase entry.target states (omega (arith, is.counted, target_below))) in
          subst Is (sym (sent ∙ own_resting phase v (state_at states v) asleep))
          (each_weaker (Heard graph states (last states v)) (Heard graph next (last states v)) more (row graph.outs v) (is.heard v below))
    ]

keeps : (graph : Graph) → IsKept rules graph (λ phase states. IsRising graph states)
keeps graph = record {
  rises = λ phase bid states idle is_bid is. is;
  iterates = λ phase states good is. record {
    counted = length-after rules graph phase states ∙ is.counted;
    reached = λ v below. reached_next graph phase v states is below;
    own = λ v below. omega (arith, is.own v below, rises graph phase v states (omega (arith, is.counted)));
    heard = λ v below. heard_next graph phase v states is below;
  };
}

-- at rest nobody has more to send
rested : (phase v : ℕ) (states : List VState) → is_some_active rules phase states ≡ false → v < length states → at states v ≤ last states v
rested phase v states idle below = elim (cases_Bool (awake_at rules phase states v)) [
  | inl awake ↦ absurd (both_ways (list_any (rules.wake phase) states) idle (list_any_at (rules.wake phase) states v (record { a = 0; b = 0; c = 0 }) below awake))
  | inr asleep ↦ ltb-false (last states v) (at states v) asleep
]

record IsRested (graph : Graph) (states : List VState) : Type 0 where
  is_rising : IsRising graph states
  rows : length graph.outs ≡ graph.n
  at_rest : (v : ℕ) → v < graph.n → at states v ≤ last states v

-- what is no vertex has no entries, so that a walk to a vertex begins at one
has_row : (rows : List (List Entry)) (n v : ℕ) (entry : Entry) → length rows ≡ n → Contains (row rows v) entry → v < n
has_row rows n v entry counted has = elim (cases_lt v n) [
  | inl below ↦ below
  | inr past ↦
      let e : row rows v ≡ [] = get_or_past rows v [] (omega (arith, counted)) in
      let P : List Entry → Type 0 = λ xs. Contains xs entry in
      let none_has : Contains [] entry = subst P e has in
      let low : none_has.0 < 0 = none_has.1 in
      absurd (omega arith)
]

begins_below : (outs : List (List Entry)) (n u v : ℕ) (entries : List Entry) → length outs ≡ n → IsWalk outs u entries v → v < n → u < n
begins_below outs n u v [] counted walk below = omega (arith, walk)
begins_below outs n u v (entry ∷ entries) counted walk below = has_row outs n u entry counted walk.0

-- along a walk no number falls
along : (graph : Graph) (states : List VState) → IsRested graph states → (entries : List Entry) (u v : ℕ) → v < graph.n → IsWalk graph.outs u entries v → u < graph.n → at states u ≤ at states v
along graph states is [] u v below walk u_below = let same : at states u ≡ at states v = ap (at states) walk in omega (arith, same)
along graph states is (entry ∷ entries) u v below walk u_below =
    let target_below = begins_below graph.outs graph.n entry.target v entries is.rows walk.1 below in
    let heard = each_at (Heard graph states (last states u)) (row graph.outs u) entry (is.is_rising.heard u u_below) walk.0 target_below in
    omega (arith, is.at_rest u u_below, heard, along graph states is entries entry.target v below walk.1 target_below)

greatest_of : (graph : Graph) (states : List VState) (v : ℕ) → IsRested graph states → v < graph.n → IsGreatestReaching graph.outs v (at states v)
greatest_of graph states v is below = record {
  reaches = is.is_rising.reached v below;
  none_greater = λ u walk.
      let u_below = begins_below graph.outs graph.n u v walk.0 is.rows walk.1 below in
      omega (arith, is.is_rising.own u u_below, along graph states is walk.0 u v below walk.1 u_below);
}

rests : (graph : Graph) (phase : ℕ) (states : List VState) → IsWithinLimits graph → IsRising graph states → is_some_active rules phase states ≡ false → IsRested graph states
rests graph phase states within is idle = record {
  is_rising = is;
  rows = within.out_side.row_count;
  at_rest = λ v below. rested phase v states idle (omega (arith, is.counted));
}

rules_give : (graph : Graph) (most : ℕ) (end : End) → IsWithinLimits graph → answer_of (run rules graph most) ≡ Ok end → end.settled ≡ true
    → (v : ℕ) → v < graph.n → (x : ℕ) × (rules.show (state_at end.states v) ≡ One x) × IsGreatestReaching graph.outs v x
rules_give graph most end within answer settled v below =
    let held = answer_keeps rules graph (λ phase states. IsRising graph states) most end (keeps graph) (opens graph) answer in
    (at end.states v, refl, greatest_of graph end.states v (rests graph end.phase end.states within held.kept (held.rest settled).idle) below)

pub values_are_greatest : GivesGreatestReaching
unfolding greatest
values_are_greatest graph most end within answer settled v below = rules_give graph most end within answer settled v below
