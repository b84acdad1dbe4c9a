-- What each iteration keeps of numbers that spread along out-entries.
use Rattle.std.proofs.Common.{◌≡◌, ℕ, ◌+◌, ◌*◌, ◌-◌, ◌<◌, ◌≤◌, ◌^◌, ◌⊎◌, inl, inr, Bool, List, [], ◌∷◌, ◌++◌, length, min, refl, sym, ap, ◌∙◌, subst, arith}
use Rattle.std.specs.Prelude.{Contains, fold, nat_lt, sum_by}
use Rattle.std.proofs.lemmas.Bool.{cases_Bool, cases_lt}
use Rattle.std.proofs.lemmas.List.{get_or_past}
use Rattle.std.proofs.lemmas.List.Sums.{sum_by-append}
use Rattle.fg_base.specs.declared.plain.Dir.{Dir}
use Rattle.fg_base.specs.declared.plain.Entry.{Entry}
use Rattle.fg_base.specs.declared.plain.VState.{VState}
use Rattle.fg_model.specs.declared.graph.Graph.{Graph}
use Rattle.fg_model.specs.Graph.{row}
use Rattle.fg_model.specs.Iteration.{after, mail, own_state, sent_to, state_at}
use Rattle.fg_model.specs.VertexRun.{message_along}
use Rattle.fg_walks.specs.Spread.{none, spread}
use Rattle.fg_walks.specs.Walks.{IsWalk}
use Rattle.fg_model.proofs.Each.{Each, each-map, each_at, each_mapped, each_of, each_weaker}
use Rattle.fg_model.proofs.AfterLemmas.{after_at, each_sent, length-after, mail_down, mail_up, sent_each}
use Rattle.fg_model.proofs.LeastFolds.{fold_each, fold_from, fold_least, fold_same, lowered}
use Rattle.fg_walks.proofs.Spread.{own_number, own_resting, own_sent}

-- the greatest cost of an entry
abbrev pub top : ℕ
top = 2 ^ 32 - 1

-- a walk whose costs come to x
pub record WalkTo (cost : Entry → ℕ) (outs : List (List Entry)) (source limit v x : ℕ) : Type 0 where
  pub entries : List Entry
  pub is_walk : IsWalk outs source entries v
  pub costs : sum_by cost entries ≡ x
  pub within : x ≤ limit

-- a vertex's number: nothing has reached it, or a walk of that cost leads there
abbrev pub Reached : (Entry → ℕ) → List (List Entry) → ℕ → ℕ → ℕ → ℕ → Type 0
Reached cost outs source limit v x = (x ≡ none) ⊎ WalkTo cost outs source limit v x

-- the number of a vertex
abbrev pub at : List VState → ℕ → ℕ
at states v = (state_at states v).a

-- what a vertex sent on: nothing yet, or each target's number is at most that with the entry's cost
abbrev pub Passed : (Entry → ℕ) → List (List Entry) → List VState → ℕ → ℕ → Type 0
Passed cost outs states v b = (b ≡ none) ⊎ Each (λ entry. at states entry.target ≤ b + cost entry) (row outs v)

pub record IsSpread (cost : Entry → ℕ) (graph : Graph) (source number : ℕ) (states : List VState) : Type 0 where
  pub counted : length states ≡ graph.n
  pub reached : (v : ℕ) → v < graph.n → Reached cost graph.outs source (number * top) v (at states v)
  pub passed : (v : ℕ) → v < graph.n → Passed cost graph.outs states v (state_at states v).b
  pub opened : at states source ≤ 0

-- no cost is above the greatest
pub record AreCosts (cost : Entry → ℕ) (outs : List (List Entry)) : Type 0 where
  pub low : (v : ℕ) (entry : Entry) → Contains (row outs v) entry → cost entry ≤ top

-- one entry more
walk_more : (outs : List (List Entry)) (u v : ℕ) (entries : List Entry) (entry : Entry) → IsWalk outs u entries v → Contains (row outs v) entry → IsWalk outs u (entries ++ entry ∷ []) entry.target
walk_more outs u v [] entry walk has = (let P : ℕ → Type 0 = λ w. Contains (row outs w) entry in subst P (sym walk) has, refl)
walk_more outs u v (first ∷ entries) entry walk has = (walk.0, walk_more outs first.target v entries entry walk.1 has)

later_reached : (cost : Entry → ℕ) (outs : List (List Entry)) (source limit later v x : ℕ) → limit ≤ later → Reached cost outs source limit v x → Reached cost outs source later v x
later_reached cost outs source limit later v x more (inl is) = inl is
later_reached cost outs source limit later v x more (inr walk) = inr (record { entries = walk.entries; is_walk = walk.is_walk; costs = walk.costs; within = omega (arith, walk.within) })

-- a message is none or the cost of a walk
message_reached : (cost : Entry → ℕ) (outs : List (List Entry)) (source limit v x : ℕ) (entry : Entry) → Contains (row outs v) entry → cost entry ≤ top → Reached cost outs source limit v x
    → Reached cost outs source (limit + top) entry.target (min (x + cost entry) none)
message_reached cost outs source limit v x entry has low (inl is) = inl (omega (arith, is))
message_reached cost outs source limit v x entry has low (inr walk) = elim (cases_lt (x + cost entry) none) [
  | inl below ↦ inr (record {
    entries = walk.entries ++ entry ∷ [];
    is_walk = walk_more outs source v walk.entries entry walk.is_walk has;
    costs = omega (arith, sum_by-append cost walk.entries (entry ∷ []), walk.costs);
    within = omega (arith, walk.within);
  })
  | inr past ↦ inl (omega arith)
]

-- whether a vertex has more to send
abbrev pub is_awake : List VState → ℕ → Bool
is_awake states v = nat_lt (state_at states v).a (state_at states v).b

-- the number after an iteration
after_number : (cost : Entry → ℕ) (graph : Graph) (source phase v : ℕ) (states : List VState) → v < length states
    → at (after (spread cost source) graph phase states) v ≡ (fold lowered (own_state (spread cost source) phase v (state_at states v)) (sent_to v (mail (spread cost source) graph phase states))).a
after_number cost graph source phase v states below = ap (λ (s : VState). s.a) (after_at (spread cost source) graph phase v states below)

pub past_number : (states : List VState) (v : ℕ) → length states ≤ v → at states v ≡ 0
past_number states v past = ap (λ (s : VState). s.a) (get_or_past states v (record { a = 0; b = 0; c = 0 }) past)

-- no number rises
falls : (cost : Entry → ℕ) (graph : Graph) (source phase v : ℕ) (states : List VState) → at (after (spread cost source) graph phase states) v ≤ at states v
falls cost graph source phase v states = elim (cases_lt v (length states)) [
  | inl below ↦
      let own = own_state (spread cost source) phase v (state_at states v) in
      let ms = sent_to v (mail (spread cost source) graph phase states) in
      omega (arith, after_number cost graph source phase v states below, fold_least own ms, own_number cost source phase v (state_at states v) (is_awake states v) refl)
  | inr past ↦ omega (arith, past_number (after (spread cost source) graph phase states) v (omega (arith, length-after (spread cost source) graph phase states)))
]

-- every message was heard
heard : (cost : Entry → ℕ) (graph : Graph) (source phase : ℕ) (states : List VState)
    → Each (λ message. at (after (spread cost source) graph phase states) message.target ≤ message.message) (mail (spread cost source) graph phase states)
heard cost graph source phase states =
    let next = after (spread cost source) graph phase states in
    let messages = mail (spread cost source) graph phase states in
    each_of (λ message. at next message.target ≤ message.message) messages (λ message has. elim (cases_lt message.target (length states)) [
      | inl below ↦
          let own = own_state (spread cost source) phase message.target (state_at states message.target) in
          let to = each_sent (λ m. (fold lowered own (sent_to message.target messages)).a ≤ m) message.target messages (fold_each own (sent_to message.target messages)) in
          let low = each_at (λ other. other.target ≡ message.target → (fold lowered own (sent_to message.target messages)).a ≤ other.message) messages message to has refl in
          omega (arith, low, after_number cost graph source phase message.target states below)
      | inr past ↦ omega (arith, past_number next message.target (omega (arith, length-after (spread cost source) graph phase states)))
    ])

-- what reached a vertex
reached_next : (cost : Entry → ℕ) (graph : Graph) (source number phase v : ℕ) (states : List VState) → AreCosts cost graph.outs → IsSpread cost graph source number states → v < graph.n
    → Reached cost graph.outs source (number * top + top) v (at (after (spread cost source) graph phase states) v)
reached_next cost graph source number phase v states costs is below =
    let messages = mail (spread cost source) graph phase states in
    let Is : ℕ → ℕ → Type 0 = λ w x. Reached cost graph.outs source (number * top + top) w x in
    let sent : Each (λ message. Is message.target message.message) messages =
    mail_up (spread cost source) graph phase states (λ message. Is message.target message.message) (λ u u_below awake.
    each-map (λ message. Is message.target message.message) (message_along (spread cost source) (at states u) Dir.Out) (row graph.outs u)
    (each_of (λ entry. Is entry.target (min (at states u + cost entry) none)) (row graph.outs u) (λ entry has.
    message_reached cost graph.outs source (number * top) u (at states u) entry has (costs.low u entry has) (is.reached u (omega (arith, is.counted)))))) in
    let own = own_state (spread cost source) phase v (state_at states v) in
    let here : Is v own.a = subst (Is v) (sym (own_number cost source phase v (state_at states v) (is_awake states v) refl))
    (later_reached cost graph.outs source (number * top) (number * top + top) v (at states v) (omega arith) (is.reached v below)) in
    subst (Is v) (sym (after_number cost graph source phase v states (omega (arith, is.counted)))) (fold_from (Is v) own (sent_to v messages) here (sent_each Is v messages sent))

-- what a vertex sent on
after_sent : (cost : Entry → ℕ) (graph : Graph) (source phase v : ℕ) (states : List VState) → v < length states
    → (state_at (after (spread cost source) graph phase states) v).b ≡ (own_state (spread cost source) phase v (state_at states v)).b
after_sent cost graph source phase v states below =
    ap (λ (s : VState). s.b) (after_at (spread cost source) graph phase v states below)
    ∙ fold_same (own_state (spread cost source) phase v (state_at states v)) (sent_to v (mail (spread cost source) graph phase states))

later_passed : (cost : Entry → ℕ) (outs : List (List Entry)) (states next : List VState) (v b : ℕ) → ((w : ℕ) → at next w ≤ at states w) → Passed cost outs states v b → Passed cost outs next v b
later_passed cost outs states next v b lower (inl is) = inl is
later_passed cost outs states next v b lower (inr each) =
    inr (each_weaker (λ entry. at states entry.target ≤ b + cost entry) (λ entry. at next entry.target ≤ b + cost entry) (λ entry low. omega (arith, low, lower entry.target)) (row outs v) each)

passed_next : (cost : Entry → ℕ) (graph : Graph) (source number phase v : ℕ) (states : List VState) → IsSpread cost graph source number states → v < graph.n
    → Passed cost graph.outs (after (spread cost source) graph phase states) v (state_at (after (spread cost source) graph phase states) v).b
passed_next cost graph source number phase v states is below =
    let next = after (spread cost source) graph phase states in
    let v_below : v < length states = omega (arith, is.counted) in
    let sent = after_sent cost graph source phase v states v_below in
    let Is : ℕ → Type 0 = λ b. Passed cost graph.outs next v b in
    elim (cases_Bool (is_awake states v)) [
      | inl awake ↦
          let all = mail_down (spread cost source) graph phase states (λ message. at next message.target ≤ message.message) (heard cost graph source phase states) v v_below awake in
          let along = each_mapped (λ message. at next message.target ≤ message.message) (message_along (spread cost source) (at states v) Dir.Out) (row graph.outs v) all in
          let low = each_weaker (λ entry. at next entry.target ≤ min (at states v + cost entry) none) (λ entry. at next entry.target ≤ at states v + cost entry) (λ entry h. omega (arith, h)) (row graph.outs v) along in
          subst Is (sym (sent ∙ own_sent cost source phase v (state_at states v) awake)) (inr low)
      | inr asleep ↦
          subst Is (sym (sent ∙ own_resting cost source phase v (state_at states v) asleep))
          (later_passed cost graph.outs states next v (state_at states v).b (λ w. falls cost graph source phase w states) (is.passed v below))
    ]

pub spread_next : (cost : Entry → ℕ) (graph : Graph) (source : ℕ) → AreCosts cost graph.outs → (number phase : ℕ) (states : List VState) → IsSpread cost graph source number states
    → IsSpread cost graph source (number + 1) (after (spread cost source) graph phase states)
spread_next cost graph source costs number phase states is = record {
  counted = length-after (spread cost source) graph phase states ∙ is.counted;
  reached = λ v below. later_reached cost graph.outs source (number * top + top) ((number + 1) * top) v (at (after (spread cost source) graph phase states) v) (omega arith)
      (reached_next cost graph source number phase v states costs is below);
  passed = λ v below. passed_next cost graph source number phase v states is below;
  opened = omega (arith, is.opened, falls cost graph source phase source states);
}
