-- After a settled run on a mirror a component's number is its least vertex.
use Rattle.std.proofs.Common.{◌≡◌, ℕ, ◌<◌, ◌≤◌, ◌⊎◌, inl, inr, Bool, true, false, None, Ok, List, [], ◌∷◌, length, map, min, refl, sym, ap, ◌∙◌, subst, arith}
use Rattle.std.specs.Prelude.{Contains, nat_lt, fold}
use Rattle.std.specs.List.{list_any}
use Rattle.std.proofs.lemmas.Bool.{both_ways, cases_Bool, cases_lt, ltb-false}
use Rattle.std.proofs.lemmas.List.{get_or_past}
use Rattle.std.proofs.lemmas.List.Folds.{list_any_at}
use Rattle.fg_base.specs.declared.plain.Dir.{Dir}
use Rattle.fg_base.specs.declared.plain.Entry.{Entry}
use Rattle.fg_base.specs.declared.plain.Need.TheVariants as Need
use Rattle.fg_base.specs.declared.plain.Value.TheVariants.{One}
use Rattle.fg_base.specs.declared.plain.VState.{VState}
use Rattle.fg_model.specs.declared.graph.Graph.{Graph}
use Rattle.fg_model.specs.declared.mail.Mail.{Mail}
use Rattle.fg_model.specs.declared.run.End.{End}
use Rattle.fg_model.specs.Graph.{IsWithinLimits, row}
use Rattle.fg_model.specs.Iteration.{after, mail, own_state, sent_to, state_at}
use Rattle.fg_model.specs.Mirror.{IsMirror}
use Rattle.fg_model.specs.Program.{Rules}
use Rattle.fg_model.specs.Run.{answer_of, is_some_active, opening_states, run}
use Rattle.fg_model.specs.VertexRun.{message_along}
use Rattle.fg_model.proofs.AfterLemmas.{after_at, awake_at, each_sent, length-after, length-opening, mail_down, mail_up, opening_at, sent_each}
use Rattle.fg_model.proofs.Each.{Each, each-append, each-map, each_at, each_mapped, each_of, each_parts, each_weaker}
use Rattle.fg_model.proofs.Keeps.{IsKept, answer_keeps}
use Rattle.fg_model.proofs.LeastFolds.{fold_each, fold_from, fold_least, fold_same, lowered}
use Rattle.fg_model.proofs.Mirrors.{ins_at, ins_each, leads_below, turned}
use Rattle.fg_comps.specs.Components.{GivesLeastConnected, IsJoined, IsLeastConnected, IsWeakWalk, IsWeaklyConnected}
use Rattle.fg_comps.specs.Wcc.{none, wcc}

-- the same rules, open
abbrev joins : Rules
joins = record {
  need = Need.Both;
  init = λ v outs ins. record { a = v; b = none; c = 0 };
  begin = λ phase v s. (record { a = s.a; b = s.a; c = s.c }, s.a);
  edge = λ carry dir entry. carry;
  receive = lowered;
  combine = λ x y. min x y;
  wake = λ phase s. nat_lt s.a s.b;
  bid = λ s. None;
  show = λ s. One s.a;
}

-- the number of a vertex, and what it last sent on
abbrev at : List VState → ℕ → ℕ
at states v = (state_at states v).a

abbrev last : List VState → ℕ → ℕ
last states v = (state_at states v).b

-- what a vertex sent on: nothing yet, or every neighbour's number is at most that
abbrev Passed : Graph → List VState → ℕ → ℕ → Type 0
Passed graph states v b = (b ≡ none) ⊎ (Each (λ entry. at states entry.target ≤ b) (row graph.outs v) × Each (λ entry. at states entry.target ≤ b) (row graph.ins v))

record IsJoining (graph : Graph) (states : List VState) : Type 0 where
  counted : length states ≡ graph.n
  connected : (v : ℕ) → v < graph.n → IsWeaklyConnected graph.outs v (at states v)
  own : (v : ℕ) → v < graph.n → at states v ≤ v
  passed : (v : ℕ) → v < graph.n → Passed graph states v (last states v)

-- the opening
opens : (graph : Graph) → IsJoining graph (opening_states joins graph)
opens graph =
    let states = opening_states joins graph in
    record {
      counted = length-opening joins graph;
      connected = λ v below. ([], sym (ap (λ (s : VState). s.a) (opening_at joins graph v below)));
      own = λ v below. omega (arith, ap (λ (s : VState). s.a) (opening_at joins graph v below));
      passed = λ v below. inl (ap (λ (s : VState). s.b) (opening_at joins graph v below));
    }

-- a vertex's own state
own_number : (phase v : ℕ) (s : VState) (awake : Bool) → nat_lt s.a s.b ≡ awake → (own_state joins phase v s).a ≡ s.a
own_number phase v s true is = rw is refl
own_number phase v s false is = rw is refl

own_sent : (phase v : ℕ) (s : VState) → nat_lt s.a s.b ≡ true → (own_state joins phase v s).b ≡ s.a
own_sent phase v s is = rw is refl

own_resting : (phase v : ℕ) (s : VState) → nat_lt s.a s.b ≡ false → (own_state joins phase v s).b ≡ s.b
own_resting phase v s is = rw is refl

-- the number after an iteration
after_number : (graph : Graph) (phase v : ℕ) (states : List VState) → v < length states
    → at (after joins graph phase states) v ≡ (fold lowered (own_state joins phase v (state_at states v)) (sent_to v (mail joins graph phase states))).a
after_number graph phase v states below = ap (λ (s : VState). s.a) (after_at joins graph phase v states below)

after_sent : (graph : Graph) (phase v : ℕ) (states : List VState) → v < length states
    → last (after joins graph phase states) v ≡ (own_state joins phase v (state_at states v)).b
after_sent graph phase v states below =
    ap (λ (s : VState). s.b) (after_at joins graph phase v states below) ∙ fold_same (own_state joins phase v (state_at states v)) (sent_to v (mail joins graph phase states))

past_number : (states : List VState) (v : ℕ) → length states ≤ v → at states v ≡ 0
past_number states v past = ap (λ (s : VState). s.a) (get_or_past states v (record { a = 0; b = 0; c = 0 }) past)

-- no number rises
falls : (graph : Graph) (phase v : ℕ) (states : List VState) → at (after joins graph phase states) v ≤ at states v
falls graph phase v states = elim (cases_lt v (length states)) [
  | inl below ↦
      let own = own_state joins phase v (state_at states v) in
      let ms = sent_to v (mail joins graph phase states) in
      omega (arith, after_number graph phase v states below, fold_least own ms, own_number phase v (state_at states v) (awake_at joins phase states v) refl)
  | inr past ↦ omega (arith, past_number (after joins graph phase states) v (omega (arith, length-after joins graph phase states)))
]

-- every message was heard
heard : (graph : Graph) (phase : ℕ) (states : List VState)
    → Each (λ message. at (after joins graph phase states) message.target ≤ message.message) (mail joins graph phase states)
heard graph phase states =
    let next = after joins graph phase states in
    let messages = mail joins graph phase states in
    each_of (λ message. at next message.target ≤ message.message) messages (λ message has. elim (cases_lt message.target (length states)) [
      | inl below ↦
          let own = own_state joins phase message.target (state_at states message.target) in
          let to = each_sent (λ m. (fold lowered own (sent_to message.target messages)).a ≤ m) message.target messages (fold_each own (sent_to message.target messages)) in
          let low = each_at (λ other. other.target ≡ message.target → (fold lowered own (sent_to message.target messages)).a ≤ other.message) messages message to has refl in
          omega (arith, low, after_number graph phase message.target states below)
      | inr past ↦ omega (arith, past_number next message.target (omega (arith, length-after joins graph phase states)))
    ])

-- what reaches a vertex is the number of one that is connected with it, and no greater than its own
abbrev Reaches : Graph → ℕ → ℕ → Type 0
Reaches graph v x = IsWeaklyConnected graph.outs v x

-- the sender is one step before the walk of what it sends
out_reaches : (graph : Graph) (u x : ℕ) (entry : Entry) → Contains (row graph.outs u) entry → Reaches graph u x → Reaches graph entry.target x
out_reaches graph u x entry has walk = (u ∷ walk.0, (inr (entry.weight, has), walk.1))

-- an in-entry of u is an out-entry of its target, turned
abbrev TurnedOf : Graph → ℕ → Entry → Type 0
TurnedOf graph u entry = IsJoined graph.outs entry.target u

ins_joined : (graph : Graph) (u : ℕ) → IsMirror graph → u < graph.n → Each (TurnedOf graph u) (row graph.ins u)
ins_joined graph u mirror below =
    ins_each (TurnedOf graph u) graph u mirror below (λ w w_below.
    each_of (λ entry. entry.target ≡ u → TurnedOf graph u (turned w entry)) (row graph.outs w) (λ entry has same.
    let Has : ℕ → Type 0 = λ t. IsJoined graph.outs w t in
    subst Has same (inl (entry.weight, has))))

in_reaches : (graph : Graph) (u x : ℕ) (entry : Entry) → TurnedOf graph u entry → Reaches graph u x → Reaches graph entry.target x
in_reaches graph u x entry joined walk = (u ∷ walk.0, (joined, walk.1))

sent_reaches : (graph : Graph) (phase : ℕ) (states : List VState) → IsMirror graph → IsJoining graph states → Each (λ message. Reaches graph message.target message.message) (mail joins graph phase states)
sent_reaches graph phase states mirror is =
    mail_up joins graph phase states (λ message. Reaches graph message.target message.message) (λ u u_below awake.
    let u_in : u < graph.n = omega (arith, is.counted) in
    let x = at states u in
    each-append (λ (message : Mail). Reaches graph message.target message.message) (map (message_along joins x Dir.Out) (row graph.outs u)) (map (message_along joins x Dir.In) (row graph.ins u))
    (each-map (λ (message : Mail). Reaches graph message.target message.message) (message_along joins x Dir.Out) (row graph.outs u)
    (each_of (λ entry. Reaches graph entry.target x) (row graph.outs u) (λ entry has. out_reaches graph u x entry has (is.connected u u_in))))
    (each-map (λ (message : Mail). Reaches graph message.target message.message) (message_along joins x Dir.In) (row graph.ins u)
    (each_weaker (TurnedOf graph u) (λ entry. Reaches graph entry.target x) (λ entry joined. in_reaches graph u x entry joined (is.connected u u_in)) (row graph.ins u) (ins_joined graph u mirror u_in))))

connected_next : (graph : Graph) (phase v : ℕ) (states : List VState) → IsMirror graph → IsJoining graph states → v < graph.n → Reaches graph v (at (after joins graph phase states) v)
connected_next graph phase v states mirror is below =
    let own = own_state joins phase v (state_at states v) in
    let messages = mail joins graph phase states in
    let here : Reaches graph v own.a = subst (Reaches graph v) (sym (own_number phase v (state_at states v) (awake_at joins phase states v) refl)) (is.connected v below) in
    subst (Reaches graph v) (sym (after_number graph phase v states (omega (arith, is.counted))))
    (fold_from (Reaches graph v) own (sent_to v messages) here (sent_each (Reaches graph) v messages (sent_reaches graph phase states mirror is)))

-- what a vertex sent on
later_passed : (graph : Graph) (states next : List VState) (v b : ℕ) → ((w : ℕ) → at next w ≤ at states w) → Passed graph states v b → Passed graph next v b
later_passed graph states next v b lower (inl is) = inl is
later_passed graph states next v b lower (inr each) =
    let weaker : (entry : Entry) → at states entry.target ≤ b → at next entry.target ≤ b = λ entry low. omega (arith, low, lower entry.target) in
    inr (
      each_weaker (λ entry. at states entry.target ≤ b) (λ entry. at next entry.target ≤ b) weaker (row graph.outs v) each.0,
      each_weaker (λ entry. at states entry.target ≤ b) (λ entry. at next entry.target ≤ b) weaker (row graph.ins v) each.1,
    )

passed_next : (graph : Graph) (phase v : ℕ) (states : List VState) → IsJoining graph states → v < graph.n → Passed graph (after joins graph phase states) v (last (after joins graph phase states) v)
passed_next graph phase v states is below =
    let next = after joins graph phase states in
    let v_below : v < length states = omega (arith, is.counted) in
    let sent = after_sent graph phase v states v_below in
    let Is : ℕ → Type 0 = λ b. Passed graph next v b in
    let x = at states v in
    elim (cases_Bool (awake_at joins phase states v)) [
      | inl awake ↦
          let all = mail_down joins graph phase states (λ message. at next message.target ≤ message.message) (heard graph phase states) v v_below awake in
          let parts = each_parts (λ (message : Mail). at next message.target ≤ message.message) (map (message_along joins x Dir.Out) (row graph.outs v)) (map (message_along joins x Dir.In) (row graph.ins v)) all in
          subst Is (sym (sent ∙ own_sent phase v (state_at states v) awake)) (inr (
            each_mapped (λ (message : Mail). at next message.target ≤ message.message) (message_along joins x Dir.Out) (row graph.outs v) parts.0,
            each_mapped (λ (message : Mail). at next message.target ≤ message.message) (message_along joins x Dir.In) (row graph.ins v) parts.1,
          ))
      | inr asleep ↦
          subst Is (sym (sent ∙ own_resting phase v (state_at states v) asleep))
          (later_passed graph states next v (last states v) (λ w. falls graph phase w states) (is.passed v below))
    ]

keeps : (graph : Graph) → IsMirror graph → IsKept joins graph (λ phase states. IsJoining graph states)
keeps graph mirror = record {
  rises = λ phase bid states idle is_bid is. is;
  iterates = λ phase states good is. record {
    counted = length-after joins graph phase states ∙ is.counted;
    connected = λ v below. connected_next graph phase v states mirror is below;
    own = λ v below. omega (arith, is.own v below, falls graph phase v states);
    passed = λ v below. passed_next graph phase v states is below;
  };
}

-- at rest nobody has more to send
rested : (phase v : ℕ) (states : List VState) → is_some_active joins phase states ≡ false → v < length states → last states v ≤ at states v
rested phase v states idle below = elim (cases_Bool (awake_at joins phase states v)) [
  | inl awake ↦ absurd (both_ways (list_any (joins.wake phase) states) idle (list_any_at (joins.wake phase) states v (record { a = 0; b = 0; c = 0 }) below awake))
  | inr asleep ↦ ltb-false (at states v) (last states v) asleep
]

-- at rest all neighbours' numbers are at most a vertex's own
record Lows (graph : Graph) (states : List VState) (v : ℕ) : Type 0 where
  out_low : Each (λ entry. at states entry.target ≤ at states v) (row graph.outs v)
  in_low : Each (λ entry. at states entry.target ≤ at states v) (row graph.ins v)

lows_at : (graph : Graph) (states : List VState) (v b : ℕ) → b ≤ at states v → at states v < none → Passed graph states v b → Lows graph states v
lows_at graph states v b rest small (inl is) = absurd (omega (arith, is))
lows_at graph states v b rest small (inr each) =
    let weaker : (entry : Entry) → at states entry.target ≤ b → at states entry.target ≤ at states v = λ entry low. omega (arith, low) in
    record {
      out_low = each_weaker (λ entry. at states entry.target ≤ b) (λ entry. at states entry.target ≤ at states v) weaker (row graph.outs v) each.0;
      in_low = each_weaker (λ entry. at states entry.target ≤ b) (λ entry. at states entry.target ≤ at states v) weaker (row graph.ins v) each.1;
    }

-- at rest, on a mirror
record IsRested (graph : Graph) (states : List VState) : Type 0 where
  is_joining : IsJoining graph states
  mirror : IsMirror graph
  rows : length graph.outs ≡ graph.n
  lows : (v : ℕ) → v < graph.n → Lows graph states v

-- what is no vertex has no entries
has_row : (rows : List (List Entry)) (n v : ℕ) (entry : Entry) → length rows ≡ n → Contains (row rows v) entry → v < n
has_row rows n v entry counted has = elim (cases_lt v n) [
  | inl below ↦ below
  | inr past ↦
      let e : row rows v ≡ [] = get_or_past rows v [] (omega (arith, counted)) in
      let P : List Entry → Type 0 = λ xs. Contains xs entry in
      let none_has : Contains [] entry = subst P e has in
      let low : none_has.0 < 0 = none_has.1 in
      absurd (omega arith)
]

-- a joined vertex's number is at most one's own
out_of : (graph : Graph) (states : List VState) (u v weight : ℕ) → IsRested graph states → Contains (row graph.outs u) (record { target = v; weight = weight }) → (at states v ≤ at states u) × (at states u ≤ at states v) × (v < graph.n)
out_of graph states u v weight is has =
    let entry : Entry = record { target = v; weight = weight } in
    let u_below = has_row graph.outs graph.n u entry is.rows has in
    let v_below : v < graph.n = each_at (λ (e : Entry). e.target < graph.n) (row graph.outs u) entry (leads_below graph.n u graph.outs is.mirror.sound.out_targets (omega (arith, is.rows, u_below))) has in
    let in_lows = ins_at (λ e. at states e.target ≤ at states v) graph v u is.mirror v_below u_below (is.lows v v_below).in_low in (
      each_at (λ (e : Entry). at states e.target ≤ at states u) (row graph.outs u) entry (is.lows u u_below).out_low has,
      each_at (λ (e : Entry). e.target ≡ v → at states u ≤ at states v) (row graph.outs u) entry in_lows has refl,
      v_below,
    )

joined_low : (graph : Graph) (states : List VState) (u v : ℕ) → IsRested graph states → IsJoined graph.outs u v → (at states u ≤ at states v) × (v < graph.n)
joined_low graph states u v is (inl leads) = let o = out_of graph states u v leads.0 is leads.1 in (o.1, o.2)
joined_low graph states u v is (inr leads) = ((out_of graph states v u leads.0 is leads.1).0, has_row graph.outs graph.n v (record { target = u; weight = leads.0 }) is.rows leads.1)

along : (graph : Graph) (states : List VState) → IsRested graph states → (ws : List ℕ) (u v : ℕ) → u < graph.n → IsWeakWalk graph.outs u ws v → at states u ≤ v
along graph states is [] u v below walk = omega (arith, is.is_joining.own u below, walk)
along graph states is (w ∷ ws) u v below walk =
    let step = joined_low graph states u w is walk.0 in
    omega (arith, step.0, along graph states is ws w v step.1 walk.1)

least_of : (graph : Graph) (states : List VState) (v : ℕ) → IsRested graph states → v < graph.n → IsLeastConnected graph.outs v (at states v)
least_of graph states v is below = record {
  connected = is.is_joining.connected v below;
  none_less = λ u walk. along graph states is walk.0 v u below walk.1;
}

rests : (graph : Graph) (phase : ℕ) (states : List VState) → IsWithinLimits graph → IsMirror graph → IsJoining graph states → is_some_active joins phase states ≡ false → IsRested graph states
rests graph phase states within mirror is idle = record {
  is_joining = is;
  mirror = mirror;
  rows = within.out_side.row_count;
  lows = λ v below. lows_at graph states v (last states v) (rested phase v states idle (omega (arith, is.counted))) (omega (arith, is.own v below, within.vertex_count)) (is.passed v below);
}

joins_give : (graph : Graph) (most : ℕ) (end : End) → IsWithinLimits graph → IsMirror graph → answer_of (run joins graph most) ≡ Ok end → end.settled ≡ true
    → (v : ℕ) → v < graph.n → (x : ℕ) × (joins.show (state_at end.states v) ≡ One x) × IsLeastConnected graph.outs v x
joins_give graph most end within mirror answer settled v below =
    let held = answer_keeps joins graph (λ phase states. IsJoining graph states) most end (keeps graph mirror) (opens graph) answer in
    (at end.states v, refl, least_of graph end.states v (rests graph end.phase end.states within mirror held.kept (held.rest settled).idle) below)

pub values_are_least : GivesLeastConnected
unfolding wcc
values_are_least graph most end within mirror answer settled v below = joins_give graph most end within mirror answer settled v below
