-- What an iteration does to each vertex, and to whom its mail goes.
use Rattle.std.proofs.Common.{◌≡◌, ℕ, ◌+◌, ◌<◌, Bool, true, false, cond, List, [], ◌∷◌, length, map, refl, ap, ◌∙◌, subst, arith}
use Rattle.std.specs.Prelude.{◌==◌, filter, fold}
use Rattle.std.specs.List.{enumerate_from}
use Rattle.std.proofs.lemmas.Bool.{eq-eqb, eqb-true}
use Rattle.std.proofs.lemmas.List.{get_or-map, length-map}
use Rattle.std.proofs.lemmas.List.FromFn.{get_or-enumerate_from, get_or-map-range_with_len, length-enumerate_from, length-map-range_with_len}
use Rattle.fg_base.specs.declared.plain.VState.{VState}
use Rattle.fg_model.specs.declared.graph.Graph.{Graph}
use Rattle.fg_model.specs.declared.mail.Mail.{Mail}
use Rattle.fg_model.specs.Graph.{row}
use Rattle.fg_model.specs.Iteration.{after, folded, mail, own_state, sent_to, state_at, states_after_runs}
use Rattle.fg_model.specs.Program.{Rules}
use Rattle.fg_model.specs.Run.{opening_states}
use Rattle.fg_model.specs.VertexRun.{ran}
use Rattle.fg_model.proofs.Each.{Each, each_passing, passing_each}
use Rattle.fg_model.proofs.IterationLemmas.{length-folded}

-- the mail to one vertex
kept_up : (R : ℕ → Type 0) (v : ℕ) (message : Mail) (is : Bool) (rest : List Mail) → (is ≡ true → R message.message) → Each R (map (λ message. message.message) rest) → Each R (map (λ message. message.message) (cond is (message ∷ rest) rest))
kept_up R v message true rest here each = (here refl, each)
kept_up R v message false rest here each = each

pub sent_each : (R : ℕ → ℕ → Type 0) (v : ℕ) (messages : List Mail) → Each (λ message. R message.target message.message) messages → Each (R v) (sent_to v messages)
sent_each R v [] each = tt
sent_each R v (message ∷ messages) each =
    kept_up (R v) v message (message.target == v) (filter (λ message. message.target == v) messages)
    (λ is. let P : ℕ → Type 0 = λ u. R u message.message in subst P (eqb-true message.target v is) each.0) (sent_each R v messages each.1)

kept_down : (R : ℕ → Type 0) (v : ℕ) (message : Mail) (is : Bool) (rest : List Mail) → Each R (map (λ message. message.message) (cond is (message ∷ rest) rest)) → (is ≡ true → R message.message) × Each R (map (λ message. message.message) rest)
kept_down R v message true rest each = ((λ is. each.0), each.1)
kept_down R v message false rest each = ((λ is. absurd (cc)), each)

same_true : (x y : ℕ) → x ≡ y → (x == y) ≡ true
same_true x y is = eq-eqb x y is

pub each_sent : (R : ℕ → Type 0) (v : ℕ) (messages : List Mail) → Each R (sent_to v messages) → Each (λ message. message.target ≡ v → R message.message) messages
each_sent R v [] each = tt
each_sent R v (message ∷ messages) each =
    let parts = kept_down R v message (message.target == v) (filter (λ message. message.target == v) messages) each in
    ((λ is. parts.0 (same_true message.target v is)), each_sent R v messages parts.1)

-- the states after an iteration, vertex by vertex
zero_state : VState
zero_state = record { a = 0; b = 0; c = 0 }

runs_at : (P : Rules) (phase v : ℕ) (states : List VState) → v < length states → state_at (states_after_runs P phase states) v ≡ own_state P phase v (state_at states v)
unfolding states_after_runs zero_state
runs_at P phase v states below =
    let own : ℕ × VState → VState = λ (v, s). own_state P phase v s in
    let longer : v < length (enumerate_from 0 states) = omega (arith, length-enumerate_from 0 states) in
    get_or-map own (enumerate_from 0 states) v (v, zero_state) zero_state longer ∙ ap own (get_or-enumerate_from 0 states v (v, zero_state) below ∙ (let e : 0 + v ≡ v = omega arith in rw e refl))

length-runs : (P : Rules) (phase : ℕ) (states : List VState) → length (states_after_runs P phase states) ≡ length states
unfolding states_after_runs
length-runs P phase states = length-map (enumerate_from 0 states) (λ (v, s). own_state P phase v s) ∙ length-enumerate_from 0 states

pub folded_at : (P : Rules) (messages : List Mail) (v : ℕ) (states : List VState) → v < length states → state_at (folded P messages states) v ≡ fold P.receive (state_at states v) (sent_to v messages)
unfolding folded zero_state
folded_at P messages v states below =
    let fold_in : ℕ × VState → VState = λ (v, s). fold P.receive s (sent_to v messages) in
    let longer : v < length (enumerate_from 0 states) = omega (arith, length-enumerate_from 0 states) in
    get_or-map fold_in (enumerate_from 0 states) v (v, zero_state) zero_state longer ∙ ap fold_in (get_or-enumerate_from 0 states v (v, zero_state) below ∙ (let e : 0 + v ≡ v = omega arith in rw e refl))

pub after_at : (P : Rules) (graph : Graph) (phase v : ℕ) (states : List VState) → v < length states
    → state_at (after P graph phase states) v ≡ fold P.receive (own_state P phase v (state_at states v)) (sent_to v (mail P graph phase states))
unfolding after
after_at P graph phase v states below =
    folded_at P (mail P graph phase states) v (states_after_runs P phase states) (omega (arith, length-runs P phase states))
    ∙ ap (λ (s : VState). fold P.receive s (sent_to v (mail P graph phase states))) (runs_at P phase v states below)

pub length-after : (P : Rules) (graph : Graph) (phase : ℕ) (states : List VState) → length (after P graph phase states) ≡ length states
unfolding after
length-after P graph phase states = length-folded P (mail P graph phase states) (states_after_runs P phase states) ∙ length-runs P phase states

-- the messages of one vertex, and whether it is active
abbrev pub sends : Rules → Graph → ℕ → List VState → ℕ → List Mail
sends P graph phase states v = (ran P graph phase v (state_at states v)).messages

abbrev pub awake_at : Rules → ℕ → List VState → ℕ → Bool
awake_at P phase states v = P.wake phase (state_at states v)

-- what holds of all mail, from what each active vertex sends, and back
pub mail_up : (P : Rules) (graph : Graph) (phase : ℕ) (states : List VState) (Q : Mail → Type 0)
    → ((v : ℕ) → v < length states → awake_at P phase states v ≡ true → Each Q (sends P graph phase states v)) → Each Q (mail P graph phase states)
unfolding mail
mail_up P graph phase states Q of = each_passing Q (sends P graph phase states) (awake_at P phase states) 0 (length states) (λ v below awake. of v (omega arith) awake)

pub mail_down : (P : Rules) (graph : Graph) (phase : ℕ) (states : List VState) (Q : Mail → Type 0) → Each Q (mail P graph phase states)
    → (v : ℕ) → v < length states → awake_at P phase states v ≡ true → Each Q (sends P graph phase states v)
unfolding mail
mail_down P graph phase states Q each v below awake = passing_each Q (sends P graph phase states) (awake_at P phase states) 0 (length states) v each (omega arith) (omega arith) awake

-- the opening states, vertex by vertex
pub opening_at : (P : Rules) (graph : Graph) (v : ℕ) → v < graph.n → state_at (opening_states P graph) v ≡ P.init v (length (row graph.outs v)) (length (row graph.ins v))
unfolding opening_states
opening_at P graph v below =
    get_or-map-range_with_len (λ u. P.init u (length (row graph.outs u)) (length (row graph.ins u))) 0 graph.n v v (record { a = 0; b = 0; c = 0 }) below (omega arith)

pub length-opening : (P : Rules) (graph : Graph) → length (opening_states P graph) ≡ graph.n
unfolding opening_states
length-opening P graph = length-map-range_with_len (λ u. P.init u (length (row graph.outs u)) (length (row graph.ins u))) 0 graph.n
