-- After a settled run on a mirror a vertex's value is its core number.
use Rattle.std.proofs.Common.{◌≡◌, ℕ, suc, ◌+◌, ◌-◌, ◌<◌, ◌≤◌, inl, inr, Bool, true, false, Option, None, Some, Ok, List, [], ◌∷◌, length, map, refl, sym, ap, ◌∙◌, subst, arith}
use Rattle.std.specs.Prelude.{◌==◌, ◌&&◌, nat_lt, nat_le, filter, fold, sum_by, if◌then◌else◌}
use Rattle.std.specs.List.{list_any}
use Rattle.std.proofs.lemmas.Bool.{and_cases, and_from, and_parts, and_right, both_ways, cases_Bool, cases_lt, eq-eqb, eqb-true, le-leb, leb-false, leb-true, lt-ltb, ltb-true, ne_eqb}
use Rattle.std.proofs.lemmas.List.{length-map}
use Rattle.std.proofs.lemmas.List.Folds.{fold-map, list_any_at}
use Rattle.std.proofs.lemmas.List.Sums.{length-filter, sum_by-append}
use Rattle.fg_base.specs.declared.plain.Dir.{Dir}
use Rattle.fg_base.specs.declared.plain.Entry.{Entry}
use Rattle.fg_base.specs.declared.plain.Need.TheVariants as Need
use Rattle.fg_base.specs.declared.plain.Value.TheVariants.{One}
use Rattle.fg_base.specs.declared.plain.VState.{VState}
use Rattle.fg_model.specs.declared.graph.Graph.{Graph}
use Rattle.fg_model.specs.declared.mail.Mail.{Mail}
use Rattle.fg_model.specs.declared.run.End.{End}
use Rattle.fg_model.specs.Graph.{IsWithinLimits, row}
use Rattle.fg_model.specs.Iteration.{after, mail, own_state, sent_to, state_at}
use Rattle.fg_model.specs.Mirror.{IsMirror}
use Rattle.fg_model.specs.Program.{Rules}
use Rattle.fg_model.specs.Run.{answer_of, bid_above, is_some_active, least_bid_above, opening_states, run}
use Rattle.fg_model.specs.VertexRun.{message_along}
use Rattle.fg_model.proofs.AfterLemmas.{after_at, awake_at, length-after, length-opening, mail_up, opening_at, sends, sent_each}
use Rattle.fg_model.proofs.Each.{Each, each-append, each-map, each_of, each_weaker}
use Rattle.fg_model.proofs.Keeps.{IsAtRest, IsKept, answer_keeps}
use Rattle.fg_model.proofs.Mirrors.{leads_below}
use Rattle.fg_model.proofs.StandLemmas.{LowAt, least_low, least_rises}
use Rattle.fg_model.proofs.Totals.{only_if, only_if-add, sum_passing, total, total-add, total-same}
use Rattle.fg_comps.specs.Core.{core, less, lessened, stopping}
use Rattle.fg_comps.specs.CoreLaws.{lessened-gone, lessened-left}
use Rattle.fg_comps.specs.CoreNumbers.{GivesCoreNumbers, IsCore, IsCoreNumber, IsDense, degree_into}
use Rattle.fg_comps.proofs.Counts.{count_all, count_ins, count_into, count_more, count_outs, count_split, count_to, one_if}

-- the same rules, open
abbrev peels : Rules
peels = record {
  need = Need.Both;
  init = λ v outs ins. record { a = outs + ins; b = 0; c = 0 };
  begin = λ phase v s. (record { a = s.a; b = 1; c = phase }, 1);
  edge = λ carry dir entry. carry;
  receive = λ s m. lessened s m;
  combine = λ x y. stopping x y;
  wake = λ phase s. (s.b == 0) && nat_le s.a phase;
  bid = λ s. if s.b == 0 then Some s.a else None;
  show = λ s. One s.c;
}

-- the vertices that are left, and those that run now
abbrev is_left : List VState → ℕ → Bool
is_left states v = (state_at states v).b == 0

abbrev left_of : List VState → ℕ → Bool
left_of states v = nat_lt v (length states) && is_left states v

abbrev runs_now : ℕ → List VState → ℕ → Bool
runs_now phase states v = awake_at peels phase states v

-- a vertex that ran in phase c: it lies in a c-dense set, and in no denser one
record HasRun (graph : Graph) (phase v c : ℕ) : Type 0 where
  inner_set : ℕ → Bool
  inner_dense : IsDense graph c inner_set
  inner_has : inner_set v ≡ true
  outer : (k : ℕ) (set : ℕ → Bool) → c < k → IsDense graph k set → set v ≡ true → ⊥
  early : c ≤ phase

record IsPeeled (graph : Graph) (phase : ℕ) (states : List VState) : Type 0 where
  counted : length states ≡ graph.n
  numbers : (v : ℕ) → left_of states v ≡ true → (state_at states v).a ≡ degree_into graph (left_of states) v
  ran_all : (v : ℕ) → v < graph.n → is_left states v ≡ false → HasRun graph phase v (state_at states v).c
  whole_set : ℕ → Bool
  whole_dense : IsDense graph phase whole_set
  whole_has : (v : ℕ) → left_of states v ≡ true → whole_set v ≡ true

left_from : (states : List VState) (v : ℕ) → v < length states → is_left states v ≡ true → left_of states v ≡ true
left_from states v below is = and_from (nat_lt v (length states)) (is_left states v) (lt-ltb v (length states) below) is

left_parts : (states : List VState) (v : ℕ) → left_of states v ≡ true → (v < length states) × (is_left states v ≡ true)
left_parts states v is =
    let parts = and_parts (nat_lt v (length states)) (is_left states v) is in
    (ltb-true v (length states) parts.0, parts.1)

more_into : (graph : Graph) (set other : ℕ → Bool) (v : ℕ) → ((u : ℕ) → set u ≡ true → other u ≡ true) → degree_into graph set v ≤ degree_into graph other v
more_into graph set other v more = omega (arith, count_more set other more (row graph.outs v), count_more set other more (row graph.ins v))

left_off : (states : List VState) (v : ℕ) → is_left states v ≡ false → left_of states v ≡ false
left_off states v gone = and_right (nat_lt v (length states)) (is_left states v) gone

-- what the run is over
record IsOver (graph : Graph) : Type 0 where
  mirror : IsMirror graph
  out_rows : length graph.outs ≡ graph.n
  in_rows : length graph.ins ≡ graph.n

out_below : (graph : Graph) (v : ℕ) → IsOver graph → v < graph.n → Each (λ entry. entry.target < graph.n) (row graph.outs v)
out_below graph v is below = leads_below graph.n v graph.outs is.mirror.sound.out_targets (omega (arith, is.out_rows))

in_below : (graph : Graph) (v : ℕ) → IsOver graph → v < graph.n → Each (λ entry. entry.target < graph.n) (row graph.ins v)
in_below graph v is below = leads_below graph.n v graph.ins is.mirror.sound.in_targets (omega (arith, is.in_rows))

-- the opening
opens : (graph : Graph) → IsOver graph → IsPeeled graph 0 (opening_states peels graph)
opens graph is =
    let states = opening_states peels graph in
    let counted : length states ≡ graph.n = length-opening peels graph in
    let left : (v : ℕ) → v < graph.n → left_of states v ≡ true = λ v below.
    left_from states v (omega (arith, counted)) (eq-eqb (state_at states v).b 0 (ap (λ (s : VState). s.b) (opening_at peels graph v below))) in
    record {
      counted = counted;
      numbers = λ v is_left_v.
          let v_below : v < graph.n = omega (arith, (left_parts states v is_left_v).0, counted) in
          omega (
            arith,
            ap (λ (s : VState). s.a) (opening_at peels graph v v_below),
            count_all (left_of states) (row graph.outs v) (each_weaker (λ entry. entry.target < graph.n) (λ entry. left_of states entry.target ≡ true) (λ entry low. left entry.target low) (row graph.outs v) (out_below graph v is v_below)),
            count_all (left_of states) (row graph.ins v) (each_weaker (λ entry. entry.target < graph.n) (λ entry. left_of states entry.target ≡ true) (λ entry low. left entry.target low) (row graph.ins v) (in_below graph v is v_below)),
          );
      ran_all = λ v below gone. absurd (both_ways (left_of states v) (left_off states v gone) (left v below));
      whole_set = left_of states;
      whole_dense = record { below = λ v has. omega (arith, (left_parts states v has).0, counted); enough = λ v has. omega arith };
      whole_has = λ v has. has;
    }

-- mail folded into one state
same_b : (b : Bool) (s : VState) (m : ℕ) → (s.b == 0) ≡ b → (lessened s m).b ≡ s.b
same_b true s m is = ap (λ (t : VState). t.b) (lessened-left s m is)
same_b false s m is = ap (λ (t : VState). t.b) (lessened-gone s m is)

same_c : (b : Bool) (s : VState) (m : ℕ) → (s.b == 0) ≡ b → (lessened s m).c ≡ s.c
same_c true s m is = ap (λ (t : VState). t.c) (lessened-left s m is)
same_c false s m is = ap (λ (t : VState). t.c) (lessened-gone s m is)

fold_b : (s : VState) (ms : List ℕ) → (fold peels.receive s ms).b ≡ s.b
fold_b s [] = refl
fold_b s (m ∷ ms) = fold_b (lessened s m) ms ∙ same_b (s.b == 0) s m refl

fold_c : (s : VState) (ms : List ℕ) → (fold peels.receive s ms).c ≡ s.c
fold_c s [] = refl
fold_c s (m ∷ ms) = fold_c (lessened s m) ms ∙ same_c (s.b == 0) s m refl

fold_a : (s : VState) (ms : List ℕ) → (s.b == 0) ≡ true → Each (λ m. m ≡ 1) ms → (fold peels.receive s ms).a ≡ s.a - length ms
fold_a s [] left each = omega arith
fold_a s (m ∷ ms) left each =
    let first : (fold peels.receive (lessened s m) ms).a ≡ (fold peels.receive (less s m) ms).a = ap (λ (t : VState). (fold peels.receive t ms).a) (lessened-left s m left) in
    let rest : (fold peels.receive (less s m) ms).a ≡ s.a - m - length ms = fold_a (less s m) ms left each.1 in
    first ∙ rest ∙ (let e : s.a - m - length ms ≡ s.a - suc (length ms) = omega (arith, each.0) in e)

-- every message is one
ones : (graph : Graph) (phase v : ℕ) (states : List VState) → Each (λ m. m ≡ 1) (sent_to v (mail peels graph phase states))
ones graph phase v states =
    sent_each (λ (w : ℕ) (m : ℕ). m ≡ 1) v (mail peels graph phase states)
    (mail_up peels graph phase states (λ (message : Mail). message.message ≡ 1) (λ u below awake.
    each-append (λ (message : Mail). message.message ≡ 1) (map (message_along peels 1 Dir.Out) (row graph.outs u)) (map (message_along peels 1 Dir.In) (row graph.ins u))
    (each-map (λ (message : Mail). message.message ≡ 1) (message_along peels 1 Dir.Out) (row graph.outs u) (each_of (λ (entry : Entry). 1 ≡ 1) (row graph.outs u) (λ entry has. refl)))
    (each-map (λ (message : Mail). message.message ≡ 1) (message_along peels 1 Dir.In) (row graph.ins u) (each_of (λ (entry : Entry). 1 ≡ 1) (row graph.ins u) (λ entry has. refl)))))

-- how many messages a vertex gets: its entries to the vertices that run
abbrev to_v : ℕ → Mail → ℕ
to_v v message = one_if (message.target == v)

sent_count : (graph : Graph) (phase v u : ℕ) (states : List VState) → sum_by (to_v v) (sends peels graph phase states u) ≡ count_to v (row graph.outs u) + count_to v (row graph.ins u)
sent_count graph phase v u states =
    sum_by-append (to_v v) (map (message_along peels 1 Dir.Out) (row graph.outs u)) (map (message_along peels 1 Dir.In) (row graph.ins u))
    ∙ (let outs : sum_by (to_v v) (map (message_along peels 1 Dir.Out) (row graph.outs u)) ≡ count_to v (row graph.outs u) = fold-map (λ (a : ℕ) (message : Mail). a + to_v v message) (message_along peels 1 Dir.Out) 0 (row graph.outs u) in
    let ins : sum_by (to_v v) (map (message_along peels 1 Dir.In) (row graph.ins u)) ≡ count_to v (row graph.ins u) = fold-map (λ (a : ℕ) (message : Mail). a + to_v v message) (message_along peels 1 Dir.In) 0 (row graph.ins u) in
    omega (arith, outs, ins))

count_mail : (graph : Graph) (phase v : ℕ) (states : List VState) → IsOver graph → length states ≡ graph.n → v < graph.n → length (sent_to v (mail peels graph phase states)) ≡ degree_into graph (runs_now phase states) v
unfolding mail
count_mail graph phase v states is counted below =
    let set = runs_now phase states in
    let f = to_v v in
    let all = mail peels graph phase states in
    let n = length states in
    let by_sender : total (λ u. only_if (set u) (sum_by f (sends peels graph phase states u))) 0 n ≡ total (λ u. only_if (set u) (count_to v (row graph.outs u)) + only_if (set u) (count_to v (row graph.ins u))) 0 n =
    total-same (λ u. only_if (set u) (sum_by f (sends peels graph phase states u))) (λ u. only_if (set u) (count_to v (row graph.outs u)) + only_if (set u) (count_to v (row graph.ins u))) 0 n
    (λ u from u_below. ap (only_if (set u)) (sent_count graph phase v u states) ∙ only_if-add (set u) (count_to v (row graph.outs u)) (count_to v (row graph.ins u))) in
    let outs : total (λ u. only_if (set u) (count_to v (row graph.outs u))) 0 n ≡ count_into set (row graph.ins v) = ap (total (λ u. only_if (set u) (count_to v (row graph.outs u))) 0) counted ∙ count_ins set graph v is.mirror below in
    let ins : total (λ u. only_if (set u) (count_to v (row graph.ins u))) 0 n ≡ count_into set (row graph.outs v) = ap (total (λ u. only_if (set u) (count_to v (row graph.ins u))) 0) counted ∙ count_outs set graph v is.mirror is.out_rows below in
    omega (
      arith,
      length-map (filter (λ (message : Mail). message.target == v) all) (λ (message : Mail). message.message),
      length-filter (λ (message : Mail). message.target == v) all,
      sum_passing f (sends peels graph phase states) set 0 n,
      by_sender,
      total-add (λ u. only_if (set u) (count_to v (row graph.outs u))) (λ u. only_if (set u) (count_to v (row graph.ins u))) 0 n,
      outs,
      ins,
    )

-- the states after an iteration, by what they were
own_awake : (phase v : ℕ) (s : VState) → peels.wake phase s ≡ true → own_state peels phase v s ≡ (let t : VState = record { a = s.a; b = 1; c = phase } in t)
own_awake phase v s is = rw is refl

own_asleep : (phase v : ℕ) (s : VState) → peels.wake phase s ≡ false → own_state peels phase v s ≡ s
own_asleep phase v s is = rw is refl

record Awake (graph : Graph) (phase v : ℕ) (states : List VState) : Type 0 where
  is_gone : (state_at (after peels graph phase states) v).b ≡ 1
  in_phase : (state_at (after peels graph phase states) v).c ≡ phase
  was_left : is_left states v ≡ true
  was_low : (state_at states v).a ≤ phase

awake_then : (graph : Graph) (phase v : ℕ) (states : List VState) → v < length states → runs_now phase states v ≡ true → Awake graph phase v states
awake_then graph phase v states below awake =
    let own = own_state peels phase v (state_at states v) in
    let ms = sent_to v (mail peels graph phase states) in
    let parts = and_parts (is_left states v) (nat_le (state_at states v).a phase) awake in
    record {
      is_gone = ap (λ (s : VState). s.b) (after_at peels graph phase v states below) ∙ fold_b own ms ∙ ap (λ (s : VState). s.b) (own_awake phase v (state_at states v) awake);
      in_phase = ap (λ (s : VState). s.c) (after_at peels graph phase v states below) ∙ fold_c own ms ∙ ap (λ (s : VState). s.c) (own_awake phase v (state_at states v) awake);
      was_left = parts.0;
      was_low = leb-true (state_at states v).a phase parts.1;
    }

record Asleep (graph : Graph) (phase v : ℕ) (states : List VState) : Type 0 where
  same_left : (state_at (after peels graph phase states) v).b ≡ (state_at states v).b
  same_phase : (state_at (after peels graph phase states) v).c ≡ (state_at states v).c
  fewer : is_left states v ≡ true → (state_at (after peels graph phase states) v).a ≡ (state_at states v).a - length (sent_to v (mail peels graph phase states))

asleep_then : (graph : Graph) (phase v : ℕ) (states : List VState) → v < length states → runs_now phase states v ≡ false → Asleep graph phase v states
asleep_then graph phase v states below asleep =
    let s = state_at states v in
    let ms = sent_to v (mail peels graph phase states) in
    let e : state_at (after peels graph phase states) v ≡ fold peels.receive s ms = after_at peels graph phase v states below ∙ ap (λ (t : VState). fold peels.receive t ms) (own_asleep phase v s asleep) in
    record {
      same_left = ap (λ (t : VState). t.b) e ∙ fold_b s ms;
      same_phase = ap (λ (t : VState). t.c) e ∙ fold_c s ms;
      fewer = λ left. ap (λ (t : VState). t.a) e ∙ fold_a s ms left (ones graph phase v states);
    }

-- who is left after, and who runs, were left before
one_true : (b : Bool) → b ≡ true → one_if b ≡ 1
one_true b is = rw is refl

one_false : (b : Bool) → b ≡ false → one_if b ≡ 0
one_false b is = rw is refl

left_after : (graph : Graph) (phase v : ℕ) (states : List VState) → v < length states
    → one_if (left_of (after peels graph phase states) v) + one_if (runs_now phase states v) ≡ one_if (left_of states v)
left_after graph phase v states below =
    let next = after peels graph phase states in
    let longer : length next ≡ length states = length-after peels graph phase states in
    elim (cases_Bool (runs_now phase states v)) [
      | inl awake ↦
          let a = awake_then graph phase v states below awake in
          let gone : is_left next v ≡ false = ne_eqb (state_at next v).b 0 (λ is. omega (arith, is, a.is_gone)) in
          omega (
            arith,
            one_false (left_of next v) (left_off next v gone),
            one_true (runs_now phase states v) awake,
            one_true (left_of states v) (left_from states v below a.was_left),
          )
      | inr asleep ↦
          let a = asleep_then graph phase v states below asleep in
          let same : is_left next v ≡ is_left states v = ap (λ (b : ℕ). b == 0) a.same_left in
          elim (cases_Bool (is_left states v)) [
            | inl left ↦ omega (
              arith,
              one_true (left_of next v) (left_from next v (omega (arith, longer)) (same ∙ left)),
              one_false (runs_now phase states v) asleep,
              one_true (left_of states v) (left_from states v below left),
            )
            | inr gone ↦ omega (
              arith,
              one_false (left_of next v) (left_off next v (same ∙ gone)),
              one_false (runs_now phase states v) asleep,
              one_false (left_of states v) (left_off states v gone),
            )
          ]
    ]

degree_split : (graph : Graph) (phase v : ℕ) (states : List VState) → IsOver graph → length states ≡ graph.n → v < graph.n
    → degree_into graph (left_of (after peels graph phase states)) v + degree_into graph (runs_now phase states) v ≡ degree_into graph (left_of states) v
degree_split graph phase v states is counted below =
    let next = after peels graph phase states in
    let part : (entry : Entry) → entry.target < graph.n → one_if (left_of next entry.target) + one_if (runs_now phase states entry.target) ≡ one_if (left_of states entry.target) =
    λ entry low. left_after graph phase entry.target states (omega (arith, counted)) in
    let Low : Entry → Type 0 = λ entry. entry.target < graph.n in
    let Parts : Entry → Type 0 = λ entry. one_if (left_of next entry.target) + one_if (runs_now phase states entry.target) ≡ one_if (left_of states entry.target) in
    omega (
      arith,
      count_split (left_of next) (runs_now phase states) (left_of states) (row graph.outs v) (each_weaker Low Parts part (row graph.outs v) (out_below graph v is below)),
      count_split (left_of next) (runs_now phase states) (left_of states) (row graph.ins v) (each_weaker Low Parts part (row graph.ins v) (in_below graph v is below)),
    )

-- a vertex that is left after an iteration was left before it and didn't run
record StillLeft (graph : Graph) (phase v : ℕ) (states : List VState) : Type 0 where
  below : v < length states
  asleep : runs_now phase states v ≡ false
  was_left : is_left states v ≡ true

still_left : (graph : Graph) (phase v : ℕ) (states : List VState) → left_of (after peels graph phase states) v ≡ true → StillLeft graph phase v states
still_left graph phase v states left =
    let next = after peels graph phase states in
    let parts = left_parts next v left in
    let below : v < length states = omega (arith, parts.0, length-after peels graph phase states) in
    let is_nought : (state_at next v).b ≡ 0 = eqb-true (state_at next v).b 0 parts.1 in
    elim (cases_Bool (runs_now phase states v)) [
      | inl awake ↦ absurd (omega (arith, is_nought, (awake_then graph phase v states below awake).is_gone))
      | inr asleep ↦ record {
        below = below;
        asleep = asleep;
        was_left = eq-eqb (state_at states v).b 0 (omega (arith, is_nought, (asleep_then graph phase v states below asleep).same_left));
      }
    ]

-- no set that is denser than the phase holds a vertex that runs now
runs_outside : (graph : Graph) (phase v k : ℕ) (states : List VState) (set : ℕ → Bool) → IsPeeled graph phase states → v < length states → runs_now phase states v ≡ true → phase < k → IsDense graph k set → set v ≡ true → ⊥
runs_outside graph phase v k states set is below awake denser dense has =
    let a = awake_then graph phase v states below awake in
    let all_left : (u : ℕ) → set u ≡ true → left_of states u ≡ true = λ u has_u.
    let u_below : u < graph.n = dense.below u has_u in
    elim (cases_Bool (is_left states u)) [
      | inl left ↦ left_from states u (omega (arith, is.counted)) left
      | inr gone ↦ let ran = is.ran_all u u_below gone in absurd (ran.outer k set (omega (arith, ran.early)) dense has_u)
    ] in
    omega (arith, dense.enough v has, more_into graph set (left_of states) v all_left, is.numbers v (left_from states v below a.was_left), a.was_low)

ran_next : (graph : Graph) (phase v : ℕ) (states : List VState) → IsPeeled graph phase states → v < graph.n → is_left (after peels graph phase states) v ≡ false → HasRun graph phase v (state_at (after peels graph phase states) v).c
ran_next graph phase v states is v_below gone =
    let next = after peels graph phase states in
    let below : v < length states = omega (arith, is.counted) in
    let Ran : ℕ → Type 0 = λ c. HasRun graph phase v c in
    elim (cases_Bool (runs_now phase states v)) [
      | inl awake ↦
          let a = awake_then graph phase v states below awake in
          let ran : HasRun graph phase v phase = record {
            inner_set = is.whole_set;
            inner_dense = is.whole_dense;
            inner_has = is.whole_has v (left_from states v below a.was_left);
            outer = λ k set denser dense has. runs_outside graph phase v k states set is below awake denser dense has;
            early = omega arith;
          } in
          subst Ran (sym a.in_phase) ran
      | inr asleep ↦
          let a = asleep_then graph phase v states below asleep in
          subst Ran (sym a.same_phase) (is.ran_all v v_below (sym (ap (λ (b : ℕ). b == 0) a.same_left) ∙ gone))
    ]

peeled_next : (graph : Graph) (phase : ℕ) (states : List VState) → IsOver graph → IsPeeled graph phase states → IsPeeled graph phase (after peels graph phase states)
peeled_next graph phase states over is = record {
  counted = length-after peels graph phase states ∙ is.counted;
  numbers = λ v left.
      let still = still_left graph phase v states left in
      let v_below : v < graph.n = omega (arith, still.below, is.counted) in
      omega (
        arith,
        (asleep_then graph phase v states still.below still.asleep).fewer still.was_left,
        is.numbers v (left_from states v still.below still.was_left),
        count_mail graph phase v states over is.counted v_below,
        degree_split graph phase v states over is.counted v_below,
      );
  ran_all = λ v below gone. ran_next graph phase v states is below gone;
  whole_set = is.whole_set;
  whole_dense = is.whole_dense;
  whole_has = λ v left. let still = still_left graph phase v states left in is.whole_has v (left_from states v still.below still.was_left);
}

-- where nobody is active, who is left has more entries to vertices that are left than the phase, and bids them
sleeps : (phase v : ℕ) (states : List VState) → is_some_active peels phase states ≡ false → v < length states → runs_now phase states v ≡ false
sleeps phase v states idle below = elim (cases_Bool (runs_now phase states v)) [
  | inl awake ↦ absurd (both_ways (list_any (peels.wake phase) states) idle (list_any_at (peels.wake phase) states v (record { a = 0; b = 0; c = 0 }) below awake))
  | inr asleep ↦ asleep
]

left_high : (phase v : ℕ) (states : List VState) → is_some_active peels phase states ≡ false → v < length states → is_left states v ≡ true → phase < (state_at states v).a
left_high phase v states idle below left = elim (and_cases (is_left states v) (nat_le (state_at states v).a phase) (sleeps phase v states idle below)) [
  | inl gone ↦ absurd (both_ways (is_left states v) gone left)
  | inr high ↦ leb-false (state_at states v).a phase high
]

bid_of : (s : VState) → (s.b == 0) ≡ true → peels.bid s ≡ Some s.a
bid_of s is = rw is refl

above : (phase x : ℕ) → phase < x → bid_above phase (Some x) ≡ Some x
above phase x higher = rw (lt-ltb phase x higher) refl

left_low : (phase v : ℕ) (states : List VState) → is_some_active peels phase states ≡ false → v < length states → is_left states v ≡ true → LowAt (least_bid_above peels phase states) (state_at states v).a
left_low phase v states idle below left =
    let s = state_at states v in
    least_low peels phase s.a v states below (ap (bid_above phase) (bid_of s left) ∙ above phase s.a (left_high phase v states idle below left))

later_run : (graph : Graph) (phase later v c : ℕ) → phase ≤ later → HasRun graph phase v c → HasRun graph later v c
later_run graph phase later v c more ran = record { inner_set = ran.inner_set; inner_dense = ran.inner_dense; inner_has = ran.inner_has; outer = ran.outer; early = omega (arith, ran.early) }

risen : (graph : Graph) (phase bid : ℕ) (states : List VState) → is_some_active peels phase states ≡ false → least_bid_above peels phase states ≡ Some bid → IsPeeled graph phase states → IsPeeled graph bid states
risen graph phase bid states idle is_bid is =
    let rises = least_rises peels phase bid states is_bid in
    record {
      counted = is.counted;
      numbers = is.numbers;
      ran_all = λ v below gone. later_run graph phase bid v (state_at states v).c (omega (arith, rises.higher)) (is.ran_all v below gone);
      whole_set = left_of states;
      whole_dense = record {
        below = λ v left. omega (arith, (left_parts states v left).0, is.counted);
        enough = λ v left.
            let parts = left_parts states v left in
            let Low : Option ℕ → Type 0 = λ o. LowAt o (state_at states v).a in
            let low : bid ≤ (state_at states v).a = subst Low is_bid (left_low phase v states idle parts.0 parts.1) in
            omega (arith, low, is.numbers v left);
      };
      whole_has = λ v left. left;
    }

keeps : (graph : Graph) → IsOver graph → IsKept peels graph (IsPeeled graph)
keeps graph over = record {
  rises = λ phase bid states idle is_bid is. risen graph phase bid states idle is_bid is;
  iterates = λ phase states good is. peeled_next graph phase states over is;
}

-- at the end nobody is left
all_gone : (graph : Graph) (phase v : ℕ) (states : List VState) → IsPeeled graph phase states → IsAtRest peels phase states → v < graph.n → is_left states v ≡ false
all_gone graph phase v states is rest v_below = elim (cases_Bool (is_left states v)) [
  | inl left ↦
      let Low : Option ℕ → Type 0 = λ o. LowAt o (state_at states v).a in
      let none : ⊥ = subst Low rest.no_bid (left_low phase v states rest.idle (omega (arith, is.counted)) left) in absurd none
  | inr gone ↦ gone
]

-- what ran in phase k or later is the k-core
abbrev late : Graph → List VState → ℕ → ℕ → Bool
late graph states k v = nat_lt v graph.n && nat_le k (state_at states v).c

late_from : (graph : Graph) (states : List VState) (k v : ℕ) → v < graph.n → k ≤ (state_at states v).c → late graph states k v ≡ true
late_from graph states k v below high = and_from (nat_lt v graph.n) (nat_le k (state_at states v).c) (lt-ltb v graph.n below) (le-leb k (state_at states v).c high)

late_parts : (graph : Graph) (states : List VState) (k v : ℕ) → late graph states k v ≡ true → (v < graph.n) × (k ≤ (state_at states v).c)
late_parts graph states k v is =
    let parts = and_parts (nat_lt v graph.n) (nat_le k (state_at states v).c) is in
    (ltb-true v graph.n parts.0, leb-true k (state_at states v).c parts.1)

abbrev AllHaveRun : Graph → ℕ → List VState → Type 0
AllHaveRun graph phase states = (v : ℕ) → v < graph.n → HasRun graph phase v (state_at states v).c

-- a vertex of a dense set ran no earlier than the set is dense
no_earlier : (graph : Graph) (phase k v : ℕ) (states : List VState) (set : ℕ → Bool) → AllHaveRun graph phase states → IsDense graph k set → set v ≡ true → k ≤ (state_at states v).c
no_earlier graph phase k v states set all dense has = elim (cases_lt (state_at states v).c k) [
  | inl less_than ↦ absurd ((all v (dense.below v has)).outer k set less_than dense has)
  | inr high ↦ high
]

core_is : (graph : Graph) (phase k : ℕ) (states : List VState) → AllHaveRun graph phase states → IsCore graph k (late graph states k)
core_is graph phase k states all = record {
  dense = record {
    below = λ v has. (late_parts graph states k v has).0;
    enough = λ v has.
        let parts = late_parts graph states k v has in
        let ran = all v parts.0 in
        let inside : (u : ℕ) → ran.inner_set u ≡ true → late graph states k u ≡ true = λ u has_u.
        late_from graph states k u (ran.inner_dense.below u has_u) (omega (arith, parts.1, no_earlier graph phase (state_at states v).c u states ran.inner_set all ran.inner_dense has_u)) in
        omega (arith, parts.1, ran.inner_dense.enough v ran.inner_has, more_into graph ran.inner_set (late graph states k) v inside);
  };
  largest = λ other dense v has. late_from graph states k v (dense.below v has) (no_earlier graph phase k v states other all dense has);
}

number_is : (graph : Graph) (phase v : ℕ) (states : List VState) → AllHaveRun graph phase states → v < graph.n → IsCoreNumber graph v (state_at states v).c
number_is graph phase v states all below =
    let x = (state_at states v).c in
    record {
      in_core = (late graph states x, core_is graph phase x states all, late_from graph states x v below (omega arith));
      greatest = λ k set is has. no_earlier graph phase k v states set all is.dense has;
    }

peels_give : (graph : Graph) (most : ℕ) (end : End) → IsWithinLimits graph → IsMirror graph → answer_of (run peels graph most) ≡ Ok end → end.settled ≡ true
    → (v : ℕ) → v < graph.n → (x : ℕ) × (peels.show (state_at end.states v) ≡ One x) × IsCoreNumber graph v x
peels_give graph most end within mirror answer settled v below =
    let over : IsOver graph = record { mirror = mirror; out_rows = within.out_side.row_count; in_rows = within.in_side.row_count } in
    let held = answer_keeps peels graph (IsPeeled graph) most end (keeps graph over) (opens graph over) answer in
    let all : AllHaveRun graph end.phase end.states = λ u u_below. held.kept.ran_all u u_below (all_gone graph end.phase u end.states held.kept (held.rest settled) u_below) in
    ((state_at end.states v).c, refl, number_is graph end.phase v end.states all below)

pub values_are_core_numbers : GivesCoreNumbers
unfolding core
values_are_core_numbers graph most end within mirror answer settled v below = peels_give graph most end within mirror answer settled v below
