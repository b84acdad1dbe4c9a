-- No iteration makes three times the ranks and twenty times what wasn't sent on more.
use Rattle.std.proofs.Common.{◌≡◌, ℕ, zero, suc, ◌+◌, ◌*◌, ◌<◌, ◌≤◌, ◌^◌, Bool, true, false, None, Ok, List, [], ◌∷◌, length, map, inl, inr, refl, sym, ap, ◌∙◌, arith, cond, div-mul-le_self, mul-zero, suc-mul, mul_comm}
use Rattle.std.specs.Prelude.{◌==◌, ◌/◌, nat_le, filter, fold, sum_by, if◌then◌else◌}
use Rattle.std.proofs.lemmas.Bool.{cases_Bool, cases_lt, eq-eqb, ne_eqb}
use Rattle.std.proofs.lemmas.List.Folds.{fold-map}
use Rattle.std.proofs.lemmas.List.Sums.{sum_by-cons}
use Rattle.fg_base.specs.declared.plain.Dir.{Dir}
use Rattle.fg_base.specs.declared.plain.Entry.{Entry}
use Rattle.fg_base.specs.declared.plain.Need.TheVariants as Need
use Rattle.fg_base.specs.declared.plain.Value.TheVariants.{Two}
use Rattle.fg_base.specs.declared.plain.VState.{VState}
use Rattle.fg_model.specs.declared.graph.Graph.{Graph}
use Rattle.fg_model.specs.declared.mail.Mail.{Mail}
use Rattle.fg_model.specs.declared.run.End.{End}
use Rattle.fg_model.specs.Graph.{row}
use Rattle.fg_model.specs.Iteration.{after, mail, own_state, sent_to, state_at}
use Rattle.fg_model.specs.Program.{Rules}
use Rattle.fg_model.specs.Run.{answer_of, opening_states, run}
use Rattle.fg_model.specs.VertexRun.{message_along}
use Rattle.fg_model.proofs.AfterLemmas.{after_at, awake_at, length-after, length-opening, opening_at, sends}
use Rattle.fg_model.proofs.Keeps.{IsKept, answer_keeps}
use Rattle.fg_model.proofs.Totals.{only_if, sum_passing, sum_states, total, total-add, total-le, total-nought, total-one, total-same}
use Rattle.fg_rank.specs.Rank.{opening, rank, share_of, stopping}
use Rattle.fg_rank.specs.RankSums.{StaysBounded, all_had, all_waiting}

-- the same rules, open
abbrev ranks : ℕ → Rules
ranks cut = record {
  need = Need.Out;
  init = λ v outs ins. record { a = 0; b = opening; c = outs };
  begin = λ phase v s. (record { a = stopping s.a s.b; b = 0; c = s.c }, share_of s.b s.c);
  edge = λ carry dir entry. carry;
  receive = λ s m. record { a = s.a; b = stopping s.b m; c = s.c };
  combine = λ x y. stopping x y;
  wake = λ phase s. nat_le cut s.b;
  bid = λ s. None;
  show = λ s. Two s.a s.b;
}

abbrev weight : VState → ℕ
weight s = 3 * s.a + 20 * s.b

record IsBounded (graph : Graph) (states : List VState) : Type 0 where
  counted : length states ≡ graph.n
  degrees : (v : ℕ) → v < graph.n → (state_at states v).c ≡ length (row graph.outs v)
  low : sum_by weight states ≤ 3145728 * graph.n

-- the opening
all_low : (g : ℕ → ℕ) (a n : ℕ) → ((u : ℕ) → u < a + n → g u ≤ 3145728) → total g a n ≤ 3145728 * n
all_low g a zero low = omega arith
all_low g a (suc n) low = omega (arith, low a (omega arith), all_low g (a + 1) n (λ u below. low u (omega arith)))

opens : (cut : ℕ) (graph : Graph) → IsBounded graph (opening_states (ranks cut) graph)
opens cut graph =
    let states = opening_states (ranks cut) graph in
    let counted : length states ≡ graph.n = length-opening (ranks cut) graph in
    record {
      counted = counted;
      degrees = λ v below. ap (λ (s : VState). s.c) (opening_at (ranks cut) graph v below);
      low = omega (
        arith,
        counted,
        sum_states weight states,
        ap (total (λ v. weight (state_at states v)) 0) counted,
        all_low (λ v. weight (state_at states v)) 0 graph.n (λ u below. omega (arith, ap weight (opening_at (ranks cut) graph u (omega arith)))),
      );
    }

-- mail folded into one state
abbrev sum_of : List ℕ → ℕ
sum_of ms = sum_by (λ m. m) ms

fold_weight : (cut : ℕ) (s : VState) (ms : List ℕ) → weight (fold (ranks cut).receive s ms) ≤ weight s + 20 * sum_of ms
fold_weight cut s [] = omega arith
fold_weight cut s (m ∷ ms) =
    omega (arith, fold_weight cut (record { a = s.a; b = stopping s.b m; c = s.c }) ms, sum_by-cons (λ (n : ℕ). n) m ms)

fold_c : (cut : ℕ) (s : VState) (ms : List ℕ) → (fold (ranks cut).receive s ms).c ≡ s.c
fold_c cut s [] = refl
fold_c cut s (m ∷ ms) = fold_c cut (record { a = s.a; b = stopping s.b m; c = s.c }) ms

-- what goes to vertices is at most all mail
sent_step : (is : Bool) (m : Mail) (rest : List Mail) → sum_of (map (λ one. one.message) (cond is (m ∷ rest) rest)) ≡ only_if is m.message + sum_of (map (λ one. one.message) rest)
sent_step true m rest = sum_by-cons (λ (n : ℕ). n) m.message (map (λ (one : Mail). one.message) rest)
sent_step false m rest = omega arith

only_off : (b : Bool) (n : ℕ) → b ≡ false → only_if b n ≡ 0
only_off b n is = rw is refl

only_on : (b : Bool) (n : ℕ) → b ≡ true → only_if b n ≡ n
only_on b n is = rw is refl

one_target : (n : ℕ) (m : Mail) → total (λ v. only_if (m.target == v) m.message) 0 n ≤ m.message
one_target n m = elim (cases_lt m.target n) [
  | inl below ↦ omega (
    arith,
    total-one (λ v. only_if (m.target == v) m.message) 0 n m.target (omega arith) (omega arith) (λ u other. only_off (m.target == u) m.message (ne_eqb m.target u (λ is. other (sym is)))),
    only_on (m.target == m.target) m.message (eq-eqb m.target m.target refl),
  )
  | inr past ↦ omega (
    arith,
    total-nought (λ v. only_if (m.target == v) m.message) 0 n (λ u from below. only_off (m.target == u) m.message (ne_eqb m.target u (λ is. omega (arith, is)))),
  )
]

all_sent : (n : ℕ) (messages : List Mail) → total (λ v. sum_of (sent_to v messages)) 0 n ≤ sum_by (λ m. m.message) messages
all_sent n [] = omega (arith, total-nought (λ v. 0) 0 n (λ u from below. refl))
all_sent n (m ∷ messages) =
    omega (
      arith,
      total-same (λ v. sum_of (sent_to v (m ∷ messages))) (λ v. only_if (m.target == v) m.message + sum_of (sent_to v messages)) 0 n
          (λ v from below. sent_step (m.target == v) m (filter (λ (one : Mail). one.target == v) messages)),
      total-add (λ v. only_if (m.target == v) m.message) (λ v. sum_of (sent_to v messages)) 0 n,
      one_target n m,
      all_sent n messages,
      sum_by-cons (λ (one : Mail). one.message) m messages,
    )

-- what one vertex sends
all_equal : (x : ℕ) (entries : List Entry) → sum_by (λ entry. x) entries ≡ length entries * x
all_equal x [] = omega arith
all_equal x (entry ∷ entries) = omega (arith, sum_by-cons (λ (e : Entry). x) entry entries, all_equal x entries, suc-mul (length entries) x)

sends_sum : (cut : ℕ) (graph : Graph) (phase u : ℕ) (states : List VState)
    → sum_by (λ m. m.message) (sends (ranks cut) graph phase states u) ≡ length (row graph.outs u) * share_of (state_at states u).b (state_at states u).c
sends_sum cut graph phase u states =
    let x = share_of (state_at states u).b (state_at states u).c in
    fold-map (λ (a : ℕ) (m : Mail). a + m.message) (message_along (ranks cut) x Dir.Out) 0 (row graph.outs u) ∙ all_equal x (row graph.outs u)

share_low : (b : Bool) (left outs : ℕ) → outs * (if b then 0 else left * 85 / 100 / outs) ≤ left * 85 / 100
share_low true left outs = omega (arith, mul-zero outs)
share_low false left outs =
    omega (arith, div-mul-le_self (left * 85 / 100) outs, mul_comm outs (left * 85 / 100 / outs))

sent_low : (left outs : ℕ) → 20 * (outs * share_of left outs) ≤ 17 * left
sent_low left outs = omega (arith, share_low (outs == 0) left outs, div-mul-le_self (left * 85) 100)

-- a vertex's own run
own_awake : (cut phase v : ℕ) (s : VState) → (ranks cut).wake phase s ≡ true → own_state (ranks cut) phase v s ≡ (let t : VState = record { a = stopping s.a s.b; b = 0; c = s.c } in t)
own_awake cut phase v s is = rw is refl

own_asleep : (cut phase v : ℕ) (s : VState) → (ranks cut).wake phase s ≡ false → own_state (ranks cut) phase v s ≡ s
own_asleep cut phase v s is = rw is refl

own_c : (cut phase v : ℕ) (s : VState) → (own_state (ranks cut) phase v s).c ≡ s.c
own_c cut phase v s = elim (cases_Bool ((ranks cut).wake phase s)) [
  | inl awake ↦ ap (λ (t : VState). t.c) (own_awake cut phase v s awake)
  | inr asleep ↦ ap (λ (t : VState). t.c) (own_asleep cut phase v s asleep)
]

own_low : (cut phase v outs : ℕ) (s : VState) → s.c ≡ outs → weight (own_state (ranks cut) phase v s) + 20 * only_if ((ranks cut).wake phase s) (outs * share_of s.b s.c) ≤ weight s
own_low cut phase v outs s is = elim (cases_Bool ((ranks cut).wake phase s)) [
  | inl awake ↦ omega (
    arith,
    ap weight (own_awake cut phase v s awake),
    only_on ((ranks cut).wake phase s) (outs * share_of s.b s.c) awake,
    ap (λ (c : ℕ). outs * share_of s.b c) is,
    sent_low s.b outs,
  )
  | inr asleep ↦ omega (
    arith,
    ap weight (own_asleep cut phase v s asleep),
    only_off ((ranks cut).wake phase s) (outs * share_of s.b s.c) asleep,
  )
]

total-twenty : (g : ℕ → ℕ) (a n : ℕ) → total (λ u. 20 * g u) a n ≡ 20 * total g a n
total-twenty g a zero = refl
total-twenty g a (suc n) = omega (arith, total-twenty g (a + 1) n)

-- one iteration
abbrev sent_by : ℕ → Graph → ℕ → List VState → ℕ → ℕ
sent_by cut graph phase states u = only_if (awake_at (ranks cut) phase states u) (sum_by (λ m. m.message) (sends (ranks cut) graph phase states u))

all_mail : (cut : ℕ) (graph : Graph) (phase : ℕ) (states : List VState) → sum_by (λ m. m.message) (mail (ranks cut) graph phase states) ≡ total (sent_by cut graph phase states) 0 (length states)
unfolding mail
all_mail cut graph phase states = sum_passing (λ (m : Mail). m.message) (sends (ranks cut) graph phase states) (awake_at (ranks cut) phase states) 0 (length states)

after_low : (cut : ℕ) (graph : Graph) (phase : ℕ) (states : List VState) → IsBounded graph states → sum_by weight (after (ranks cut) graph phase states) ≤ sum_by weight states
after_low cut graph phase states is =
    let next = after (ranks cut) graph phase states in
    let messages = mail (ranks cut) graph phase states in
    let n = length states in
    let own : ℕ → ℕ = λ v. weight (own_state (ranks cut) phase v (state_at states v)) in
    let got : ℕ → ℕ = λ v. sum_of (sent_to v messages) in
    let sent : ℕ → ℕ = sent_by cut graph phase states in
    omega (
      arith,
      sum_states weight next,
      ap (total (λ v. weight (state_at next v)) 0) (length-after (ranks cut) graph phase states),
      total-le (λ v. weight (state_at next v)) (λ v. own v + 20 * got v) 0 n (λ v from below.
          omega (arith, ap weight (after_at (ranks cut) graph phase v states (omega arith)), fold_weight cut (own_state (ranks cut) phase v (state_at states v)) (sent_to v messages))),
      total-add own (λ v. 20 * got v) 0 n,
      total-twenty got 0 n,
      all_sent n messages,
      all_mail cut graph phase states,
      total-twenty sent 0 n,
      total-add own (λ v. 20 * sent v) 0 n,
      total-le (λ v. own v + 20 * sent v) (λ v. weight (state_at states v)) 0 n (λ v from below.
          omega (
            arith,
            own_low cut phase v (length (row graph.outs v)) (state_at states v) (is.degrees v (omega (arith, is.counted))),
            ap (only_if (awake_at (ranks cut) phase states v)) (sends_sum cut graph phase v states),
          )),
      sum_states weight states,
    )

keeps : (cut : ℕ) (graph : Graph) → IsKept (ranks cut) graph (λ phase states. IsBounded graph states)
keeps cut graph = record {
  rises = λ phase bid states idle is_bid is. is;
  iterates = λ phase states good is. record {
    counted = length-after (ranks cut) graph phase states ∙ is.counted;
    degrees = λ v below.
        ap (λ (s : VState). s.c) (after_at (ranks cut) graph phase v states (omega (arith, is.counted)))
        ∙ fold_c cut (own_state (ranks cut) phase v (state_at states v)) (sent_to v (mail (ranks cut) graph phase states))
        ∙ own_c cut phase v (state_at states v) ∙ is.degrees v below;
    low = omega (arith, after_low cut graph phase states is, is.low);
  };
}

both_sums : (cut : ℕ) (states : List VState) → 3 * all_had (ranks cut) states + 20 * all_waiting (ranks cut) states ≡ sum_by weight states
both_sums cut [] = refl
both_sums cut (s ∷ states) =
    omega (arith, both_sums cut states, sum_by-cons (λ (t : VState). t.a) s states, sum_by-cons (λ (t : VState). t.b) s states, sum_by-cons weight s states)

ranks_stay : (cut : ℕ) (graph : Graph) (most : ℕ) (end : End) → answer_of (run (ranks cut) graph most) ≡ Ok end
    → 3 * all_had (ranks cut) end.states + 20 * all_waiting (ranks cut) end.states ≤ 3 * graph.n * 2 ^ 20
ranks_stay cut graph most end answer =
    let held = answer_keeps (ranks cut) graph (λ phase states. IsBounded graph states) most end (keeps cut graph) (opens cut graph) answer in
    omega (arith, held.kept.low, both_sums cut end.states)

pub stays_bounded : (cut : ℕ) → StaysBounded cut
unfolding rank
stays_bounded cut graph most end answer = ranks_stay cut graph most end answer
