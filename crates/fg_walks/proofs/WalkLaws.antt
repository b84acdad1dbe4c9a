-- After a settled run the values are the least lengths and the least weights of walks from the source.
use Rattle.std.proofs.Common.{◌≡◌, ℕ, ◌+◌, ◌*◌, ◌-◌, ◌<◌, ◌≤◌, ◌^◌, ◌⊎◌, inl, inr, Bool, true, false, Ok, List, [], ◌∷◌, length, refl, sym, ap, ◌∙◌, subst, arith}
use Rattle.std.specs.Prelude.{All, ◌==◌, Contains, if◌then◌else◌, sum_by}
use Rattle.std.specs.List.{list_any}
use Rattle.std.proofs.lemmas.Bool.{cases_Bool, cases_lt, both_ways, eq-eqb, eqb-true, ltb-false}
use Rattle.std.proofs.lemmas.List.{get_or_past}
use Rattle.std.proofs.lemmas.List.Elements.{All-get_or, All-contains}
use Rattle.std.proofs.lemmas.List.Folds.{list_any_at}
use Rattle.std.proofs.lemmas.List.Sums.{sum_by-append}
use Rattle.fg_base.specs.declared.plain.Entry.{Entry}
use Rattle.fg_base.specs.declared.plain.Value.TheVariants.{Absent, One}
use Rattle.fg_base.specs.declared.plain.VState.{VState}
use Rattle.fg_model.specs.declared.graph.Graph.{Graph}
use Rattle.fg_model.specs.declared.run.End.{End}
use Rattle.fg_model.specs.Graph.{IsEntryOf, IsWithinLimits, row}
use Rattle.fg_model.specs.Iteration.{state_at}
use Rattle.fg_model.specs.Program.{Rules}
use Rattle.fg_model.specs.Run.{Ending, Finished, answer_at, answer_of, opening_states, run, run_from}
use Rattle.fg_walks.specs.Bfs.{bfs}
use Rattle.fg_walks.specs.Spread.{none, spread}
use Rattle.fg_walks.specs.Sssp.{sssp}
use Rattle.fg_walks.specs.Walks.{AreSumsWhole, MakesWholeSums, AreLeastValues, GivesLeastValues, IsLeast, IsLeastValue, IsWalk, LevelsAreLeastLengths, ValuesAreLeastWeights, weight}
use Rattle.fg_model.proofs.AfterLemmas.{length-opening, opening_at}
use Rattle.fg_model.proofs.Each.{all_from_each, each_at}
use Rattle.fg_walks.proofs.Settles.{HoldsAtRest, finishes, settles}
use Rattle.fg_walks.proofs.SpreadStep.{AreCosts, IsSpread, Passed, Reached, at, is_awake, past_number, spread_next, top}

-- what is no vertex has no entries
no_entry : (rows : List (List Entry)) (v : ℕ) (entry : Entry) → length rows ≤ v → Contains (row rows v) entry → ⊥
no_entry rows v entry past has =
    let e : row rows v ≡ [] = get_or_past rows v [] past in
    let P : List Entry → Type 0 = λ xs. Contains xs entry in
    let none_has : Contains [] entry = subst P e has in
    let low : none_has.0 < 0 = none_has.1 in
    omega arith

-- the opening states
opened_at : (cost : Entry → ℕ) (outs : List (List Entry)) (source v : ℕ) (is_source : Bool) → (v == source) ≡ is_source → Reached cost outs source 0 v (if is_source then 0 else none)
opened_at cost outs source v true is = inr (record { entries = []; is_walk = sym (eqb-true v source is); costs = refl; within = omega arith })
opened_at cost outs source v false is = inl refl

spread_opens : (cost : Entry → ℕ) (graph : Graph) (source : ℕ) → IsSpread cost graph source 0 (opening_states (spread cost source) graph)
spread_opens cost graph source =
    let states = opening_states (spread cost source) graph in
    record {
      counted = length-opening (spread cost source) graph;
      reached = λ v below.
          let Is : ℕ → Type 0 = λ x. Reached cost graph.outs source 0 v x in
          subst Is (sym (ap (λ (s : VState). s.a) (opening_at (spread cost source) graph v below))) (opened_at cost graph.outs source v (v == source) refl);
      passed = λ v below. inl (ap (λ (s : VState). s.b) (opening_at (spread cost source) graph v below));
      opened = elim (cases_lt source graph.n) [
        | inl below ↦
            let zero_there : at states source ≡ 0 = ap (λ (s : VState). s.a) (opening_at (spread cost source) graph source below) ∙ (rw (eq-eqb source source refl) refl) in
            omega (arith, zero_there)
        | inr past ↦ omega (arith, past_number states source (omega (arith, length-opening (spread cost source) graph)))
      ];
    }

-- at rest nobody has more to send
rested : (cost : Entry → ℕ) (source phase v : ℕ) (states : List VState) → list_any ((spread cost source).wake phase) states ≡ false → v < length states → (state_at states v).b ≤ at states v
rested cost source phase v states idle below = elim (cases_Bool (is_awake states v)) [
  | inl awake ↦ absurd (both_ways (list_any ((spread cost source).wake phase) states) idle (list_any_at ((spread cost source).wake phase) states v (record { a = 0; b = 0; c = 0 }) below awake))
  | inr asleep ↦ ltb-false (at states v) (state_at states v).b asleep
]

-- at rest the number falls along no walk by more than its costs
pub record Bounded (limit from costs x : ℕ) : Type 0 where
  pub in_limit : x ≤ limit
  pub in_costs : x ≤ from + costs

-- one entry
next_number : (cost : Entry → ℕ) (outs : List (List Entry)) (source limit u : ℕ) (states : List VState) (entry : Entry) → Contains (row outs u) entry → cost entry ≤ top → limit + top < none
    → (state_at states u).b ≤ at states u → at states u ≤ limit → Passed cost outs states u (state_at states u).b → at states entry.target ≤ at states u + cost entry
next_number cost outs source limit u states entry has low room rest small (inl is) = absurd (omega (arith, is))
next_number cost outs source limit u states entry has low room rest small (inr each) =
    omega (arith, each_at (λ other. at states other.target ≤ (state_at states u).b + cost other) (row outs u) entry each has)

in_limit_at : (cost : Entry → ℕ) (outs : List (List Entry)) (source limit v x : ℕ) → x < none → Reached cost outs source limit v x → x ≤ limit
in_limit_at cost outs source limit v x low (inl is) = absurd (omega (arith, is))
in_limit_at cost outs source limit v x low (inr walk) = walk.within

pub record IsRested (cost : Entry → ℕ) (graph : Graph) (source number : ℕ) (states : List VState) : Type 0 where
  pub is_spread : IsSpread cost graph source number states
  pub costs : AreCosts cost graph.outs
  pub rows : length graph.outs ≡ graph.n
  pub room : number * top + top < none
  pub at_rest : (v : ℕ) → v < graph.n → (state_at states v).b ≤ at states v

along : (cost : Entry → ℕ) (graph : Graph) (source number : ℕ) (states : List VState) → IsRested cost graph source number states
    → (entries : List Entry) (u v : ℕ) → IsWalk graph.outs u entries v → at states u ≤ number * top → Bounded (number * top) (at states u) (sum_by cost entries) (at states v)
along cost graph source number states is [] u v walk small =
    let same : at states u ≡ at states v = ap (at states) walk in
    record { in_limit = omega (arith, same); in_costs = omega (arith, same) }
along cost graph source number states is (entry ∷ entries) u v walk small = elim (cases_lt u graph.n) [
  | inr past ↦ absurd (no_entry graph.outs u entry (omega (arith, is.rows)) walk.0)
  | inl below ↦
      let low = is.costs.low u entry walk.0 in
      let next : at states entry.target ≤ at states u + cost entry =
      next_number cost graph.outs source (number * top) u states entry walk.0 low is.room (is.at_rest u below) small (is.is_spread.passed u below) in
      let small_next : at states entry.target ≤ number * top = elim (cases_lt entry.target graph.n) [
        | inl target_below ↦ in_limit_at cost graph.outs source (number * top) entry.target (at states entry.target) (omega (arith, next, low, small, is.room)) (is.is_spread.reached entry.target target_below)
        | inr target_past ↦ omega (arith, past_number states entry.target (omega (arith, is.is_spread.counted)))
      ] in
      let rest = along cost graph source number states is entries entry.target v walk.1 small_next in
      let split = sum_by-append cost (entry ∷ []) entries in
      record { in_limit = rest.in_limit; in_costs = omega (arith, rest.in_costs, next, split) }
]

-- the value that is shown
shown_is : (measure : List Entry → ℕ) (outs : List (List Entry)) (source v x : ℕ) (is_none : Bool) → (x == none) ≡ is_none
    → (x ≡ none → (entries : List Entry) → IsWalk outs source entries v → ⊥) → ((x ≡ none → ⊥) → IsLeast measure outs source v x)
    → IsLeastValue measure outs source v (if is_none then Absent else One x)
shown_is measure outs source v x true is no_walk least = no_walk (eqb-true x none is)
shown_is measure outs source v x false is no_walk least = least (λ same. both_ways (x == none) is (eq-eqb x none same))

least_of : (cost : Entry → ℕ) (measure : List Entry → ℕ) (outs : List (List Entry)) (source limit v x : ℕ) → ((entries : List Entry) → sum_by cost entries ≡ measure entries)
    → ((entries : List Entry) → IsWalk outs source entries v → x ≤ sum_by cost entries) → (x ≡ none → ⊥) → Reached cost outs source limit v x → IsLeast measure outs source v x
least_of cost measure outs source limit v x same low some (inl is) = absurd (some is)
least_of cost measure outs source limit v x same low some (inr walk) = record {
  some_walk = (walk.entries, walk.is_walk, sym (same walk.entries) ∙ walk.costs);
  none_less = λ entries is_walk. omega (arith, low entries is_walk, same entries);
}

least_values : (cost : Entry → ℕ) (measure : List Entry → ℕ) (graph : Graph) (source number : ℕ) (states : List VState) → ((entries : List Entry) → sum_by cost entries ≡ measure entries)
    → IsRested cost graph source number states → AreLeastValues measure (spread cost source) graph source states
least_values cost measure graph source number states same is v below =
    let bounded : (entries : List Entry) → IsWalk graph.outs source entries v → Bounded (number * top) (at states source) (sum_by cost entries) (at states v) =
    λ entries walk. along cost graph source number states is entries source v walk (omega (arith, is.is_spread.opened)) in
    shown_is measure graph.outs source v (at states v) (at states v == none) refl
    (λ absent entries walk. let b = bounded entries walk in let in_limit : at states v ≤ number * top = b.in_limit in let room : number * top + top < none = is.room in omega arith)
    (λ some. least_of cost measure graph.outs source (number * top) v (at states v) same
    (λ entries walk. let b = bounded entries walk in omega (arith, b.in_costs, is.is_spread.opened)) some (is.is_spread.reached v below))

-- a run that settled rests
rests : (cost : Entry → ℕ) (graph : Graph) (source number : ℕ) (states : List VState) → AreCosts cost graph.outs → length graph.outs ≡ graph.n
    → HoldsAtRest (spread cost source) (IsSpread cost graph source) (2 ^ 32 - 1) states → (k : ℕ) × IsRested cost graph source k states
rests cost graph source number states costs rows held = (
  held.iterations,
  record {
    is_spread = held.kept;
    costs = costs;
    rows = rows;
    room = omega (arith, held.few);
    at_rest = λ v below. rested cost source held.phase v states held.idle (omega (arith, held.kept.counted));
  },
)

settled_answer : (ending : Ending) (iterations phase : ℕ) (states : List VState) (end : End) → answer_at ending iterations phase states ≡ Ok end → end.settled ≡ true → (ending ≡ Ending.Settled) × (states ≡ end.states)
settled_answer Ending.Settled iterations phase states end is settled = (refl, let e : (let x : End = record { settled = true; iterations = iterations; phase = phase; states = states } in x) ≡ end = cc in ap (λ (x : End). x.states) e)
settled_answer Ending.Stopped iterations phase states end is settled =
    let e : (let x : End = record { settled = false; iterations = iterations; phase = phase; states = states } in x) ≡ end = cc in
    let f : false ≡ true = ap (λ (x : End). x.settled) e ∙ settled in absurd (cc)
settled_answer (Ending.Refused begun bad) iterations phase states end is settled = absurd (cc)

settled_run : (most : ℕ) (P : Rules) (graph : Graph) (end : End) → answer_of (run P graph most) ≡ Ok end → end.settled ≡ true
    → ((run_from P graph most 0 0 (opening_states P graph)).ending ≡ Ending.Settled) × ((run_from P graph most 0 0 (opening_states P graph)).states ≡ end.states)
unfolding answer_of run
settled_run most P graph end is settled =
    let r = run_from P graph most 0 0 (opening_states P graph) in
    settled_answer r.ending r.iterations r.phase r.states end is settled

spread_gives : (cost : Entry → ℕ) (measure : List Entry → ℕ) (source : ℕ) → ((entries : List Entry) → sum_by cost entries ≡ measure entries)
    → ((graph : Graph) → IsWithinLimits graph → AreCosts cost graph.outs) → GivesLeastValues measure (spread cost source) source
spread_gives cost measure source same costs graph most end within low is settled =
    let P = spread cost source in
    let r = settled_run most P graph end is settled in
    let held = settles P graph (IsSpread cost graph source) (2 ^ 32 - 1) (spread_next cost graph source (costs graph within)) most 0 0 (opening_states P graph) (omega arith) (spread_opens cost graph source) r.0 in
    let Held : List VState → Type 0 = λ states. HoldsAtRest P (IsSpread cost graph source) (2 ^ 32 - 1) states in
    let at_end = rests cost graph source 0 end.states (costs graph within) within.out_side.row_count (subst Held r.1 held) in
    least_values cost measure graph source at_end.0 end.states same at_end.1

-- the costs of the two programs
length_is : (entries : List Entry) → sum_by (λ entry. 1) entries ≡ length entries
length_is [] = refl
length_is (entry ∷ entries) = let split = sum_by-append (λ (entry : Entry). 1) (entry ∷ []) entries in omega (arith, split, length_is entries)

weights_low : (graph : Graph) → IsWithinLimits graph → AreCosts (λ entry. entry.weight) graph.outs
weights_low graph within = record {
  low = λ v entry has. elim (cases_lt v (length graph.outs)) [
    | inl below ↦
        let here = All-get_or (λ entries. All (IsEntryOf graph.weighted) entries) graph.outs v [] below within.out_side.all_entries in
        let is = All-contains (IsEntryOf graph.weighted) (row graph.outs v) entry here has in
        let fits : entry.weight < 2 ^ 32 = is.weight_fits in omega arith
    | inr past ↦ absurd (no_entry graph.outs v entry past has)
  ];
}

-- no sum stops
whole_at : (cost : Entry → ℕ) (outs : List (List Entry)) (source number v x : ℕ) (entry : Entry) → number ≤ 2 ^ 32 - 1 → cost entry ≤ top → Reached cost outs source (number * top) v x → (x ≡ none) ⊎ (x + cost entry < none)
whole_at cost outs source number v x entry few low (inl is) = inl is
whole_at cost outs source number v x entry few low (inr walk) = inr (omega (arith, walk.within))

spread_sums : (cost : Entry → ℕ) (source : ℕ) → ((graph : Graph) → IsWithinLimits graph → AreCosts cost graph.outs) → MakesWholeSums cost (spread cost source)
unfolding run
spread_sums cost source costs graph most within low =
    let P = spread cost source in
    all_from_each (λ (finished : Finished). AreSumsWhole cost graph finished.states) (run P graph most).finished
    (finishes P graph (IsSpread cost graph source) (AreSumsWhole cost graph) (2 ^ 32 - 1) (spread_next cost graph source (costs graph within))
    (λ number states few is v entry below has. whole_at cost graph.outs source number v (at states v) entry few ((costs graph within).low v entry has) (is.reached v below))
    most 0 0 (opening_states P graph) (omega arith) (spread_opens cost graph source))

units_low : (graph : Graph) → IsWithinLimits graph → AreCosts (λ entry. 1) graph.outs
units_low graph within = record { low = λ v entry has. omega arith }

pub levels_are_whole : (source : ℕ) → MakesWholeSums (λ entry. 1) (bfs source)
unfolding bfs
levels_are_whole source = spread_sums (λ entry. 1) source units_low

pub weights_are_whole : (source : ℕ) → MakesWholeSums (λ entry. entry.weight) (sssp source)
unfolding sssp
weights_are_whole source = spread_sums (λ entry. entry.weight) source weights_low

pub levels_are_least : (source : ℕ) → LevelsAreLeastLengths source
unfolding bfs
levels_are_least source = spread_gives (λ entry. 1) length source length_is units_low

pub values_are_least : (source : ℕ) → ValuesAreLeastWeights source
unfolding sssp
values_are_least source = spread_gives (λ entry. entry.weight) weight source (λ entries. refl) weights_low
