-- What the values of a run mean on drives that were opened.
use Rattle.std.proofs.Common.{◌≡◌, ℕ, ◌+◌, ◌*◌, ◌<◌, ◌≤◌, ◌^◌, true, Option, None, Some, IfSome, Result, Ok, List, All, length, refl, sym, ap, subst}
use Rattle.fg_base.specs.declared.plain.Entry.{Entry}
use Rattle.fg_base.specs.declared.plain.Value.TheVariants.{One}
use Rattle.fg_base.specs.declared.refusal.Refusal.{Refusal}
use Rattle.fg_build.specs.declared.opened.Opened.{Opened}
use Rattle.fg_build.specs.Answers.{OpenedFits}
use Rattle.fg_build.specs.Opening.{graph_on, image_of, opening_of}
use Rattle.fg_build.proofs.HeldLaws.{AreBytes, all_told-all, image_bytes}
use Rattle.fg_comps.specs.Components.{IsLeastConnected}
use Rattle.fg_comps.specs.CoreNumbers.{IsCoreNumber}
use Rattle.fg_comps.proofs.Peeled.{values_are_core_numbers}
use Rattle.fg_comps.proofs.Wccs.{values_are_least as values_are_least_connected}
use Rattle.fg_image.proofs.LimitLaws.{graph_by-limits}
use Rattle.fg_model.specs.declared.graph.Graph.{Graph}
use Rattle.fg_model.specs.declared.run.End.{End}
use Rattle.fg_model.specs.Graph.{IsWithinLimits}
use Rattle.fg_model.specs.Iteration.{state_at}
use Rattle.fg_model.specs.Mirror.{IsMirror}
use Rattle.fg_model.specs.Program.{Rules}
use Rattle.fg_model.specs.Run.{Settled, answer_at, answer_of, run}
use Rattle.fg_outside.specs.Drives.{all_told}
use Rattle.fg_rank.specs.RankSums.{all_had, all_waiting}
use Rattle.fg_rank.proofs.Bounds.{stays_bounded}
use Rattle.fg_words.specs.declared.jobs.Pick.{Pick}
use Rattle.fg_top.specs.declared.wish.Wish.{Wish}
use Rattle.fg_top.specs.Meaning.{MeansOn, MeansWish}
use Rattle.fg_top.specs.Outcome.{held_graph, opened_graph, rules_of}
use Rattle.fg_walks.specs.Walks.{AreLeastValues, GivesLeastValues, weight}
use Rattle.fg_walks.proofs.WalkLaws.{levels_are_least, values_are_least}

-- after a settled run on a mirror each value is such a number
abbrev GivesNumbers : Rules → (Graph → ℕ → ℕ → Type 0) → Type 0
GivesNumbers P IsNumber = (graph : Graph) (most : ℕ) (end : End) → IsWithinLimits graph → IsMirror graph → answer_of (run P graph most) ≡ Ok end → end.settled ≡ true →
    (v : ℕ) → v < graph.n → (x : ℕ) × (P.show (state_at end.states v) ≡ One x) × IsNumber graph v x

abbrev BoundsRanks : Rules → Type 0
BoundsRanks P = (graph : Graph) (most : ℕ) (end : End) → answer_of (run P graph most) ≡ Ok end → 3 * all_had P end.states + 20 * all_waiting P end.states ≤ 3 * graph.n * 2 ^ 20

-- the values of a run that settled
settled_values : (measure : List Entry → ℕ) (P : Rules) (source : ℕ) (graph : Graph) (most : ℕ) → GivesLeastValues measure P source →
    IsWithinLimits graph → most < 2 ^ 32 → (run P graph most).ending ≡ Settled → AreLeastValues measure P graph source (run P graph most).states
unfolding answer_of
settled_values measure P source graph most gives within few settled =
    let ran = run P graph most in
    gives graph most (record { settled = true; iterations = ran.iterations; phase = ran.phase; states = ran.states }) within few
    (ap (λ ending. answer_at ending ran.iterations ran.phase ran.states) settled) refl

-- the same of a run on a mirror
mirrored_values : (P : Rules) (IsNumber : Graph → ℕ → ℕ → Type 0) (graph : Graph) (most : ℕ) → GivesNumbers P IsNumber →
    IsWithinLimits graph → (run P graph most).ending ≡ Settled → IsMirror graph → (v : ℕ) → v < graph.n →
    (x : ℕ) × (P.show (state_at (run P graph most).states v) ≡ One x) × IsNumber graph v x
unfolding answer_of
mirrored_values P IsNumber graph most gives within settled mirror =
    let ran = run P graph most in
    gives graph most (record { settled = true; iterations = ran.iterations; phase = ran.phase; states = ran.states }) within mirror
    (ap (λ ending. answer_at ending ran.iterations ran.phase ran.states) settled) refl

means_on : (wish : Wish) (graph : Graph) → IsWithinLimits graph → wish.max < 2 ^ 32 → (pick : Pick) → wish.pick ≡ pick → MeansOn wish graph pick
means_on wish graph within few (Pick.Bfs source) is =
    let P : Pick → Type 0 = λ pick. GivesLeastValues length (rules_of pick) source in
    settled_values length (rules_of wish.pick) source graph wish.max (subst P (sym is) (levels_are_least source)) within few
means_on wish graph within few (Pick.Sssp source) is =
    let P : Pick → Type 0 = λ pick. GivesLeastValues weight (rules_of pick) source in
    settled_values weight (rules_of wish.pick) source graph wish.max (subst P (sym is) (values_are_least source)) within few
means_on wish graph within few Pick.Wcc is =
    let Least : Graph → ℕ → ℕ → Type 0 = λ graph. IsLeastConnected graph.outs in
    let P : Pick → Type 0 = λ pick. GivesNumbers (rules_of pick) Least in
    mirrored_values (rules_of wish.pick) Least graph wish.max (subst P (sym is) values_are_least_connected) within
means_on wish graph within few Pick.Core is =
    let P : Pick → Type 0 = λ pick. GivesNumbers (rules_of pick) IsCoreNumber in
    mirrored_values (rules_of wish.pick) IsCoreNumber graph wish.max (subst P (sym is) values_are_core_numbers) within
means_on wish graph within few (Pick.Rank cut) is =
    let P : Pick → Type 0 = λ pick. BoundsRanks (rules_of pick) in
    subst P (sym is) (stays_bounded cut) graph wish.max

-- the graph on drives that were opened is within the limits
opened_within : (opened : Opened) (helds : List (List ℕ)) → OpenedFits opened → All AreBytes helds → IsWithinLimits (graph_on opened helds)
opened_within opened helds fits bytes =
    graph_by-limits opened.layout opened.index (image_of opened helds) fits.index (image_bytes opened.layout.unit opened.layout.pages helds bytes)

pub opened_means : {D : Type 0} (held : D → Option (List ℕ)) → ((drive : D) → IfSome (held drive) AreBytes) → (drives : List D) (wish : Wish) (opened : Opened) →
    wish.max < 2 ^ 32 → OpenedFits opened → IfSome (all_told held drives) (λ helds. opening_of helds ≡ Ok opened) →
    IfSome (all_told held drives) (λ helds. MeansWish wish (held_graph helds))
opened_means held law drives wish opened few fits opening = means (all_told held drives) (all_told-all held AreBytes law drives) opening where
  means : (told : Option (List (List ℕ))) → IfSome told (All AreBytes) → IfSome told (λ helds. opening_of helds ≡ Ok opened) → IfSome told (λ helds. MeansWish wish (held_graph helds))
  means None bytes opening = tt
  means (Some helds) bytes opening =
      let By : Result Opened Refusal → Type 0 = λ given. MeansWish wish (opened_graph helds given) in
      subst By (sym opening) (means_on wish (graph_on opened helds) (opened_within opened helds fits bytes) few wish.pick refl)
