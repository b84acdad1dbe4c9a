-- How a job raises its tally, by what its stages did.
use Rattle.std.proofs.Common.{◌≡◌, ◌∙◌, ℕ, ⊎_elim, Option, None, Some, IfSome, Ok, List, [], refl, sym, subst, arith}
use Rattle.fg_base.specs.Refusal.{status_of}
use Rattle.fg_base.specs.declared.refusal.Refusal.{Refusal}
use Rattle.fg_build.specs.declared.opened.Opened.{Opened}
use Rattle.fg_build.specs.Opening.{opening_of}
use Rattle.fg_engine.specs.Tallies.{RoseWithBegun, RoseWithin, Tallied, tallied}
use Rattle.fg_model.specs.Iteration.{Begun}
use Rattle.fg_model.specs.Run.{begun_of}
use Rattle.fg_top.specs.declared.wish.Wish.{Wish}
use Rattle.fg_top.specs.Calls.{Output}
use Rattle.fg_top.specs.Ends.{IsWritten}
use Rattle.fg_top.specs.Outcome.{held_graph, run_on}
use Rattle.fg_top.specs.Running.{IsSourced}
use Rattle.fg_top.specs.Statuses.{CameToEnd}
use Rattle.fg_top.specs.Tallies.{begins_of}
use Rattle.fg_top.proofs.EndLemmas.{refused_status}
use Rattle.fg_top.proofs.OutcomeLemmas.{begins_run}

-- a tally that stands, where nothing began
pub none_rose : (runs entries : ℕ) → RoseWithBegun [] (tallied runs runs entries entries)
none_rose runs entries = record {
  runs = record { at_least = omega arith; at_most = omega arith };
  entries = record { at_least = omega arith; at_most = omega arith };
}

pub none_began : (whole : Type 0) (all : List Begun) (runs entries : ℕ) → (whole → all ≡ []) → RoseWithin whole all (tallied runs runs entries entries)
none_began whole all runs entries none = record { begun = []; are_first = (0, refl); are_all = λ is_whole. sym (none is_whole); rose = none_rose runs entries }

-- the same work, of which less is asked to be whole
pub went_by : (whole other : Type 0) (all : List Begun) (tally : Tallied) → (other → whole) → RoseWithin whole all tally → RoseWithin other all tally
went_by whole other all tally more went =
    record { begun = went.begun; are_first = went.are_first; are_all = λ is_other. went.are_all (more is_other); rose = went.rose }

-- where a refusal ended the work and the status is that of a work that came to its end, the graph was refused
pub graph_status : (output : Output) (refusal : Refusal) (text : List ℕ) (status : ℕ) → IsWritten output (Some refusal) text status → CameToEnd status → status_of refusal ≡ 8
graph_status output refusal text status written came =
    ⊎_elim
    (λ zero. absurd (refused_status output refusal text status written zero))
    (λ eight. ⊎_elim (λ whole. sym whole.3 ∙ eight) (λ failed. let four : ◌≡◌ {A = ℕ} 4 8 = sym failed.2 ∙ eight in cc) written)
    came

-- a work that is refused before the first iteration
pub went_refused : (wish : Wish) (told : Option (List (List ℕ))) (refusal : Refusal) (output : Output) (text : List ℕ) (status runs entries : ℕ) →
    (status_of refusal ≡ 8 → IfSome told (λ helds. begins_of wish (held_graph helds) ≡ [])) → IsWritten output (Some refusal) text status →
    IfSome told (λ helds. RoseWithin (CameToEnd status) (begins_of wish (held_graph helds)) (tallied runs runs entries entries))
went_refused wish None refusal output text status runs entries unbegun written = tt
went_refused wish (Some helds) refusal output text status runs entries unbegun written =
    none_began (CameToEnd status) (begins_of wish (held_graph helds)) runs entries (λ came. unbegun (graph_status output refusal text status written came))

-- the output failed before the first iteration
pub went_given_up : (wish : Wish) (told : Option (List (List ℕ))) (status runs entries : ℕ) → status ≡ 4 →
    IfSome told (λ helds. RoseWithin (CameToEnd status) (begins_of wish (held_graph helds)) (tallied runs runs entries entries))
went_given_up wish None status runs entries is = tt
went_given_up wish (Some helds) status runs entries is =
    none_began (CameToEnd status) (begins_of wish (held_graph helds)) runs entries
    (⊎_elim (λ zero. let four : ◌≡◌ {A = ℕ} 4 0 = sym is ∙ zero in cc) (λ eight. let four : ◌≡◌ {A = ℕ} 4 8 = sym is ∙ eight in cc))

-- the run on the drives is the run that is wished for
pub went_of : (wish : Wish) (told again : Option (List (List ℕ))) (opened : Opened) (whole : Type 0) (tally : Tallied) → again ≡ told →
    IfSome told (λ helds. opening_of helds ≡ Ok opened) → IsSourced wish.pick opened.header.n → IfSome again (λ helds. RoseWithin whole (begun_of (run_on wish opened helds)) tally) →
    IfSome told (λ helds. RoseWithin whole (begins_of wish (held_graph helds)) tally)
went_of wish None again opened whole tally same opening sourced rose = tt
went_of wish (Some helds) again opened whole tally same opening sourced rose =
    let Of : Option (List (List ℕ)) → Type 0 = λ told. IfSome told (λ helds. RoseWithin whole (begun_of (run_on wish opened helds)) tally) in
    let All : List Begun → Type 0 = λ all. RoseWithin whole all tally in
    subst All (sym (begins_run wish opened helds opening sourced)) (subst Of same rose)

-- where nothing begins, a tally stands
pub nothing_began : (told : Option (List (List ℕ))) (whole : Type 0) (runs entries : ℕ) → IfSome told (λ helds. RoseWithin whole [] (tallied runs runs entries entries))
nothing_began None whole runs entries = tt
nothing_began (Some helds) whole runs entries = none_began whole [] runs entries (λ is_whole. refl)
