-- Iterations one after another: what was found for each is found for all.
use Rattle.std.proofs.Common.{◌≡◌, ◌+◌, ◌++◌, ◌∙◌, Bool, List, [], refl, ap, arith}
use Rattle.std.proofs.lemmas.List.Sums.{sum_by-append}
use Rattle.fg_model.specs.Iteration.{Begun}
use Rattle.fg_model.specs.Program.{Rules}
use Rattle.fg_task.specs.Spending.{Counted}
use Rattle.fg_iter.specs.declared.crew.Crew.{Crew}
use Rattle.fg_iter.specs.Crew.{IsSameCrew}
use Rattle.fg_iter.specs.Engine.{HasDone, visits_of_all}
use Rattle.fg_iter.specs.Lists.{Lists, visits_by_blocks}

pub HasDone-none : {P K F : Type 0} (lists : Lists) (spent : K → Counted) (rules : Rules) (cut : Bool) (crew : Crew P K F)
    → HasDone lists spent rules [] cut cut crew crew
HasDone-none lists spent rules cut crew = record {
  same = record { program = refl; map = refl; workers = refl };
  whole = λ none. none;
  hits = λ none. omega arith;
}

pub IsSameCrew-more : {P K F : Type 0} (first middle last : Crew P K F) → IsSameCrew first middle → IsSameCrew middle last → IsSameCrew first last
IsSameCrew-more first middle last one two = record {
  program = two.program ∙ one.program;
  map = two.map ∙ one.map;
  workers = two.workers ∙ one.workers;
}

pub HasDone-more : {P K F : Type 0} (lists : Lists) (spent : K → Counted) (rules : Rules) (begun next : List Begun) (cut_first cut_middle cut : Bool)
    (first middle last : Crew P K F) → HasDone lists spent rules begun cut_first cut_middle first middle
    → HasDone lists spent rules next cut_middle cut middle last → HasDone lists spent rules (begun ++ next) cut_first cut first last
HasDone-more lists spent rules begun next cut_first cut_middle cut first middle last one two = record {
  same = IsSameCrew-more first middle last one.same two.same;
  whole = λ none. one.whole (two.whole none);
  hits = λ none.
      let early = one.hits (two.whole none) in
      let late = two.hits none in
      let same_map : visits_of_all lists rules middle.inboxes.map next ≡ visits_of_all lists rules first.inboxes.map next =
      ap (λ map. visits_of_all lists rules map next) one.same.map in
      let both : visits_of_all lists rules first.inboxes.map (begun ++ next)
      ≡ visits_of_all lists rules first.inboxes.map begun + visits_of_all lists rules first.inboxes.map next =
      sum_by-append (λ (b : Begun). visits_by_blocks lists rules first.inboxes.map b.active) begun next in
      omega (arith, early, late, same_map, both);
}
