-- What is counted for results, one after the other, is counted for all of them.
use Rattle.std.proofs.Common.{◌≡◌, ◌+◌, List, [], ◌∷◌, ◌++◌, None, ap, ◌∙◌, arith, append_assoc}
use Rattle.std.proofs.lemmas.List.Elements.{All-head}
use Rattle.std.proofs.lemmas.List.Sums.{sum_by-append, sum_by-cons}
use Rattle.fg_task.specs.declared.block_result.BlockResult.{BlockResult}
use Rattle.fg_task.specs.Blocks.{Blocks}
use Rattle.fg_task.specs.Spending.{Counted, SpentOn, SpentOnMore, active_in, sent_in, visits_in}
use Rattle.fg_crew.proofs.ListLaws.{all-behind, all-first}

pub active-append : (xs ys : List BlockResult) → active_in (xs ++ ys) ≡ active_in xs + active_in ys
active-append xs ys = sum_by-append (λ (result : BlockResult). result.active) xs ys

pub sent-append : (xs ys : List BlockResult) → sent_in (xs ++ ys) ≡ sent_in xs + sent_in ys
sent-append xs ys = sum_by-append (λ (result : BlockResult). result.sent) xs ys

module _ (blocks : Blocks) where
  pub visits-append : (xs ys : List BlockResult) → visits_in blocks (xs ++ ys) ≡ visits_in blocks xs + visits_in blocks ys
  visits-append xs ys = sum_by-append (λ (result : BlockResult). blocks.visits_of result.block) xs ys

  pub spent-one : (old new : Counted) (before after : List BlockResult) (result : BlockResult) → after ≡ before ++ result ∷ [] → SpentOn blocks old new result
      → SpentOnMore blocks old new before after
  spent-one old new before after result is on = record {
    added = result ∷ [];
    behind = is;
    runs = omega (arith, on.runs, sum_by-cons (λ (one : BlockResult). one.active) result []);
    entries = omega (arith, on.entries, sum_by-cons (λ (one : BlockResult). one.sent) result []);
    hits = λ none. let fine = on.hits (All-head (λ (one : BlockResult). one.bad ≡ None) result [] none) in
        omega (arith, fine, sum_by-cons (λ (one : BlockResult). blocks.visits_of one.block) result []);
  }

  pub spent-then : (first middle last : Counted) (xs ys zs : List BlockResult) → SpentOnMore blocks first middle xs ys → SpentOnMore blocks middle last ys zs
      → SpentOnMore blocks first last xs zs
  spent-then first middle last xs ys zs one two = record {
    added = one.added ++ two.added;
    behind = two.behind ∙ ap (λ (l : List BlockResult). l ++ two.added) one.behind ∙ append_assoc xs one.added two.added;
    runs = omega (arith, one.runs, two.runs, active-append one.added two.added);
    entries = omega (arith, one.entries, two.entries, sent-append one.added two.added);
    hits = λ none.
        let fine = one.hits (all-first (λ (result : BlockResult). result.bad ≡ None) one.added two.added none) in
        let rest = two.hits (all-behind (λ (result : BlockResult). result.bad ≡ None) one.added two.added none) in
        omega (arith, fine, rest, visits-append one.added two.added);
  }
