use Rattle.std.proofs.Common.{◌≡◌, subst, sym, rules}
use Rattle.std.specs.List.{dedup}
use Rattle.std.specs.Ordering.{is_lt}
use Rattle.std.proofs.lemmas.Fn.{dedup_same}
use Rattle.std.proofs.lemmas.List.Sorted.{answers_always}
use Rattle.std.specs.Prelude.{List}
use Rattle.fg_model.specs.declared.edges.Pair.{Pair}
use Rattle.fg_text.specs.Merged.{IsMerged, has_place_of}
use Rattle.fg_text.proofs.DedupLemmas.{dedup_merges}
use Rattle.fg_text.proofs.MergedLemmas.{merged_is, merged_permuted, one_merged}
use Rattle.fg_text.proofs.SortedLemmas.{no_later_sorted, pair_cmp, pair_order}
use Rattle.fg_text.proofs.merged.merge.Goals as goal

means : (c : goal.After-dedup_by) → IsMerged c.args.pairs.items c.dedup_by.new.self.items
means c =
    let sorted = c.sort_unstable_by.new.self.items in
    let kept = c.dedup_by.new.self.items in
    let up = no_later_sorted sorted (c.sort_unstable_by.ensures.sorted (λ one other. is_lt (pair_cmp one other)) pair_order (answers_always _ _ _ (λ f a r g called. search rules))) in
    let same : kept ≡ dedup has_place_of sorted = dedup_same {X = Pair} _ has_place_of _ (λ x y b f' x' y' k. search rules) sorted kept c.dedup_by.ensures.filtered in
    let P : List Pair → Type 0 = IsMerged sorted in
    merged_permuted c.args.pairs.items sorted kept c.sort_unstable_by.ensures.permutation (subst P (sym same) (dedup_merges sorted up))

pub returns-clause-merged : goal.returns-clause-merged
returns-clause-merged c = one_merged c.args.pairs.items _ _ (means c) (merged_is c.args.pairs.items)

pub returns-clause-meaning : goal.returns-clause-meaning
returns-clause-meaning c = means c
