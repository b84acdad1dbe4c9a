use Rattle.std.proofs.Common.{rules}
use Rattle.std.proofs.lemmas.List.Sorted.{answers_always}
use Rattle.fg_queue.proofs.merge.by_page.Goals as goal

pub returns : goal.returns
returns c =
    let asked = c.in_ok-sorted.ensures.items in
    record {
      each_once = rw asked at c.in_ok-sort_by_key.ensures.permutation;
      by_page = c.in_ok-sort_by_key.ensures.sorted (λ ask. ask.page) (answers_always _ _ _ (λ f a r g called. search rules));
      in_order = rw asked at (c.in_ok-sort_by_key.ensures.stable (λ ask. ask.page) (answers_always _ _ _ (λ f a r g called. search rules)));
    }
