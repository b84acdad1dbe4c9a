use Rattle.std.proofs.lemmas.List.Filters.{dedup_is}
use Rattle.std.proofs.lemmas.List.Kept.{Contains-dedup_nat, Contains-from_dedup}
use Rattle.std.proofs.lemmas.List.Sorted.{Contains-permutation, IsPermutation-sym}
use Rattle.std.proofs.lemmas.Map.Keys.{IsStrictlyIncreasing-dedup}
use Rattle.fg_task.proofs.PagesLaws.{only_own, tells-both}
use Rattle.fg_task.proofs.book.TaskBook.pages.Goals as goal

pub returns : goal.returns
returns g c =
    let is = dedup_is _ _ _ c.dedup.ensures.filtered in
    let moved = c.sort_unstable.ensures.permutation in
    let told = tells-both c.self.inside.outs c.self.inside.ins c.tell_pages.new.pages.items c.tell_pages-2.new.pages.items (rw c.new-pages.ensures.items at c.in_ok-tell_pages.ensures.ok) c.in_ok-tell_pages-2.ensures.ok in
    rw (← c.self.view_is) (record {
      ascending = rw is (IsStrictlyIncreasing-dedup _ c.sort_unstable.ensures.sorted);
      all = λ page there. rw is (Contains-dedup_nat _ page (Contains-permutation _ _ page moved (told.all page there)));
      own = λ page there. only_own _ _ page told (Contains-permutation _ _ page (IsPermutation-sym _ _ moved) (Contains-from_dedup _ _ page (rw is at there)));
    })
