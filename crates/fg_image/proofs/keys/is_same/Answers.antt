use Rattle.std.proofs.lemmas.Bool.Decides.{Decides-eqb}
use Rattle.std.proofs.lemmas.Slice.Eq.{slice_eq-Decides}
use Rattle.fg_image.proofs.KeyLaws.{sorted_same, unsorted_same}
use Rattle.fg_image.proofs.keys.is_same.Goals as goal

pub returns-clause-same : goal.returns-clause-same
returns-clause-same c =
    let keys = c.args.keys.now in
    let others = c.args.others.now in
    let one = c.sort_unstable in
    let other = c.sort_unstable-2 in
    let decides = slice_eq-Decides Decides-eqb _ _ _ c.eq.ensures in (
      (λ yes. unsorted_same keys others one.new.self other.new.self one.ensures.permutation other.ensures.permutation (decides.0 yes)),
      (λ same. decides.1 (sorted_same keys others one.new.self other.new.self one.ensures.permutation other.ensures.permutation one.ensures.sorted other.ensures.sorted same)),
    )
