use Rattle.std.proofs.Common.{◌≡◌}
use Rattle.fg_image.specs.Lists.{entries_at}
use Rattle.fg_image.proofs.cut.cut_list.Given as goal

abbrev pub invariant-loop-i : goal.invariant-loop-i
invariant-loop-i l = l.entries.items ≡ entries_at l.weighted l.bytes l.place l.i
