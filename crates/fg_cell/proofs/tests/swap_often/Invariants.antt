use Rattle.fg_cell.specs.Pages.{FitsImage}
use Rattle.fg_cell.proofs.tests.swap_often.Given as goal

abbrev pub invariant-loop : goal.invariant-loop
invariant-loop g l = FitsImage l.frame l.spare
