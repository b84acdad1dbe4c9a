use Rattle.std.proofs.Common.{refl, arith}
use Rattle.fg_top.proofs.report.name_of.Goals as goal

pub returns-in-Wcc-clause-known : goal.returns-in-Wcc-clause-known
returns-in-Wcc-clause-known c = (2, omega arith, refl)

pub returns-in-Core-clause-known : goal.returns-in-Core-clause-known
returns-in-Core-clause-known c = (3, omega arith, refl)
