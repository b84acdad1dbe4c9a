use Rattle.std.proofs.Common.{Some, None, subst, arith}
use Rattle.fg_wave.specs.Telling.{IsLeastFound}
use Rattle.fg_wave.proofs.TellingLaws.{found-now, found-still, least-still}
use Rattle.fg_wave.proofs.telling.earlier.Goals as goal

pub returns-in_default : goal.returns-in_default
returns-in_default c before found = found-still before c.args.one.now c.args.first c.in_default.is found

pub returns-in-Some-first : goal.returns-in-Some-first
returns-in-Some-first c before found =
    least-still before c.args.one.now c.in-Some-first.found.block c.in-Some-first.found.bad (λ _. omega arith)
    (subst (IsLeastFound before) c.in-Some-first.is found)

pub returns-in-Some-2 : goal.returns-in-Some-2
returns-in-Some-2 c before found =
    found-now before c.args.one.now (Some c.in-Some-first.found) c.in-Some.bad c.in-Some.is (omega arith) (subst (IsLeastFound before) c.in-Some-first.is found)

pub returns-in-None : goal.returns-in-None
returns-in-None c before found = found-now before c.args.one.now None c.in-Some.bad c.in-Some.is tt (subst (IsLeastFound before) c.in-None.is found)
