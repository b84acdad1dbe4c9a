use Rattle.std.proofs.Common.{◌≤◌, arith}
use Rattle.fg_task.specs.Least.{rank}
use Rattle.fg_task.proofs.LeastLaws.{joins-right, joins-second}
use Rattle.fg_task.proofs.least.lesser.Goals as goal

pub returns-then-rank : goal.returns-then-rank
returns-then-rank c =
    let before : rank c.in-Some-Some.second ≤ rank c.in-Some-Some.first = omega (arith, c.if-rank.true, c.rank.ensures, c.rank-in-Some-Some.ensures) in
    rw (c.in-Some-Some.is-0, c.in-Some-Some.is-1) (joins-second c.in-Some-Some.first c.in-Some-Some.second before)

pub returns-in-None-default : goal.returns-in-None-default
returns-in-None-default c = rw c.in-None-default.is-0 (joins-right c.args.other)
