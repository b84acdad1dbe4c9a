use Rattle.std.proofs.Common.{ltb, rules, of_calls}
use Rattle.std.proofs.lemmas.Fn.{always_returns_same}
use Rattle.fg_task.specs.declared.group.Group.{Group}
use Rattle.fg_task.proofs.GroupLaws.{outside-found, searched-by}
use Rattle.fg_task.proofs.group.places_of.Goals as goal

pub returns-clause-outside : goal.returns-clause-outside
returns-clause-outside c =
    let groups = c.args.groups.now in
    let up = c.requires c.if-not-ascending.false in
    let point = c.partition_point-from.ensures.partitioned (λ (group : Group). ltb group.page c.args.page)
    (always_returns_same _ _ _ (λ a r f k. search (rules, of_calls))) (searched-by c.args.page groups up) in
    outside-found c.args.page groups (record { from = c.partition_point-from.result; to = c.min.result }) up c.partition_point-from.ensures.bound point c.min.ensures
