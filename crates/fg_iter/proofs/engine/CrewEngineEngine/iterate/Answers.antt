use Rattle.fg_iter.proofs.EngineLaws.{active_fits, messages_fit}
use Rattle.fg_iter.proofs.engine.CrewEngineEngine.iterate.Goals as goal

pub returns-in-Ok-clause-ok_active : goal.returns-in-Ok-clause-ok_active
returns-in-Ok-clause-ok_active g c =
    let ready = c.requires.is_ready in
    let start = c.args.self.now in
    let crew = g.C.HasCrew.crew start.crew in
    let done = ready.can_iterate.does c.args.phase _ _ _ _ _ c.in-Ok.ensures in
    active_fits (g.P.Program.rules crew.inboxes.program) (g.B.RunsOn.lists start.runner.now).graph c.args.phase crew.states.items
    c.in-Ok.counts ready.limits c.requires.are_states done.ended.counted

pub returns-in-Ok-clause-ok_messages : goal.returns-in-Ok-clause-ok_messages
returns-in-Ok-clause-ok_messages g c =
    let ready = c.requires.is_ready in
    let start = c.args.self.now in
    let crew = g.C.HasCrew.crew start.crew in
    let done = ready.can_iterate.does c.args.phase _ _ _ _ _ c.in-Ok.ensures in
    messages_fit (g.P.Program.rules crew.inboxes.program) (g.B.RunsOn.lists start.runner.now).graph c.args.phase crew.states.items
    c.in-Ok.counts ready.limits c.requires.are_states done.ended.counted
