use Rattle.std.proofs.Common.{ℕ, ◌-◌, ◌*◌, List, length, ap, refl, sym, subst, ◌∙◌, arith}
use Rattle.fg_iter.proofs.RingLaws.{active_here, block_needs, is_result}
use Rattle.fg_iter.proofs.SentLaws.{awake_few}
use Rattle.fg_iter.specs.Ring.{AreBatchesOf, AreOfRuns}
use Rattle.fg_model.specs.declared.mail.Mail.{Mail}
use Rattle.fg_walks.specs.Bfs.{bfs}
use Rattle.fg_iter.proofs.tests.RingRunsOnBfsCount.run_on.Goals as goal

pub join-requires-clause-room_of_runs : goal.join-requires-clause-room_of_runs
join-requires-clause-room_of_runs g c =
    let here = active_here (bfs c.args.program.now.source) c.args.phase c.args.states.now c.args.map c.args.block c.block_size-size.result c.min-end.result
    c.block_size-size.ensures.value (omega (arith, c.min-end.ensures)) in
    omega (arith, c.requires.room.for_runs, c.in_ok-sent.ensures.active, ap (λ (vertices : List ℕ). length vertices) here)

pub join-requires-clause-room_of_entries : goal.join-requires-clause-room_of_entries
join-requires-clause-room_of_entries g c =
    let here = active_here (bfs c.args.program.now.source) c.args.phase c.args.states.now c.args.map c.args.block c.block_size-size.result c.min-end.result
    c.block_size-size.ensures.value (omega (arith, c.min-end.ensures)) in
    let needs = block_needs c.args.program.now.source c.args.self.now.n c.args.phase c.args.states.now c.args.map c.args.block c.requires.may_run.vertices in
    omega (arith, c.requires.room.for_entries, c.in_ok-sent.ensures.active, c.in_ok-sent.ensures.sent.all_counted, needs, ap (λ (vertices : List ℕ). length vertices) here)

pub overflow_cast-result : goal.overflow_cast-result
overflow_cast-result g c =
    let few = awake_few (bfs c.args.program.now.source) c.args.phase c.args.states.now (c.args.block * c.block_size-size.result)
    (c.min-end.result - c.args.block * c.block_size-size.result) in
    omega (arith, few, c.in_ok-sent.ensures.active, c.runs-active.ensures, c.min-end.ensures, c.args.map.few_vertices)

pub returns-clause-result : goal.returns-clause-result
returns-clause-result g c =
    let source = c.args.program.now.source in
    let states = c.args.states.now in
    let sent = c.in_ok-sent.sent in
    let here = active_here (bfs source) c.args.phase states c.args.map c.args.block c.block_size-size.result c.min-end.result
    c.block_size-size.ensures.value (omega (arith, c.min-end.ensures)) in
    let active = c.runs-active.ensures ∙ c.in_ok-sent.ensures.active ∙ ap (λ (vertices : List ℕ). length vertices) here in
    let runs = subst (λ (runs : ℕ). AreOfRuns (length states) sent.mails.items runs sent.count.entries) (sym c.runs-active.ensures) c.in_ok-sent.ensures.sent in
    let of_runs = subst (λ (n : ℕ). AreOfRuns n sent.mails.items c.runs-active.result sent.count.entries) c.requires.may_run.are_states.state_count runs in
    let are_all = subst (λ (mails : List Mail). AreBatchesOf c.args.map mails c.in_ok-batches.batches.items) c.deref.ensures.value c.in_ok-batches.ensures in
    is_result source c.args.self.now.n c.args.phase states c.args.map c.args.block sent.count.entries sent.mails.items _ c.requires.may_run.vertices
    refl active refl of_runs are_all

pub returns-clause-few : goal.returns-clause-few
returns-clause-few g c =
    let here = active_here (bfs c.args.program.now.source) c.args.phase c.args.states.now c.args.map c.args.block c.block_size-size.result c.min-end.result
    c.block_size-size.ensures.value (omega (arith, c.min-end.ensures)) in
    let needs = block_needs c.args.program.now.source c.args.self.now.n c.args.phase c.args.states.now c.args.map c.args.block c.requires.may_run.vertices in
    let active = ap (λ (vertices : List ℕ). length vertices) here in
    record {
      few_runs = omega (arith, c.join.ensures.runs, c.in_ok-sent.ensures.active, active);
      few_entries = omega (arith, c.join.ensures.entries, c.in_ok-sent.ensures.active, c.in_ok-sent.ensures.sent.all_counted, needs, active);
    }
