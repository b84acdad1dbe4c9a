use Rattle.std.proofs.Common.{refl, sym, subst, arith}
use Rattle.fg_set.specs.Change.{KeepsPinned, ListsOneMore}
use Rattle.fg_set.specs.PageSet.{PageSet}
use Rattle.fg_set.proofs.CauseLemmas.{hit_exactly, start_exactly, loading_exactly, again_exactly}
use Rattle.fg_set.proofs.DirectoryLemmas.{step_seen, sound_after, hand_fits, tells_now, sound_now, seen_back, directory_back}
use Rattle.fg_set.proofs.KeepLemmas.{want_pinned, want_listed}
use Rattle.fg_set.proofs.directory.Directory.want.Goals as goal

pub overflow_cast-self : goal.overflow_cast-self
overflow_cast-self c =
    let step = step_seen c.self.inside c.from-ways.result c.from.result c.args.worker c.args.page c.look_up-answer.result.0 c.look_up-answer.new.entries c.look_up-answer.result.1 c.from-ways.ensures c.from.ensures c.look_up-answer.ensures in
    let after : PageSet = (record { entries = c.look_up-answer.new.entries; hand = c.look_up-answer.result.1; workers = c.self.inside.workers }) in
    let fits = hand_fits c.self.inside c.args.worker c.args.page c.look_up-answer.result.0 after c.self.invariant step in
    omega (arith, fits)

pub with_slip-requires-clause-loading : goal.with_slip-requires-clause-loading
with_slip-requires-clause-loading c =
    let step = step_seen c.self.inside c.from-ways.result c.from.result c.args.worker c.args.page c.look_up-answer.result.0 c.look_up-answer.new.entries c.look_up-answer.result.1 c.from-ways.ensures c.from.ensures c.look_up-answer.ensures in
    let after : PageSet = (record { entries = c.look_up-answer.new.entries; hand = c.look_up-answer.result.1; workers = c.self.inside.workers }) in
    let tells = tells_now c.self.inside c.args.self.now c.args.worker c.args.page c.look_up-answer.result.0 after c.self.invariant c.self.view_is step in
    let sound = sound_now c.self.inside c.args.self.now c.self.invariant c.self.view_is in
    λ loading. rw c.of-asked.ensures ((loading_exactly c.args.worker c.args.page c.args.self.now after c.look_up-answer.result.0 sound tells).0 loading)

pub with_slip-requires-clause-again : goal.with_slip-requires-clause-again
with_slip-requires-clause-again c =
    let step = step_seen c.self.inside c.from-ways.result c.from.result c.args.worker c.args.page c.look_up-answer.result.0 c.look_up-answer.new.entries c.look_up-answer.result.1 c.from-ways.ensures c.from.ensures c.look_up-answer.ensures in
    let after : PageSet = (record { entries = c.look_up-answer.new.entries; hand = c.look_up-answer.result.1; workers = c.self.inside.workers }) in
    let tells = tells_now c.self.inside c.args.self.now c.args.worker c.args.page c.look_up-answer.result.0 after c.self.invariant c.self.view_is step in
    let sound = sound_now c.self.inside c.args.self.now c.self.invariant c.self.view_is in
    λ again. rw c.of-asked.ensures ((again_exactly c.args.worker c.args.page c.args.self.now after c.look_up-answer.result.0 sound tells).0 again)

pub invariant_of-self : goal.invariant_of-self
invariant_of-self c =
    let step = step_seen c.self.inside c.from-ways.result c.from.result c.args.worker c.args.page c.look_up-answer.result.0 c.look_up-answer.new.entries c.look_up-answer.result.1 c.from-ways.ensures c.from.ensures c.look_up-answer.ensures in
    let after : PageSet = (record { entries = c.look_up-answer.new.entries; hand = c.look_up-answer.result.1; workers = c.self.inside.workers }) in
    let seen = seen_back c.self.inside c.from-ways.result c.look_up-answer.new.entries c.look_up-answer.result.1 after c.self.invariant c.from-ways.ensures c.look_up-answer.auto.entries refl in
    directory_back c.self.inside c.from-ways.result c.look_up-answer.new.entries c.look_up-answer.result.1 after c.self.invariant c.from-ways.ensures c.look_up-answer.auto.entries seen
    (sound_after c.self.inside c.args.worker c.args.page c.look_up-answer.result.0 after c.self.invariant step)

pub returns-clause-hit_exactly : goal.returns-clause-hit_exactly
returns-clause-hit_exactly c =
    let step = step_seen c.self.inside c.from-ways.result c.from.result c.args.worker c.args.page c.look_up-answer.result.0 c.look_up-answer.new.entries c.look_up-answer.result.1 c.from-ways.ensures c.from.ensures c.look_up-answer.ensures in
    let after : PageSet = (record { entries = c.look_up-answer.new.entries; hand = c.look_up-answer.result.1; workers = c.self.inside.workers }) in
    let tells = tells_now c.self.inside c.args.self.now c.args.worker c.args.page c.look_up-answer.result.0 after c.self.invariant c.self.view_is step in
    let sound = sound_now c.self.inside c.args.self.now c.self.invariant c.self.view_is in
    rw c.with_slip.ensures.seen (hit_exactly c.args.worker c.args.page c.args.self.now after c.look_up-answer.result.0 sound tells)

pub returns-clause-start_exactly : goal.returns-clause-start_exactly
returns-clause-start_exactly c =
    let step = step_seen c.self.inside c.from-ways.result c.from.result c.args.worker c.args.page c.look_up-answer.result.0 c.look_up-answer.new.entries c.look_up-answer.result.1 c.from-ways.ensures c.from.ensures c.look_up-answer.ensures in
    let after : PageSet = (record { entries = c.look_up-answer.new.entries; hand = c.look_up-answer.result.1; workers = c.self.inside.workers }) in
    let tells = tells_now c.self.inside c.args.self.now c.args.worker c.args.page c.look_up-answer.result.0 after c.self.invariant c.self.view_is step in
    let sound = sound_now c.self.inside c.args.self.now c.self.invariant c.self.view_is in
    rw c.with_slip.ensures.seen (start_exactly c.args.worker c.args.page c.args.self.now after c.look_up-answer.result.0 sound tells)

pub returns-clause-loading_exactly : goal.returns-clause-loading_exactly
returns-clause-loading_exactly c =
    let step = step_seen c.self.inside c.from-ways.result c.from.result c.args.worker c.args.page c.look_up-answer.result.0 c.look_up-answer.new.entries c.look_up-answer.result.1 c.from-ways.ensures c.from.ensures c.look_up-answer.ensures in
    let after : PageSet = (record { entries = c.look_up-answer.new.entries; hand = c.look_up-answer.result.1; workers = c.self.inside.workers }) in
    let tells = tells_now c.self.inside c.args.self.now c.args.worker c.args.page c.look_up-answer.result.0 after c.self.invariant c.self.view_is step in
    let sound = sound_now c.self.inside c.args.self.now c.self.invariant c.self.view_is in
    rw c.with_slip.ensures.seen (loading_exactly c.args.worker c.args.page c.args.self.now after c.look_up-answer.result.0 sound tells)

pub returns-clause-again_exactly : goal.returns-clause-again_exactly
returns-clause-again_exactly c =
    let step = step_seen c.self.inside c.from-ways.result c.from.result c.args.worker c.args.page c.look_up-answer.result.0 c.look_up-answer.new.entries c.look_up-answer.result.1 c.from-ways.ensures c.from.ensures c.look_up-answer.ensures in
    let after : PageSet = (record { entries = c.look_up-answer.new.entries; hand = c.look_up-answer.result.1; workers = c.self.inside.workers }) in
    let tells = tells_now c.self.inside c.args.self.now c.args.worker c.args.page c.look_up-answer.result.0 after c.self.invariant c.self.view_is step in
    let sound = sound_now c.self.inside c.args.self.now c.self.invariant c.self.view_is in
    rw c.with_slip.ensures.seen (again_exactly c.args.worker c.args.page c.args.self.now after c.look_up-answer.result.0 sound tells)

pub returns-clause-tells : goal.returns-clause-tells
returns-clause-tells c =
    let step = step_seen c.self.inside c.from-ways.result c.from.result c.args.worker c.args.page c.look_up-answer.result.0 c.look_up-answer.new.entries c.look_up-answer.result.1 c.from-ways.ensures c.from.ensures c.look_up-answer.ensures in
    let after : PageSet = (record { entries = c.look_up-answer.new.entries; hand = c.look_up-answer.result.1; workers = c.self.inside.workers }) in
    let tells = tells_now c.self.inside c.args.self.now c.args.worker c.args.page c.look_up-answer.result.0 after c.self.invariant c.self.view_is step in
    let sound = sound_now c.self.inside c.args.self.now c.self.invariant c.self.view_is in
    let seen = seen_back c.self.inside c.from-ways.result c.look_up-answer.new.entries c.look_up-answer.result.1 after c.self.invariant c.from-ways.ensures c.look_up-answer.auto.entries refl in
    rw (c.with_slip.ensures.seen, seen) tells

pub returns-clause-sound : goal.returns-clause-sound
returns-clause-sound c =
    let step = step_seen c.self.inside c.from-ways.result c.from.result c.args.worker c.args.page c.look_up-answer.result.0 c.look_up-answer.new.entries c.look_up-answer.result.1 c.from-ways.ensures c.from.ensures c.look_up-answer.ensures in
    let after : PageSet = (record { entries = c.look_up-answer.new.entries; hand = c.look_up-answer.result.1; workers = c.self.inside.workers }) in
    let seen = seen_back c.self.inside c.from-ways.result c.look_up-answer.new.entries c.look_up-answer.result.1 after c.self.invariant c.from-ways.ensures c.look_up-answer.auto.entries refl in
    rw seen (sound_after c.self.inside c.args.worker c.args.page c.look_up-answer.result.0 after c.self.invariant step)

pub returns-clause-pinned : goal.returns-clause-pinned
returns-clause-pinned c =
    let step = step_seen c.self.inside c.from-ways.result c.from.result c.args.worker c.args.page c.look_up-answer.result.0 c.look_up-answer.new.entries c.look_up-answer.result.1 c.from-ways.ensures c.from.ensures c.look_up-answer.ensures in
    let after : PageSet = (record { entries = c.look_up-answer.new.entries; hand = c.look_up-answer.result.1; workers = c.self.inside.workers }) in
    let tells = tells_now c.self.inside c.args.self.now c.args.worker c.args.page c.look_up-answer.result.0 after c.self.invariant c.self.view_is step in
    let seen = seen_back c.self.inside c.from-ways.result c.look_up-answer.new.entries c.look_up-answer.result.1 after c.self.invariant c.from-ways.ensures c.look_up-answer.auto.entries refl in
    subst (λ (s : PageSet). KeepsPinned c.args.self.now s) (sym seen) (want_pinned c.args.worker c.args.page c.args.self.now after c.look_up-answer.result.0 tells)

pub returns-clause-listed : goal.returns-clause-listed
returns-clause-listed c =
    let step = step_seen c.self.inside c.from-ways.result c.from.result c.args.worker c.args.page c.look_up-answer.result.0 c.look_up-answer.new.entries c.look_up-answer.result.1 c.from-ways.ensures c.from.ensures c.look_up-answer.ensures in
    let after : PageSet = (record { entries = c.look_up-answer.new.entries; hand = c.look_up-answer.result.1; workers = c.self.inside.workers }) in
    let tells = tells_now c.self.inside c.args.self.now c.args.worker c.args.page c.look_up-answer.result.0 after c.self.invariant c.self.view_is step in
    let seen = seen_back c.self.inside c.from-ways.result c.look_up-answer.new.entries c.look_up-answer.result.1 after c.self.invariant c.from-ways.ensures c.look_up-answer.auto.entries refl in
    subst (λ (s : PageSet). ListsOneMore c.args.self.now s c.args.page) (sym seen) (want_listed c.args.worker c.args.page c.args.self.now after c.look_up-answer.result.0 tells)
