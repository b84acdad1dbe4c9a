use Rattle.std.proofs.Common.{◌≡◌, ◌∙◌, ◌<◌, ap, sym, subst}
use Rattle.fg_set.specs.Directory.{set_of}
use Rattle.fg_set.specs.DirectoryStep.{Ended, made_ready}
use Rattle.fg_set.specs.Change.{ChangesOne, KeepsPinned, ListsNoMore}
use Rattle.fg_set.specs.Entry.{ready}
use Rattle.fg_set.specs.PageSet.{PageSet, IsSound, ways_of}
use Rattle.fg_set.proofs.DirectoryLemmas.{with_back, seen_back, directory_back}
use Rattle.fg_set.proofs.SoundLemmas.{sound-made_ready}
use Rattle.fg_set.proofs.KeepLemmas.{ended_change, ended_pinned, ready_listed}
use Rattle.fg_set.proofs.PlacedLemmas.{done_exactly, placed_tells}
use Rattle.fg_set.proofs.directory.Directory.ready.Goals as goal
use Rattle.fg_set.proofs.directory.Directory.ready.Goals.{After-self-1}

-- the directory after the call is the step's
seen : (c : After-self-1) → set_of (with_back c.self.inside c.from-ways.result c.finish.new.entries c.self.inside.hand) ≡ (made_ready c.args.frame c.args.page (set_of c.self.inside)).after
seen c =
    let step = rw c.from-ways.ensures at (c.finish.ensures c.self.inside.hand c.self.inside.workers) in
    seen_back c.self.inside c.from-ways.result c.finish.new.entries c.self.inside.hand _ c.self.invariant c.from-ways.ensures c.finish.auto.entries (ap (λ (w : Ended). w.after) (sym step))

sound : (c : After-self-1) → IsSound (made_ready c.args.frame c.args.page (set_of c.self.inside)).after
sound c =
    let within : c.args.frame < ways_of (set_of c.self.inside) = rw (← c.self.view_is) at c.requires in
    sound-made_ready c.args.frame c.args.page (set_of c.self.inside) c.self.invariant.sound within

pub invariant_of-self : goal.invariant_of-self
invariant_of-self c = directory_back c.self.inside c.from-ways.result c.finish.new.entries c.self.inside.hand _ c.self.invariant c.from-ways.ensures c.finish.auto.entries (seen c) (sound c)

answer : (c : After-self-1) → c.finish.result ≡ (made_ready c.args.frame c.args.page c.args.self.now).answer
answer c =
    let step = rw (c.from-ways.ensures) at (c.finish.ensures c.self.inside.hand c.self.inside.workers) in
    ap (λ (w : Ended). w.answer) (sym step) ∙ ap (λ s. (made_ready c.args.frame c.args.page s).answer) c.self.view_is

pub returns-clause-done_exactly : goal.returns-clause-done_exactly
returns-clause-done_exactly c = rw (answer c) (done_exactly c.args.frame c.args.page c.args.self.now _)

pub returns-clause-tells : goal.returns-clause-tells
returns-clause-tells c =
    rw (answer c, seen c ∙ ap (λ s. (made_ready c.args.frame c.args.page s).after) c.self.view_is) (placed_tells c.args.frame c.args.page (ready c.args.page) c.args.self.now)

pub returns-clause-sound : goal.returns-clause-sound
returns-clause-sound c = rw (seen c) (sound c)

-- the fields before and after, as contracts see the directory
before_within : (c : After-self-1) → c.args.frame < ways_of (set_of c.self.inside)
before_within c = rw (← c.self.view_is) at c.requires

pub returns-clause-change : goal.returns-clause-change
returns-clause-change c =
    subst (λ (s : PageSet). ChangesOne s (set_of (with_back c.self.inside c.from-ways.result c.finish.new.entries c.self.inside.hand)) c.args.frame) c.self.view_is (subst (λ (s : PageSet). ChangesOne (set_of c.self.inside) s c.args.frame) (sym (seen c))
    (ended_change c.args.frame c.args.page (ready c.args.page) (set_of c.self.inside) c.self.invariant.sound (before_within c)))

pub returns-clause-pinned : goal.returns-clause-pinned
returns-clause-pinned c =
    subst (λ (s : PageSet). KeepsPinned s (set_of (with_back c.self.inside c.from-ways.result c.finish.new.entries c.self.inside.hand))) c.self.view_is (subst (λ (s : PageSet). KeepsPinned (set_of c.self.inside) s) (sym (seen c))
    (ended_pinned c.args.frame c.args.page (ready c.args.page) (set_of c.self.inside) c.self.invariant.sound (before_within c)))

pub returns-clause-listed : goal.returns-clause-listed
returns-clause-listed c =
    subst (λ (s : PageSet). ListsNoMore s (set_of (with_back c.self.inside c.from-ways.result c.finish.new.entries c.self.inside.hand))) c.self.view_is (subst (λ (s : PageSet). ListsNoMore (set_of c.self.inside) s) (sym (seen c))
    (ready_listed c.args.frame c.args.page (set_of c.self.inside) c.self.invariant.sound (before_within c)))
