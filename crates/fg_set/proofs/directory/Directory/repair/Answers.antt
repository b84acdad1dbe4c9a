use Rattle.std.proofs.Common.{◌≡◌, ◌∙◌, ◌<◌, ap, sym, subst}
use Rattle.fg_set.specs.Directory.{set_of}
use Rattle.fg_set.specs.DirectoryStep.{repaired}
use Rattle.fg_set.specs.Change.{ChangesOne, KeepsPinned, ListsNoMore}
use Rattle.fg_set.specs.Entry.{repaired_by}
use Rattle.fg_set.specs.PageSet.{PageSet, IsSound, ways_of, entry_at}
use Rattle.fg_set.proofs.DirectoryLemmas.{with_back, seen_back, directory_back}
use Rattle.fg_set.proofs.KeepLemmas.{repair_pinned, repair_listed}
use Rattle.fg_set.proofs.SoundLemmas.{change-with_entry, sound-repaired}
use Rattle.fg_set.proofs.directory.Directory.repair.Goals as goal
use Rattle.fg_set.proofs.directory.Directory.repair.Goals.{After-self-1}

-- the directory after the call is the step's
seen : (c : After-self-1) → set_of (with_back c.self.inside c.from-ways.result c.repair.new.entries c.self.inside.hand) ≡ (repaired c.args.worker c.args.frame (set_of c.self.inside))
seen c =
    let step = rw c.from-ways.ensures at (c.repair.ensures c.self.inside.hand c.self.inside.workers) in
    seen_back c.self.inside c.from-ways.result c.repair.new.entries c.self.inside.hand _ c.self.invariant c.from-ways.ensures c.repair.auto.entries (sym step)

sound : (c : After-self-1) → IsSound (repaired c.args.worker c.args.frame (set_of c.self.inside))
sound c =
    let within : c.args.frame < ways_of (set_of c.self.inside) = rw (← c.self.view_is) at c.requires.frame in
    sound-repaired c.args.worker c.args.frame (set_of c.self.inside) c.self.invariant.sound within

pub invariant_of-self : goal.invariant_of-self
invariant_of-self c = directory_back c.self.inside c.from-ways.result c.repair.new.entries c.self.inside.hand _ c.self.invariant c.from-ways.ensures c.repair.auto.entries (seen c) (sound c)

pub returns-clause-after : goal.returns-clause-after
returns-clause-after c = seen c ∙ ap (repaired c.args.worker c.args.frame) c.self.view_is

pub returns-clause-sound : goal.returns-clause-sound
returns-clause-sound c = rw (seen c) (sound c)

-- the fields before and after, as contracts see the directory
before_within : (c : After-self-1) → c.args.frame < ways_of (set_of c.self.inside)
before_within c = rw (← c.self.view_is) at c.requires.frame

pub returns-clause-becomes : goal.returns-clause-becomes
returns-clause-becomes c = seen c ∙ ap (repaired c.args.worker c.args.frame) c.self.view_is

pub returns-clause-change : goal.returns-clause-change
returns-clause-change c =
    subst (λ (s : PageSet). ChangesOne s (set_of (with_back c.self.inside c.from-ways.result c.repair.new.entries c.self.inside.hand)) c.args.frame) c.self.view_is (subst (λ (s : PageSet). ChangesOne (set_of c.self.inside) s c.args.frame) (sym (seen c))
    (change-with_entry (set_of c.self.inside) c.args.frame (repaired_by c.args.worker (entry_at (set_of c.self.inside) c.args.frame)) c.self.invariant.sound))

pub returns-clause-pinned : goal.returns-clause-pinned
returns-clause-pinned c =
    subst (λ (s : PageSet). KeepsPinned s (set_of (with_back c.self.inside c.from-ways.result c.repair.new.entries c.self.inside.hand))) c.self.view_is (subst (λ (s : PageSet). KeepsPinned (set_of c.self.inside) s) (sym (seen c))
    (repair_pinned c.args.worker c.args.frame (set_of c.self.inside) (before_within c)))

pub returns-clause-listed : goal.returns-clause-listed
returns-clause-listed c =
    subst (λ (s : PageSet). ListsNoMore s (set_of (with_back c.self.inside c.from-ways.result c.repair.new.entries c.self.inside.hand))) c.self.view_is (subst (λ (s : PageSet). ListsNoMore (set_of c.self.inside) s) (sym (seen c))
    (repair_listed c.args.worker c.args.frame (set_of c.self.inside) (before_within c)))
