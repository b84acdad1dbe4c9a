use Rattle.std.proofs.Common.{◌≡◌, ◌∙◌, ℕ, ◌+◌, ◌<◌, ◌≤◌, IsSome, get_or, length, map, sym, ap, subst, arith}
use Rattle.std.specs.Prelude.{reverse, ℤ, pos, ◌+ℤ◌, ◌-ℤ◌, ◌≤ℤ◌}
use Rattle.std.proofs.lemmas.Int.{ints}
use Rattle.std.proofs.lemmas.List.{reverse-reverse}
use Rattle.fg_books.specs.Shares.{BooksId}
use Rattle.fg_cache.specs.Names.{LockOf}
use Rattle.fg_cache.specs.Share.{Four}
use Rattle.fg_cache.specs.Site.{AllFit, Site, asked_pages}
use Rattle.fg_cache.proofs.CloseLemmas.{each, least_risen, fit_length, logs_tell, numbered_from, rose_at}
use Rattle.fg_cache.proofs.OwnedLemmas.{owned_few}
use Rattle.fg_cache.proofs.cache.Cache.close.Goals as goal

pub join_passes-share-requires : goal.join_passes-share-requires
join_passes-share-requires g c =
    let ledgers = c.self.invariant.3 in
    let same = ap (λ x. x.site.books) c.self.view_is in
    record { own = (ap (λ (f : Four). f.books) c.into_inner-drives.ensures.share ∙ sym ledgers, λ k d h. c.requires.passes.1 k d h ∙ sym same ∙ sym ledgers) }

pub join_sets-share-requires : goal.join_sets-share-requires
join_sets-share-requires g c =
    let ledgers = c.self.invariant.3 in
    let names = c.self.invariant.9 in
    record { own = (c.join_passes-share.ensures.books, λ k d h. ap (λ (l : LockOf). l.site.books) (names k d h) ∙ sym ledgers) }

pub join_queues-share-requires : goal.join_queues-share-requires
join_queues-share-requires g c =
    let ledgers = c.self.invariant.3 in
    let names = c.self.invariant.10 in
    record { own = (c.join_sets-share.ensures.books, λ k d h. ap (λ (l : LockOf). l.site.books) (names k d h) ∙ sym ledgers) }

pub gather-ends-requires-clause-own : goal.gather-ends-requires-clause-own
gather-ends-requires-clause-own g c =
    let ledgers = c.self.invariant.3 in
    let names = c.self.invariant.11 in
    (c.join_queues-share.ensures.books, λ k d h. ap (λ (s : Site). s.books) (names k d h).0 ∙ sym ledgers)

pub gather-ends-requires-clause-shares : goal.gather-ends-requires-clause-shares
gather-ends-requires-clause-shares g c =
    let ledgers = c.self.invariant.3 in
    let same = ap (λ x. x.site.books) c.self.view_is in
    rw c.deref_mut.ensures.value (λ k d h. c.requires.shares k d h ∙ sym same ∙ sym ledgers)

pub settle-requires-clause-parts : goal.settle-requires-clause-parts
settle-requires-clause-parts g c =
    let inv = c.self.invariant in
    let gathers = c.gather-ends.ensures.gathers in
    let long = fit_length g.D.Drive.held g.D.Drive.log g.D.Drive.told g.D.Drive.room g.D.Drive.faults _ _ gathers.fit in
    let passes = c.requires.passes.0 ∙ ap (λ x. x.site.shape.passes) (sym c.self.view_is) in
    let plan = ap (λ (b : BooksId). b.plan.parts) inv.3 in
    let room = ap (λ (f : Four). f.parts) c.into_inner-drives.ensures.share in
    omega (
      arith,
      gathers.from_them.parts,
      long,
      passes,
      plan,
      room,
      c.join_passes-share.ensures.parts,
      c.join_sets-share.ensures.parts,
      c.join_queues-share.ensures.parts,
      inv.0.parts,
      inv.5,
      inv.6,
      inv.7,
    )

pub returns-clause-held : goal.returns-clause-held
returns-clause-held g c =
    let gathers = c.gather-ends.ensures.gathers in
    let back = ap reverse gathers.from_them.drives_back ∙ reverse-reverse (map (λ s. s.drive) gathers.ends) in
    let turned = c.reverse.ensures.items ∙ back in
    let opened = ap (λ x. x.drives) c.self.view_is in
    rw (turned, ← opened) (each g.D.Drive.held g.D.Drive.log g.D.Drive.told g.D.Drive.room g.D.Drive.faults (λ old new. g.D.Drive.held new ≡ g.D.Drive.held old)
    (λ lock shelf fit. fit.stays.same_held) c.self.inside.shelves.items gathers.ends gathers.fit)

pub returns-clause-told : goal.returns-clause-told
returns-clause-told g c =
    let gathers = c.gather-ends.ensures.gathers in
    let back = ap reverse gathers.from_them.drives_back ∙ reverse-reverse (map (λ s. s.drive) gathers.ends) in
    let turned = c.reverse.ensures.items ∙ back in
    let opened = ap (λ x. x.drives) c.self.view_is in
    rw (turned, ← opened) (each g.D.Drive.held g.D.Drive.log g.D.Drive.told g.D.Drive.room g.D.Drive.faults (λ old new. g.D.Drive.told new ≡ g.D.Drive.told old)
    (λ lock shelf fit. fit.stays.same_told) c.self.inside.shelves.items gathers.ends gathers.fit)

pub returns-clause-room : goal.returns-clause-room
returns-clause-room g c =
    let gathers = c.gather-ends.ensures.gathers in
    let back = ap reverse gathers.from_them.drives_back ∙ reverse-reverse (map (λ s. s.drive) gathers.ends) in
    let turned = c.reverse.ensures.items ∙ back in
    let opened = ap (λ x. x.drives) c.self.view_is in
    rw (turned, ← opened) (each g.D.Drive.held g.D.Drive.log g.D.Drive.told g.D.Drive.room g.D.Drive.faults (λ old new. g.D.Drive.room new ≡ g.D.Drive.room old)
    (λ lock shelf fit. fit.stays.same_room) c.self.inside.shelves.items gathers.ends gathers.fit)

pub returns-clause-roomy : goal.returns-clause-roomy
returns-clause-roomy g c =
    let gathers = c.gather-ends.ensures.gathers in
    let back = ap reverse gathers.from_them.drives_back ∙ reverse-reverse (map (λ s. s.drive) gathers.ends) in
    let turned = c.reverse.ensures.items ∙ back in
    let opened = ap (λ x. x.drives) c.self.view_is in
    rw (turned, ← opened) (each g.D.Drive.held g.D.Drive.log g.D.Drive.told g.D.Drive.room g.D.Drive.faults (λ old new. IsSome (g.D.Drive.room old) → g.D.Drive.faults new ≡ g.D.Drive.faults old)
    (λ lock shelf fit some. fit.says.stands (fit.says.sure some)) c.self.inside.shelves.items gathers.ends gathers.fit)

pub returns-clause-failed : goal.returns-clause-failed
returns-clause-failed g c =
    let gathers = c.gather-ends.ensures.gathers in
    let back = ap reverse gathers.from_them.drives_back ∙ reverse-reverse (map (λ s. s.drive) gathers.ends) in
    let turned = c.reverse.ensures.items ∙ back in
    let opened = ap (λ x. x.drives) c.self.view_is in
    let numbered = numbered_from g.D.Drive.held g.D.Drive.log g.D.Drive.told g.D.Drive.room g.D.Drive.faults c.self.inside.room.site 0 c.self.inside.shelves.items (λ k d h. ((c.self.invariant.11 k d h).0, (c.self.invariant.11 k d h).1 ∙ omega arith)) in
    rw (turned, ← opened, gathers.from_them.least) (least_risen g.D.Drive.held g.D.Drive.log g.D.Drive.told g.D.Drive.room g.D.Drive.faults c.self.inside.room.site c.self.inside.shelves.items gathers.ends numbered gathers.fit)

pub returns-clause-logs : goal.returns-clause-logs
returns-clause-logs g c =
    let gathers = c.gather-ends.ensures.gathers in
    let back = ap reverse gathers.from_them.drives_back ∙ reverse-reverse (map (λ s. s.drive) gathers.ends) in
    let turned = c.reverse.ensures.items ∙ back in
    let opened = ap (λ x. x.drives) c.self.view_is in
    let numbered = numbered_from g.D.Drive.held g.D.Drive.log g.D.Drive.told g.D.Drive.room g.D.Drive.faults c.self.inside.room.site 0 c.self.inside.shelves.items (λ k d h. ((c.self.invariant.11 k d h).0, (c.self.invariant.11 k d h).1 ∙ omega arith)) in
    rw (turned, ← c.self.view_is, gathers.from_them.least, gathers.from_them.all_reads, gathers.from_them.all_pages)
    (logs_tell g.D.Drive.held g.D.Drive.log g.D.Drive.told g.D.Drive.room g.D.Drive.faults c.self.inside.room.site c.self.inside.shelves.items gathers.ends numbered gathers.fit)

pub returns-clause-queued : goal.returns-clause-queued
returns-clause-queued g c =
    let from = c.gather-ends.ensures.gathers.from_them in
    let settled = c.settle.ensures.settled in
    let pushes = ap (λ (f : Four). f.pushes) settled in
    let takes = ap (λ (f : Four). f.takes) settled in
    let room = c.into_inner-drives.ensures.share in
    let no_pushes = ap (λ (f : Four). f.pushes) room in
    let no_takes = ap (λ (f : Four). f.takes) room in
    let passes = c.join_passes-share.ensures in
    let sets = c.join_sets-share.ensures in
    omega (
      arith,
      ints,
      from.all_pages,
      from.takes,
      from.pushes,
      pushes,
      takes,
      no_pushes,
      no_takes,
      passes.pushes,
      passes.others.0,
      sets.others.0,
      sets.others.1,
      c.join_queues-share.ensures.waits,
    )

pub returns-clause-named : goal.returns-clause-named
returns-clause-named g c =
    let gathers = c.gather-ends.ensures.gathers in
    let back = ap reverse gathers.from_them.drives_back ∙ reverse-reverse (map (λ s. s.drive) gathers.ends) in
    let turned = c.reverse.ensures.items ∙ back in
    let opened = ap (λ x. x.drives) c.self.view_is in
    let numbered = numbered_from g.D.Drive.held g.D.Drive.log g.D.Drive.told g.D.Drive.room g.D.Drive.faults c.self.inside.room.site 0 c.self.inside.shelves.items (λ k d h. ((c.self.invariant.11 k d h).0, (c.self.invariant.11 k d h).1 ∙ omega arith)) in
    let named = rw c.deref_mut.ensures.value at gathers.from_them.named in
    let loose = c.self.invariant.0.loose in
    let same = ap (λ x. x.site.books.plan.loose) c.self.view_is in
    rw (turned, ← opened) (λ k d h.
    let share = get_or c.args.shares.items k d in
    let books = ap (λ (b : BooksId). b.plan.loose) (c.requires.shares k d h) in
    rose_at g.D.Drive.held g.D.Drive.log g.D.Drive.told g.D.Drive.room g.D.Drive.faults c.self.inside.room.site 0 share.drive share c.self.inside.shelves.items gathers.ends numbered gathers.fit (λ j e below. named j e below k d h)
    (omega arith) (omega (arith, c.all_within.ensures k d h, books, same, loose, c.self.invariant.7)))

-- what was queued was begun or read again after a stale listing, as the ledgers sum to nothing
few_queued : (p0 e0 r0 pp ep rp ps es rs pq eq rq pg eg rg : ℤ) (queued stale owned : ℕ) →
    p0 ≡ pos 0 → e0 ≡ pos 0 → r0 ≡ pos 0 →
    pp ≡ p0 -ℤ pos queued → ep ≡ e0 → rp ≡ r0 -ℤ pos stale →
    ps ≡ pp → (ep +ℤ rp) ≤ℤ ((es +ℤ rs) +ℤ pos owned) →
    eq -ℤ es ≡ pq -ℤ ps → rq ≡ rs →
    pg ≡ pq → rg ≡ rq → eg ≡ eq → pg ≡ pos 0 → eg ≡ pos 0 → rg ≡ pos 0 → queued ≤ stale + owned
few_queued p0 e0 r0 pp ep rp ps es rs pq eq rq pg eg rg queued stale owned a b c d e f h i j k l m n o p q =
    omega (arith, ints, a, b, c, d, e, f, h, i, j, k, l, m, n, o, p, q)

pub returns-clause-few : goal.returns-clause-few
returns-clause-few g c = λ none all_fit.
    let from = c.gather-ends.ensures.gathers.from_them in
    let names = c.self.invariant.9 in
    let fit = subst AllFit (ap (λ x. x.site) (sym c.self.view_is)) all_fit in
    let sets = c.join_sets-share.ensures in
    let few = sets.few (λ k d h. rw (names k d h) (fit k (let below : k < c.self.inside.room.site.shape.sets = omega (arith, h, c.self.invariant.5) in below))) in
    let owned = owned_few c.self.inside.room.site c.self.inside.sets.items names in
    let asked = ap (λ x. length (asked_pages x.site)) c.self.view_is in
    let settled = c.settle.ensures.settled in
    let room = c.into_inner-drives.ensures.share in
    let passes = c.join_passes-share.ensures in
    let queues = c.join_queues-share.ensures in
    let queued = few_queued _ _ _ _ _ _ _ _ _ _ _ _ _ _ _ _ _ _
    (ap (λ (f : Four). f.pushes) room) (ap (λ (f : Four). f.entries) room) (ap (λ (f : Four). f.repairs) room)
    passes.pushes passes.others.1 passes.repairs sets.others.0 few queues.begun queues.repairs
    from.pushes from.repairs (from.entries none)
    (ap (λ (f : Four). f.pushes) settled) (ap (λ (f : Four). f.entries) settled) (ap (λ (f : Four). f.repairs) settled) in
    omega (arith, returns-clause-queued g c, queued, owned, asked)
