use Rattle.std.proofs.Common.{◌≡◌, ◌∙◌, ℕ, ◌+◌, Option, List, length, refl, sym, subst, arith}
use Rattle.std.proofs.lemmas.Bool.{false≢true}
use Rattle.fg_outside.specs.Log.{read_of}
use Rattle.fg_queue.specs.LoadRun.{first_of}
use Rattle.fg_cache.specs.Shelf.{HoldsPages, stopped}
use Rattle.fg_cache.proofs.ShelfLemmas.{asked_read, run_pages, keeps_read, keeps_failed}
use Rattle.fg_cache.proofs.shelf.Shelf.read.Goals as goal

pub returns-in-Ok-clause-pages : goal.returns-in-Ok-clause-pages
returns-in-Ok-clause-pages g c = λ name owed.
    let fits = owed.fits in
    let are = owed.own in
    let holds = subst (λ (held : Option (List ℕ)). HoldsPages name.site.image name.site.layout name.number held) (sym fits.stays.same_held) fits.stocked.pages in
    let read = rw (c.first.ensures.first, c.count-count.ensures.count) at c.in-Ok.ensures.pages in
    run_pages name.site name.number (first_of c.args.run.now.loads) c.args.run.now.loads are c.first.ensures.run.consecutive name.site.image (g.D.Drive.held c.args.self.now.drive) c.read.new.self holds read

pub returns-in-Ok-clause-keeps : goal.returns-in-Ok-clause-keeps
returns-in-Ok-clause-keeps g c = λ name owed.
    let fits = owed.fits in
    let are = owed.own in
    let asked = asked_read name.site name.number (first_of c.args.run.now.loads) c.args.run.now.loads are c.first.ensures.run.consecutive c.first.ensures.run.some_load c.first.ensures.run.at_most_32 in
    let longer = rw (c.first.ensures.first, c.count-count.ensures.count) at c.in-Ok.ensures.log in
    let more_reads : c.saturating_add-self.result ≡ stopped (c.args.self.now.reads + 1) = omega (arith, c.saturating_add-self.ensures) in
    let more_pages : c.saturating_add-self-2.result ≡ stopped (c.args.self.now.pages + length c.args.run.now.loads) =
    omega (arith, c.saturating_add-self-2.ensures, c.from.ensures, c.count-count.ensures.count) in
    keeps_read g.D.Drive.held g.D.Drive.log g.D.Drive.told g.D.Drive.room g.D.Drive.faults name c.args.self.now c.read.new.drive c.read.new.self
    (length c.args.run.now.loads) (read_of (first_of c.args.run.now.loads) (length c.args.run.now.loads)) fits asked
    c.read.ensures.held c.read.ensures.same_told c.read.ensures.room c.saturating_add-self.result c.saturating_add-self-2.result
    longer c.in-Ok.ensures.counted.kept refl more_reads more_pages

pub returns-in-Err-clause-keeps : goal.returns-in-Err-clause-keeps
returns-in-Err-clause-keeps g c = λ name owed.
    let fits = owed.fits in
    let are = owed.own in
    let asked = asked_read name.site name.number (first_of c.args.run.now.loads) c.args.run.now.loads are c.first.ensures.run.consecutive c.first.ensures.run.some_load c.first.ensures.run.at_most_32 in
    let longer = rw (c.first.ensures.first, c.count-count.ensures.count) at c.in-Err.ensures.log_err in
    let more_pages : c.saturating_add-self-2.result ≡ stopped (c.args.self.now.pages + length c.args.run.now.loads) =
    omega (arith, c.saturating_add-self-2.ensures, c.from.ensures, c.count-count.ensures.count) in
    keeps_failed g.D.Drive.held g.D.Drive.log g.D.Drive.told g.D.Drive.room g.D.Drive.faults name c.args.self.now c.read.new.drive c.read.new.self
    (length c.args.run.now.loads) (read_of (first_of c.args.run.now.loads) (length c.args.run.now.loads)) fits asked
    c.read.ensures.held c.read.ensures.same_told c.read.ensures.room c.fault_of.new.faults c.saturating_add-self.result c.saturating_add-self-2.result
    longer c.in-Err.ensures.counted.failed c.read.ensures.counted.later (λ told_room. false≢true (c.in-Err.ensures.sure told_room))
    (c.fault_of.ensures.own ∙ sym c.requires.own) c.fault_of.ensures.parts more_pages
