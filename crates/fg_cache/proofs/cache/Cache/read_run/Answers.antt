use Rattle.std.proofs.Common.{List, All, length, sym, subst}
use Rattle.fg_queue.specs.LoadRun.{first_of}
use Rattle.fg_queue.specs.declared.load.Load.{Load}
use Rattle.fg_cache.specs.Load.{IsLoad}
use Rattle.fg_cache.specs.Shelf.{IsSpare}
use Rattle.fg_cache.specs.Site.{Site}
use Rattle.fg_cache.proofs.ServeLemmas.{own_loads, filled, given_up}
use Rattle.fg_cache.proofs.ShelfLemmas.{run_told}
use Rattle.fg_cache.proofs.cache.Cache.read_run.Goals as goal

pub read-requires-clause-told : goal.read-requires-clause-told
read-requires-clause-told g c =
    let loads = own_loads c.args.self.now.site c.args.lock.now.site c.args.drive c.args.lock.now.number c.args.run.now.loads c.requires.own.0 c.requires.own.1 c.requires.loads in
    rw c.requires.fits.stays.same_told (run_told c.args.lock.now.site c.args.lock.now.number (first_of c.args.run.now.loads) c.args.run.now.loads loads
    c.requires.run.consecutive (g.D.Drive.told c.args.lock.now.opened) c.requires.run.some_load c.requires.fits.stocked.all_told)

pub fill-requires-clause-pages : goal.fill-requires-clause-pages
fill-requires-clause-pages g c =
    let loads = own_loads c.args.self.now.site c.args.lock.now.site c.args.drive c.args.lock.now.number c.args.run.now.loads c.requires.own.0 c.requires.own.1 c.requires.loads in
    rw (← c.requires.own.0) (c.in-Ok.ensures.pages c.args.lock.now (record { fits = c.requires.fits; own = loads }))

pub returns-in-Ok-clause-tells : goal.returns-in-Ok-clause-tells
returns-in-Ok-clause-tells g c = subst (λ (loads : List Load). All (IsLoad c.args.self.now.site c.args.drive) loads) (sym c.in-Ok.ensures.run) c.requires.loads

pub returns-in-Ok-clause-fits : goal.returns-in-Ok-clause-fits
returns-in-Ok-clause-fits g c =
    let loads = own_loads c.args.self.now.site c.args.lock.now.site c.args.drive c.args.lock.now.number c.args.run.now.loads c.requires.own.0 c.requires.own.1 c.requires.loads in
    filled g.D.Drive.held g.D.Drive.log g.D.Drive.told g.D.Drive.room g.D.Drive.faults c.args.lock.now c.read.new.self c.fill.new.spare
    (c.read.ensures.keeps c.args.lock.now (record { fits = c.requires.fits; own = loads }))
    (subst (λ (site : Site). IsSpare site.image c.fill.new.spare) (sym c.requires.own.0) c.fill.ensures)

pub returns-in-Err-clause-fits : goal.returns-in-Err-clause-fits
returns-in-Err-clause-fits g c =
    let loads = own_loads c.args.self.now.site c.args.lock.now.site c.args.drive c.args.lock.now.number c.args.run.now.loads c.requires.own.0 c.requires.own.1 c.requires.loads in
    rw c.give_up.ensures (given_up g.D.Drive.held g.D.Drive.log g.D.Drive.told g.D.Drive.room g.D.Drive.faults c.args.lock.now c.read.new.self (length c.args.run.now.loads)
    c.in-Err.ensures.rose (c.read.ensures.keeps c.args.lock.now (record { fits = c.requires.fits; own = loads })))
