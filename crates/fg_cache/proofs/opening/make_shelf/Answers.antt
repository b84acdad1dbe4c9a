use Rattle.fg_cache.proofs.OpenLemmas.{new_shelf}
use Rattle.fg_cache.proofs.opening.make_shelf.Goals as goal

pub new-requires : goal.new-requires
new-requires g c = rw c.of-name.ensures (new_shelf g.D.Drive.held g.D.Drive.log g.D.Drive.told g.D.Drive.room g.D.Drive.faults
    (record { site = c.args.home.now; number = c.args.number; opened = c.args.drive }) _ _ c.args.share c.args.faults
    c.requires.stocked c.requires.within c.requires.share c.requires.own c.requires.parts.0 c.requires.parts.1 c.requires.blank)
