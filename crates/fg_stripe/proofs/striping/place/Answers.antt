use Rattle.fg_stripe.proofs.StripingLaws.{page_at-place_of}
use Rattle.fg_stripe.proofs.striping.place.Goals as goal

pub returns-clause-back : goal.returns-clause-back
returns-clause-back c = page_at-place_of c.args.drives c.args.unit c.requires.some_drives c.requires.some_unit c.args.page
