use Rattle.std.proofs.Common.{arith}
use Rattle.fg_outside.specs.Drives.{all_told}
use Rattle.fg_top.proofs.MeaningLemmas.{opened_means}
use Rattle.fg_top.proofs.OutcomeLemmas.{begins_none, cause_of_opening, cause_of_source, opening_not_graph, opening_not_output}
use Rattle.fg_top.proofs.opening.open_sourced.Goals as goal

pub returns-in-Err-clause-cause : goal.returns-in-Err-clause-cause
returns-in-Err-clause-cause g c =
    λ stats. cause_of_opening g.D.Drive.faults c.args.drives.now.items c.open.new.drives.items c.args.wish stats (all_told g.D.Drive.held c.args.drives.now.items) c.in-Err.refusal
    c.in-Err.ensures.counts c.in-Err.ensures.answer

pub returns-in-Err-clause-not_output : goal.returns-in-Err-clause-not_output
returns-in-Err-clause-not_output g c =
    opening_not_output g.D.Drive.faults c.args.drives.now.items c.open.new.drives.items c.in-Err.refusal c.in-Err.ensures.counts

pub returns-in-Some-clause-cause : goal.returns-in-Some-clause-cause
returns-in-Some-clause-cause g c =
    λ stats. cause_of_source g.D.Drive.faults c.args.drives.now.items c.open.new.drives.items c.args.wish stats (all_told g.D.Drive.held c.args.drives.now.items) c.in-Ok.opened c.in-Some.source
    c.in-Ok.ensures.counts c.in-Ok.ensures.answer c.in-Some.ensures.0 c.in-Some.ensures.1

pub returns-clause-means : goal.returns-clause-means
returns-clause-means g c =
    opened_means g.D.Drive.held g.met.D.Drive.held_bytes c.args.drives.now.items c.args.wish c.in-Ok.opened (omega arith) c.in-Ok.ensures.fits c.in-Ok.ensures.answer

pub returns-in-Err-clause-unbegun : goal.returns-in-Err-clause-unbegun
returns-in-Err-clause-unbegun g c = λ eight. absurd (opening_not_graph g.D.Drive.faults c.args.drives.now.items c.open.new.drives.items c.in-Err.refusal c.in-Err.ensures.counts eight)

pub returns-in-Some-clause-unbegun : goal.returns-in-Some-clause-unbegun
returns-in-Some-clause-unbegun g c =
    λ eight. begins_none c.args.wish (all_told g.D.Drive.held c.args.drives.now.items) c.in-Ok.opened c.in-Some.source c.in-Ok.ensures.answer c.in-Some.ensures.0 c.in-Some.ensures.1
