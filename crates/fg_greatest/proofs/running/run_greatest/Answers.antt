use Rattle.fg_greatest.proofs.Opened.{opened_greatest}
use Rattle.fg_greatest.proofs.running.run_greatest.Goals as goal

pub returns-clause-values : goal.returns-clause-values
returns-clause-values g c =
    let ran = c.run_program in
    let drive = (g.met.D.Drive g.world.𝓛 g.world.𝓜 g.world.𝓡 ((λ s x. x), (λ x. x), (λ x. x), λ x. x)) in
    opened_greatest g.D.Drive.held drive.held_bytes c.args.drives.items c.args.opened c.args.options.max ran.result.answer c.requires.fits ran.ensures.answer
