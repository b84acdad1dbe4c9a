use Rattle.std.proofs.Common.{sym, ◌∙◌}
use Rattle.fg_image.proofs.HeaderLaws.{header_fits}
use Rattle.fg_image.proofs.header.Header.sections.Goals as goal

pub returns-clause-fits : goal.returns-clause-fits
returns-clause-fits c = header_fits c.args.pages c.args.self.now (sym c.has_sections.ensures ∙ c.if-not-has_sections.false)
