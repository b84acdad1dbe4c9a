use Rattle.std.proofs.Common.{◌∙◌, sym}
use Rattle.clap.specs.Words.{found_of}
use Rattle.fg_words.proofs.FoundLemmas.{value_there}
use Rattle.fg_words.proofs.reading.value_of.Goals as goal

pub returns-then-has_option : goal.returns-then-has_option
returns-then-has_option c =
    c.get_str.ensures ∙ value_there (found_of c.args.found.now) c.args.option c.name-name.result.now c.name-name.ensures.name
    (sym c.has_option.ensures ∙ c.if-has_option.true)
