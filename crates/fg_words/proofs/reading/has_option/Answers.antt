use Rattle.std.proofs.Common.{◌∙◌}
use Rattle.clap.specs.Words.{found_of}
use Rattle.fg_words.proofs.FoundLemmas.{given_is}
use Rattle.fg_words.proofs.reading.has_option.Goals as goal

pub returns-in-Some-CommandLine : goal.returns-in-Some-CommandLine
returns-in-Some-CommandLine c =
    given_is (found_of c.args.found.now) c.args.name.now _ (rw c.in-Some-CommandLine.field-0-is at c.in-Some-CommandLine.ensures)

pub returns-in-Some-DefaultValue : goal.returns-in-Some-DefaultValue
returns-in-Some-DefaultValue c =
    given_is (found_of c.args.found.now) c.args.name.now _ (rw c.in-Some-DefaultValue.field-0-is at c.in-Some-DefaultValue.ensures)

pub returns-in-None : goal.returns-in-None
returns-in-None c = c.contains_id.ensures ∙ given_is (found_of c.args.found.now) c.args.name.now _ c.in-None.ensures
