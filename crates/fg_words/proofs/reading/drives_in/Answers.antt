use Rattle.std.proofs.Common.{◌∙◌, ap, map, Some, string_bytes}
use Rattle.std.proofs.lemmas.Result.{IfOk-weaker}
use Rattle.clap.specs.Words.{found_of}
use Rattle.fg_words.proofs.FoundLemmas.{drives_are, no_drives}
use Rattle.fg_words.proofs.reading.drives_in.Goals as goal

pub returns-in-Some : goal.returns-in-Some
returns-in-Some c =
    let names = map (λ name. name.now) c.in-Some.names.now in
    IfOk-weaker c.copies.result _ _ (λ copies same. same ∙ drives_are (found_of c.args.found.now) (Some names) c.in-Some.ensures) c.copies.ensures

pub returns-in-None : goal.returns-in-None
returns-in-None c = ap (map string_bytes) c.new.ensures.items ∙ no_drives (found_of c.args.found.now) c.in-None.ensures
