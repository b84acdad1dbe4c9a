use Rattle.std.proofs.Common.{map, string_bytes}
use Rattle.clap.specs.Words.{app_of}
use Rattle.fg_words.proofs.GrammarLemmas.{read_by, refused_by}
use Rattle.fg_words.proofs.reading.read.Goals as goal

pub returns-in-Ok : goal.returns-in-Ok
returns-in-Ok c =
    read_by (app_of c.in_ok-command.command) (map string_bytes c.args.words.now) c.in-Ok.found c.in_ok-command.ensures
    c.in-Ok.ensures.kinds c.in-Ok.ensures.matches

pub returns-in-Err : goal.returns-in-Err
returns-in-Err c =
    refused_by (app_of c.in_ok-command.command) (map string_bytes c.args.words.now) c.in-Err.error c.refusal.result c.in_ok-command.ensures
    c.in-Err.ensures.kinds c.refusal.ensures
