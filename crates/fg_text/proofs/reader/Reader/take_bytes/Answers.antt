use Rattle.std.proofs.Common.{ap}
use Rattle.std.proofs.lemmas.List.{take_rest}
use Rattle.fg_text.proofs.DigitsLemmas.{run_line, run_within}
use Rattle.fg_text.proofs.reader.Reader.take_bytes.Goals as goal

pub returns-in-Field-clause-inside : goal.returns-in-Field-clause-inside
returns-in-Field-clause-inside c =
    let digits = rw take_rest at c.digits_behind-more.ensures.digits in
    run_within c.args.bytes.now c.digits_behind-more.result.count c.requires.some c.requires.inside digits

pub returns-in-Field-clause-line : goal.returns-in-Field-clause-line
returns-in-Field-clause-line c =
    let reader = c.args.self.now in
    let more = c.digits_behind-more in
    let digits = rw take_rest at more.ensures.digits in
    let number = rw take_rest at more.ensures.number in
    ap (λ line. record { undirected = reader.undirected; number = reader.number; line = line; gathered = reader.gathered })
    (run_line reader.line c.in-Field.place c.in-Field.number more.result.number more.result.count c.args.bytes.now c.requires.some c.in-Field.ensures digits number)
