use Rattle.std.proofs.Common.{length, take, arith}
use Rattle.std.proofs.lemmas.List.{length-take}
use Rattle.fg_text.proofs.PiecesLemmas.{piece_refused}
use Rattle.fg_text.proofs.pieces.read_piece.Goals as goal

pub returns-in-Err-clause-refused : goal.returns-in-Err-clause-refused
returns-in-Err-clause-refused g c =
    let into = c.take.new.into in
    let piece = take c.in-Ok.count into in
    piece_refused (length c.args.into.now) c.args.reader.now (g.S.Source.left c.args.input.now) (g.S.Source.left c.take.new.self) (g.S.Source.faults c.args.input.now) (g.S.Source.faults c.take.new.self) piece c.in-Err.refusal
    (omega (arith, length-take c.in-Ok.count into)) c.in-Ok.ensures.counted.kept c.in-Ok.ensures.moved c.in-Err.ensures.refused
