use Rattle.std.proofs.Common.{◌++◌, ◌∙◌, min, take, arith}
use Rattle.std.proofs.lemmas.List.{length-append, length-take}
use Rattle.std.proofs.lemmas.Result.{IfErr-weaker}
use Rattle.fg_text.proofs.PiecesLemmas.{end_refused, refused_later, took_more}
use Rattle.fg_text.proofs.pieces.read_pieces.Goals as goal

pub loop-room-preserved : goal.loop-room-preserved
loop-room-preserved g c =
    let before = c.loop-room.invariant in
    let piece = take c.in-Ok.count c.read_piece.new.into in
    let most = min c.loop-room.room 4096 in (
      before.0 ++ piece,
      took_more c.args.reader.now c.loop-room.reader c.read_piece.new.reader (g.S.Source.left c.args.input.now) (g.S.Source.left c.loop-room.input) (g.S.Source.left c.read_piece.new.input) before.0 piece before.1 c.in-Ok.ensures.took,
      omega (arith, length-append before.0 piece, length-take c.in-Ok.count c.read_piece.new.into, c.in-Ok.ensures.within, c.read_piece.auto.into, length-take c.min-most.result c.loop-room.into, before.2),
      c.in-Ok.ensures.kept ∙ before.3,
    )

pub returns-in-Err-clause-refused : goal.returns-in-Err-clause-refused
returns-in-Err-clause-refused g c =
    let before = c.loop-room.invariant in
    refused_later c.args.reader.now c.loop-room.reader (g.S.Source.left c.args.input.now) (g.S.Source.left c.loop-room.input) (g.S.Source.left c.read_piece.new.input)
    (g.S.Source.faults c.args.input.now) (g.S.Source.faults c.loop-room.input) (g.S.Source.faults c.read_piece.new.input) _ before.0 c.in-Err.refusal
    before.1 before.3 (omega (arith, length-take c.min-most.result c.loop-room.into)) (omega (arith, before.2, length-take c.min-most.result c.loop-room.into)) c.in-Err.ensures.refused

pub returns-clause-refused : goal.returns-clause-refused
returns-clause-refused g c =
    let before = c.loop-room.invariant in
    IfErr-weaker c.expect_end.result _ _
    (λ refusal refused.
    end_refused c.args.reader.now c.loop-room.reader (g.S.Source.left c.args.input.now) (g.S.Source.left c.loop-room.input) (g.S.Source.left c.expect_end.new.input)
    (g.S.Source.faults c.args.input.now) (g.S.Source.faults c.loop-room.input) (g.S.Source.faults c.expect_end.new.input) _ before.0 refusal before.1 before.3 (omega (arith, before.2)) (omega arith) refused)
    c.expect_end.ensures.refused
