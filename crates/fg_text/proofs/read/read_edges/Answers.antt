use Rattle.std.proofs.Common.{◌∙◌}
use Rattle.std.proofs.lemmas.Option.{IfSome_then}
use Rattle.std.proofs.lemmas.Result.{IfErr-weaker, IfOk-weaker}
use Rattle.fg_text.proofs.ReadLemmas.{end_refused, pieces_front, read_refused, stops_for, text_taken}
use Rattle.fg_text.proofs.read.read_edges.Goals as goal

pub returns-in-Err-clause-refused : goal.returns-in-Err-clause-refused
returns-in-Err-clause-refused g c =
    let refused = rw c.new-reader.ensures at c.in-Err.ensures.refused in
    read_refused c.args.undirected (g.S.Source.left c.args.input.now) (g.S.Source.left c.read_pieces.new.input)
    (g.S.Source.faults c.args.input.now) (g.S.Source.faults c.read_pieces.new.input) c.in-Err.refusal refused

pub returns-clause-read : goal.returns-clause-read
returns-clause-read g c =
    let old = g.S.Source.left c.args.input.now in
    let all = rw c.new-reader.ensures at c.in_default.ensures.took in
    IfOk-weaker c.finish.result _ _
    (λ edges e.
    IfSome_then old (text_taken c.args.undirected c.read_pieces.new.reader old (g.S.Source.left c.read_pieces.new.input) all.0 all.1 all.2 all.3) (λ bytes f. f ∙ e))
    c.finish.ensures.ok

pub returns-clause-refused : goal.returns-clause-refused
returns-clause-refused g c =
    let all = rw c.new-reader.ensures at c.in_default.ensures.took in
    IfErr-weaker c.finish.result _ _
    (λ refusal is.
    end_refused c.args.undirected c.read_pieces.new.reader (g.S.Source.left c.args.input.now) (g.S.Source.left c.read_pieces.new.input)
    (g.S.Source.faults c.args.input.now) (g.S.Source.faults c.read_pieces.new.input) all.0 refusal all.1 all.2 all.3 c.in_default.ensures.kept is)
    c.finish.ensures.refused

pub returns-in-Err-clause-stops : goal.returns-in-Err-clause-stops
returns-in-Err-clause-stops g c =
    let old = g.S.Source.left c.args.input.now in
    let new = g.S.Source.left c.read_pieces.new.input in
    let before = g.S.Source.faults c.args.input.now in
    let after = g.S.Source.faults c.read_pieces.new.input in
    let refused = rw c.new-reader.ensures at c.in-Err.ensures.refused in
    stops_for c.args.undirected old new before after c.in-Err.refusal (pieces_front _ old new before after c.in-Err.refusal c.in-Err.ensures.refused)
    (read_refused c.args.undirected old new before after c.in-Err.refusal refused)

pub returns-clause-stops : goal.returns-clause-stops
returns-clause-stops g c =
    let old = g.S.Source.left c.args.input.now in
    let new = g.S.Source.left c.read_pieces.new.input in
    let before = g.S.Source.faults c.args.input.now in
    let after = g.S.Source.faults c.read_pieces.new.input in
    let all = rw c.new-reader.ensures at c.in_default.ensures.took in
    IfErr-weaker c.finish.result _ _
    (λ refusal is.
    stops_for c.args.undirected old new before after refusal (all.0, all.1.moved)
    (end_refused c.args.undirected c.read_pieces.new.reader old new before after all.0 refusal all.1 all.2 all.3 c.in_default.ensures.kept is))
    c.finish.ensures.refused
