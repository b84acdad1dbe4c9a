use Rattle.std.proofs.Common.{◌∙◌, [], Ok, ap, false, sym}
use Rattle.fg_text.specs.Text.{whole_text}
use Rattle.fg_text.proofs.ReaderLemmas.{reads_last, reads_none}
use Rattle.fg_text.proofs.RefusedLemmas.{refuses_last}
use Rattle.fg_text.proofs.reader.Reader.finish.Goals as goal

pub returns-in-Err-clause-refused : goal.returns-in-Err-clause-refused
returns-in-Err-clause-refused c = refuses_last c.args.self c.in-Err.refusal c.in-Err.ensures.refused

pub returns-clause-ok : goal.returns-clause-ok
returns-clause-ok c =
    ap whole_text (reads_last c.args.self ∙ sym (c.in_default.ensures.ok false []) ∙ reads_none c.end_line.new.self)
    ∙ ap (λ edges. Ok edges) (sym c.into_edges.ensures)
