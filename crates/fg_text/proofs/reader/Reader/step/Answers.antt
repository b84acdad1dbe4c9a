use Rattle.std.proofs.Common.{◌≡◌, ◌∙◌, ◌++◌, ap, drop, take, arith}
use Rattle.fg_text.specs.declared.reader.Reader.{Reader}
use Rattle.fg_text.specs.Reader.{reads_on}
use Rattle.fg_text.proofs.ReaderLemmas.{ends_none, ends_parts, parts_append, reads_within}
use Rattle.fg_text.proofs.reader.Reader.step.Goals as goal

pub returns-then-bytes-ne-LINE_END-clause-ok : goal.returns-then-bytes-ne-LINE_END-clause-ok
returns-then-bytes-ne-LINE_END-clause-ok c = λ whole rest.
    let bytes = c.args.bytes.now in
    let count = c.take_bytes.result in
    ap (λ (reader : Reader). reads_on whole reader (drop count bytes ++ rest)) c.take_bytes.ensures.line
    ∙ reads_within whole c.args.self.now (take count bytes) (drop count bytes ++ rest) c.take_bytes.ensures.inside
    ∙ ap (reads_on whole c.args.self.now) (parts_append bytes rest count)

pub returns-then-bytes-ne-LINE_END-clause-number : goal.returns-then-bytes-ne-LINE_END-clause-number
returns-then-bytes-ne-LINE_END-clause-number c =
    let bytes = c.args.bytes.now in
    let count = c.take_bytes.result in
    let same : c.take_bytes.new.self.number ≡ c.args.self.now.number = ap (λ (reader : Reader). reader.number) c.take_bytes.ensures.line in
    omega (arith, same, ends_parts bytes count, ends_none (take count bytes) c.take_bytes.ensures.inside)
