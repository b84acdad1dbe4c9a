use Rattle.std.proofs.Common.{◌≡◌, ◌+◌, ◌≤◌, ◌++◌, ◌∙◌, ap, drop, sym, take, arith}
use Rattle.std.proofs.lemmas.List.{drop-drop, length-drop, length-take, take_rest}
use Rattle.fg_text.specs.Reader.{line_ends, reads_on}
use Rattle.fg_text.proofs.ReaderLemmas.{ends_few, ends_parts}
use Rattle.fg_text.proofs.RefusedLemmas.{refuses_from}
use Rattle.fg_text.proofs.reader.Reader.feed.Goals as goal

pub loop-at-preserved : goal.loop-at-preserved
loop-at-preserved c =
    let piece = c.args.piece.now in
    let at = c.loop-at.at in
    let count = c.in-Ok.count in
    let left = drop at piece in
    let before = c.loop-at.invariant in
    let within = rw take_rest at c.in-Ok.ensures.within in
    let number = rw take_rest at c.in-Ok.ensures.number in
    let reads = rw take_rest at c.in-Ok.ensures.ok in
    let next : drop count left ≡ drop (at + count) piece = drop-drop count at piece in
    let few : c.step.new.self.number ≤ c.loop-at.self.number + count = omega (arith, number, ends_parts left count, ends_few (take count left), length-take count left) in
    record {
      within = omega (arith, within, length-drop at piece, before.within);
      number = ap (λ left. c.step.new.self.number + line_ends left) (sym next) ∙ number ∙ before.number;
      few = omega (arith, few, before.few);
      reads = λ whole rest. ap (λ left. reads_on whole c.step.new.self (left ++ rest)) (sym next) ∙ reads whole rest ∙ before.reads whole rest;
    }

pub returns-in-Err-clause-refused : goal.returns-in-Err-clause-refused
returns-in-Err-clause-refused c =
    let piece = c.args.piece.now in
    let left = drop c.loop-at.at piece in
    let before = c.loop-at.invariant in
    let refused = rw take_rest at c.in-Err.ensures.refused in
    let ends = ends_parts piece c.loop-at.at in
    refuses_from c.loop-at.self.number (c.loop-at.self.number + line_ends left) c.args.self.now.number (c.args.self.now.number + line_ends piece)
    (λ whole rest. reads_on whole c.loop-at.self (left ++ rest)) (λ whole rest. reads_on whole c.args.self.now (piece ++ rest)) c.in-Err.refusal
    (omega (arith, before.number, ends)) (omega (arith, before.number)) before.reads refused
