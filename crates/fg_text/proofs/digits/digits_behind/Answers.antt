use Rattle.std.proofs.Common.{◌∙◌, IsTrue, ap, sym, get_or}
use Rattle.std.specs.Char.{is_ascii_digit}
use Rattle.std.proofs.lemmas.List.Elements.{All-more}
use Rattle.std.proofs.lemmas.List.Sums.{fold_more}
use Rattle.fg_text.specs.Line.{with_digit}
use Rattle.fg_text.proofs.digits.digits_behind.Goals as goal

pub loop-count-preserved : goal.loop-count-preserved
loop-count-preserved c =
    let bytes = c.args.bytes.now in
    let count = c.loop-count.count in
    let at = c.loop-count.invariant in
    record {
      digits = All-more (λ byte. IsTrue (is_ascii_digit byte)) bytes count 0 c.loop-count-test.true at.digits (sym c.is_ascii_digit.ensures.value ∙ c.if-not-is_ascii_digit.false);
      number = c.with_digit-all.ensures ∙ ap (λ number. with_digit number (get_or bytes count 0)) at.number ∙ sym (fold_more with_digit c.args.number bytes count 0 c.loop-count-test.true);
    }
