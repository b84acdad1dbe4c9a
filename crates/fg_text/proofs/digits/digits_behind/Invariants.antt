-- All bytes so far were digits, and the number has them.
use Rattle.std.proofs.Common.{◌≡◌, All, IsTrue, fold, take}
use Rattle.std.specs.Char.{is_ascii_digit}
use Rattle.fg_text.specs.Line.{with_digit}
use Rattle.fg_text.proofs.digits.digits_behind.Given as goal

abbrev pub invariant-loop-count : goal.invariant-loop-count
invariant-loop-count l = record {
  digits : All (λ byte. IsTrue (is_ascii_digit byte)) (take l.count l.bytes);
  number : l.all ≡ fold with_digit l.number (take l.count l.bytes);
}
