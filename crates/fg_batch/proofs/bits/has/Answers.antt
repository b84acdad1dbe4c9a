use Rattle.std.proofs.Common.{ℕ, ◌/◌, ◌%◌, ◌==◌, ap, get_or}
use Rattle.std.proofs.lemmas.Nat.Bits.{shr_and_one}
use Rattle.fg_batch.specs.Bits.{is_in}
use Rattle.fg_batch.proofs.bits.has.Goals as goal

pub returns : goal.returns
unfolding is_in
returns c = ap (λ (b : ℕ). b == 1) (shr_and_one (get_or c.args.words.now (c.args.number / 64) 0) (c.args.number % 64))
