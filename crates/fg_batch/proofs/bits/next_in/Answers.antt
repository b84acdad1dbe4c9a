use Rattle.std.proofs.Common.{◌≡◌, ℕ, ◌+◌, ◌*◌, ◌/◌, ◌%◌, ◌<◌, get_or, ap, ◌∙◌, inl, inr, arith}
use Rattle.std.proofs.lemmas.Bool.{cases_lt}
use Rattle.fg_batch.proofs.BitsLaws.{lowest_in, lowest_word, none_above, none_below, none_below-word, none_in, within_word}
use Rattle.fg_batch.proofs.bits.next_in.Goals as goal

pub returns-then-rest-ne0-clause-below : goal.returns-then-rest-ne0-clause-below
returns-then-rest-ne0-clause-below c k above below =
    let word : get_or c.args.words.now (c.args.from / 64) 0 < 18446744073709551616 = omega (arith, c.type_inv.words (c.args.from / 64)) in
    none_below c.args.words.now (c.args.from / 64) (c.args.from % 64) (omega arith) (omega (arith, c.if-rest-ne0.true)) word k (omega arith) (omega (arith, below))

pub returns-then-rest-ne0-clause-found : goal.returns-then-rest-ne0-clause-found
returns-then-rest-ne0-clause-found c _ =
    let word : get_or c.args.words.now (c.args.from / 64) 0 < 18446744073709551616 = omega (arith, c.type_inv.words (c.args.from / 64)) in
    let there : c.args.from / 64 * 64 + c.args.from % 64 ≡ c.args.from = omega arith in
    rw there at (lowest_in c.args.words.now (c.args.from / 64) (c.args.from % 64) (omega arith) (omega (arith, c.if-rest-ne0.true)) word)

pub returns-then-rest-ne0-clause-within : goal.returns-then-rest-ne0-clause-within
returns-then-rest-ne0-clause-within c =
    let word : get_or c.args.words.now (c.args.from / 64) 0 < 18446744073709551616 = omega (arith, c.type_inv.words (c.args.from / 64)) in
    let within = within_word c.args.words.now (c.args.from / 64) (c.args.from % 64) (omega arith) (omega (arith, c.if-rest-ne0.true)) word in
    omega (arith, within, c.if-first-words.false, c.requires.from)

pub loop-next-init : goal.loop-next-init
loop-next-init c k above below =
    none_above c.args.words.now (c.args.from / 64) (c.args.from % 64) (omega arith) (omega (arith, c.if-rest-ne0.false)) k (omega arith) (omega (arith, below))

pub returns-then-word-ne0-clause-below : goal.returns-then-word-ne0-clause-below
returns-then-word-ne0-clause-below c k above below =
    elim (cases_lt k (c.loop-next.next * 64)) [
      | inl before ↦ c.loop-next.invariant k above before
      | inr here ↦
          none_below-word c.args.words.now c.loop-next.next (omega (arith, c.if-word-ne0.true)) (omega (arith, c.type_inv.words c.loop-next.next)) k here below
    ]

pub returns-then-word-ne0-clause-found : goal.returns-then-word-ne0-clause-found
returns-then-word-ne0-clause-found c _ =
    lowest_word c.args.words.now c.loop-next.next (omega (arith, c.if-word-ne0.true)) (omega (arith, c.type_inv.words c.loop-next.next))

pub loop-next-preserved : goal.loop-next-preserved
loop-next-preserved c k above below =
    elim (cases_lt k (c.loop-next.next * 64)) [
      | inl before ↦ c.loop-next.invariant k above before
      | inr here ↦
          let high : k / 64 ≡ c.loop-next.next = omega (arith, here, below) in
          none_in c.args.words.now k (ap (λ (j : ℕ). get_or c.args.words.now j 0) high ∙ (omega (arith, c.if-word-ne0.false)))
    ]
