use Rattle.std.proofs.Common.{rules, ◌∙◌, ℕ, List, ◌++◌, drop, ap}
use Rattle.fg_stripe.specs.Label.{label_of}
use Rattle.fg_stripe.proofs.LabelLaws.{written, zeros-filled, reads-back}
use Rattle.fg_stripe.proofs.label.Label.write.Goals as goal

pub returns-clause-bytes : goal.returns-clause-bytes
returns-clause-bytes c =
    written c.args.self.now _ _ _ _ _ _ _ record {
      blank_is = zeros-filled _ _ (c.fill.ensures.after (λ y same. same)) 4096 (search rules);
      marked_is = ap (λ (front : List ℕ). front ++ drop 8 c.fill.new.self) c.copy_from_slice.ensures.after;
      first_is = c.put_number.ensures;
      second_is = c.put_number-2.ensures;
      third_is = c.put_number-3.ensures;
      fourth_is = c.put_number-4.ensures;
      last_is = c.put_wide_number.ensures;
    }

pub returns-clause-reads_back : goal.returns-clause-reads_back
returns-clause-reads_back c =
    ap label_of (returns-clause-bytes c) ∙ reads-back c.args.self.now (search rules) (search rules) (search rules) (search rules) (search rules)
