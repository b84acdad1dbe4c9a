use Rattle.std.proofs.Common.{rules, ◌≡◌, ◌∙◌, sym, drop}
use Rattle.std.proofs.lemmas.List.{take_rest}
use Rattle.fg_stripe.specs.Label.{is_blank}
use Rattle.fg_stripe.proofs.LabelLaws.{found, refused, marred}
use Rattle.fg_stripe.proofs.label.Label.read.Goals as goal
use Rattle.fg_stripe.proofs.label.Label.read.Goals.{else-is_accepted-via-then-is_accepted+else-is_blank, else-is_accepted-via-else-is_accepted}

pub returns-then-is_blank : goal.returns-then-is_blank
returns-then-is_blank c =
    let b : c.is_blank.result ≡ is_blank (drop 32 c.args.page.now) = simp take_rest at c.is_blank.ensures in
    found c.args.page.now c.fields_of-label.result c.fields_of-label.ensures (search rules) (sym c.is_accepted.ensures ∙ c.if-is_accepted.true) (sym b ∙ c.if-is_blank.true)

pub returns-else-is_accepted : goal.returns-else-is_accepted
returns-else-is_accepted c =
    elim c.else-is_accepted.branch [
      | else-is_accepted-via-then-is_accepted+else-is_blank w ↦
          let b : w.is_blank.result ≡ is_blank (drop 32 c.args.page.now) = simp take_rest at w.is_blank.ensures in
          marred c.args.page.now (sym b ∙ w.if-is_blank.false)
      | else-is_accepted-via-else-is_accepted w ↦
          refused c.args.page.now c.fields_of-label.result c.fields_of-label.ensures (sym c.is_accepted.ensures ∙ w.if-is_accepted.false)
    ]
