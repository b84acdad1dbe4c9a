use Rattle.std.proofs.Common.{◌≡◌, ◌∙◌, sym, drop}
use Rattle.std.proofs.lemmas.List.{take_rest}
use Rattle.fg_stripe.specs.Label.{is_blank}
use Rattle.fg_image.proofs.HeaderLaws.{found, marred, uncounted}
use Rattle.fg_image.proofs.header.Header.read.Goals as goal
use Rattle.fg_image.proofs.header.Header.read.Goals.{else-is_counted-via-then-is_counted+else-is_blank, else-is_counted-via-else-is_counted}

pub returns-then-is_blank-clause-value : goal.returns-then-is_blank-clause-value
returns-then-is_blank-clause-value c =
    let blank : c.is_blank.result ≡ is_blank (drop 76 c.args.page.now) = simp take_rest at c.is_blank.ensures in
    found c.args.page.now c.header_of-header.result c.header_of-header.ensures (sym c.starts_with.ensures.value ∙ c.if-not-starts_with.false) c.if-header-ne-VERSION.false (sym c.is_counted.ensures ∙ c.if-is_counted.true) (sym blank ∙ c.if-is_blank.true)

pub returns-else-is_counted-clause-value : goal.returns-else-is_counted-clause-value
returns-else-is_counted-clause-value c =
    let marked = sym c.starts_with.ensures.value ∙ c.if-not-starts_with.false in
    elim c.else-is_counted.branch [
      | else-is_counted-via-then-is_counted+else-is_blank w ↦
          let blank : w.is_blank.result ≡ is_blank (drop 76 c.args.page.now) = simp take_rest at w.is_blank.ensures in
          marred c.args.page.now c.header_of-header.result c.header_of-header.ensures marked c.if-header-ne-VERSION.false (sym blank ∙ w.if-is_blank.false)
      | else-is_counted-via-else-is_counted w ↦
          uncounted c.args.page.now c.header_of-header.result c.header_of-header.ensures marked c.if-header-ne-VERSION.false (sym c.is_counted.ensures ∙ w.if-is_counted.false)
    ]
