use Rattle.std.proofs.Common.{◌≡◌, ◌∙◌, ◌≤◌, ℕ, refl, ap, None, Some, Err, [], slice_index_or, sym, arith, length}
use Rattle.fg_build.specs.Labels.{label_on, need_of, refusal_by}
use Rattle.fg_build.specs.Opening.{opening_of}
use Rattle.fg_build.proofs.CallLaws.{IfSome-both, MatchOpening-content, SaysOf-weaker}
use Rattle.fg_build.proofs.RefusalLaws.{first_none, first_refused, first_some, judged, passed_drives, passed_need, refusal_by-content, told_enough}
use Rattle.fg_outside.specs.Drives.{all_told}
use Rattle.fg_outside.proofs.DriveLemmas.{all_told-length}
use Rattle.fg_base.specs.declared.refusal.Refusal.TheVariants.{NoLabel}
use Rattle.fg_stripe.specs.declared.label.Label.{Label}
use Rattle.fg_build.proofs.ToldLaws.{IsRefusedAt-first, IsUnlabelled-of, ToldHere-none, ToldHere-some, first_told}
use Rattle.fg_build.proofs.labels.read_first.Goals as goal

pub returns-in-Err-clause-answer : goal.returns-in-Err-clause-answer
returns-in-Err-clause-answer g c =
    IfSome-both (all_told g.D.Drive.held c.args.drives.now) _ _ _
    (λ helds many says. SaysOf-weaker c.in-Err.refusal ((label_on (slice_index_or helds 0 []) ≡ None) × (c.in-Err.refusal ≡ NoLabel 0)) (opening_of helds ≡ Err c.in-Err.refusal)
    (λ is. first_none helds c.in-Err.refusal (omega (arith, many, c.requires.some)) is.0 is.1) says)
    (all_told-length g.D.Drive.held c.args.drives.now) c.in-Err.ensures.answer

pub returns-in-Some-clause-answer : goal.returns-in-Some-clause-answer
returns-in-Some-clause-answer g c =
    let found = c.in-Ok.found in
    let count = length c.args.drives.now in
    let by : refusal_by count found.label 0 found.pages found.label ≡ Some c.in-Some.refusal = sym c.refusal_by.ensures ∙ c.in-Some.is in
    IfSome-both (all_told g.D.Drive.held c.args.drives.now) _ _ _
    (λ helds many is.
    let some : 1 ≤ length helds = omega (arith, many, c.requires.some) in
    MatchOpening-content c.in-Some.refusal _ _ _ (refusal_by-content count found.label 0 found.pages found.label c.in-Some.refusal by)
    (first_refused helds found.label c.in-Some.refusal some (first_some helds found.label some is.0)
    (judged (length helds) found.label 0 (slice_index_or helds 0 []) found.label found.pages is.0 is.1 ∙ ap (λ (count : ℕ). refusal_by count found.label 0 found.pages found.label) many ∙ by)))
    (all_told-length g.D.Drive.held c.args.drives.now) c.in-Ok.ensures.answer

pub returns-clause-answer : goal.returns-clause-answer
returns-clause-answer g c =
    let found = c.in-Ok.found in
    let count = length c.args.drives.now in
    let by : refusal_by count found.label 0 found.pages found.label ≡ None = sym c.refusal_by.ensures ∙ c.in_default.is in
    IfSome-both (all_told g.D.Drive.held c.args.drives.now) _ _ _
    (λ helds many is.
    let some : 1 ≤ length helds = omega (arith, many, c.requires.some) in (
      first_some helds found.label some is.0,
      judged (length helds) found.label 0 (slice_index_or helds 0 []) found.label found.pages is.0 is.1
          ∙ ap (λ (count : ℕ). refusal_by count found.label 0 found.pages found.label) many ∙ by,
    ))
    (all_told-length g.D.Drive.held c.args.drives.now) c.in-Ok.ensures.answer

pub returns-clause-told : goal.returns-clause-told
returns-clause-told g c =
    let found = c.in-Ok.found in
    let count = length c.args.drives.now in
    let by : refusal_by count found.label 0 found.pages found.label ≡ None = sym c.refusal_by.ensures ∙ c.in_default.is in
    told_enough g.D.Drive.told 0 found.pages (need_of 0 found.label) c.args.drives.now c.read_label.new.drives
    (passed_need count found.label 0 found.pages found.label (passed_drives count found.label 0 found.pages found.label by) by)
    c.in-Ok.ensures.told

pub returns-in-Err-clause-told_err : goal.returns-in-Err-clause-told_err
returns-in-Err-clause-told_err g c =
    let refusal = c.in-Err.refusal in
    let unlabelled = c.in-Err.ensures.told_err in
    let any : Label = record { drive = 0; drives = length c.args.drives.now; unit = 1; pages = 2; number = 0 } in (
      IsUnlabelled-of 0 refusal unlabelled.0,
      IsRefusedAt-first g.D.Drive.told any refusal _ _ refl (omega (arith, c.requires.some)) (ToldHere-none g.D.Drive.told any 0 refusal _ _ unlabelled.0 unlabelled.1),
    )

pub returns-in-Some-clause-told_err : goal.returns-in-Some-clause-told_err
returns-in-Some-clause-told_err g c =
    let found = c.in-Ok.found in
    let refusal = c.in-Some.refusal in
    let refused = first_told (length c.args.drives.now) found.label 0 found.pages found.label refusal c.in-Ok.ensures.some (sym c.refusal_by.ensures ∙ c.in-Some.is) in
    let own = refused.1.0 in (
      refused.0,
      IsRefusedAt-first g.D.Drive.told own refusal _ _ refused.1.1 (omega (arith, c.requires.some)) (ToldHere-some g.D.Drive.told own 0 found.pages refusal _ _ refused.1.2 c.in-Ok.ensures.told),
    )
