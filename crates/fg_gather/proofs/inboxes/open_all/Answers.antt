use Rattle.std.proofs.Common.{◌≡◌, ◌∷◌, [], length, refl, subst, sym, ◌∙◌, ap, inl, inr, arith}
use Rattle.std.proofs.lemmas.Bool.{cases_lt}
use Rattle.std.proofs.lemmas.List.{get_or_append_left, get_or_push, length_push}
use Rattle.std.proofs.lemmas.List.Elements.{All-push}
use Rattle.fg_gather.specs.Arrivals.{HasNone, IsInboxOf}
use Rattle.fg_part.specs.PartMap.{places_in}
use Rattle.fg_gather.proofs.inboxes.open_all.Goals as goal

pub loop-part-preserved : goal.loop-part-preserved
loop-part-preserved g c =
    let xs = c.loop-part.boxes.items in
    let inbox = c.in_ok-new.field-0 in
    let made = c.in_ok-new.ensures in
    let kept = c.loop-part.invariant in
    let map = c.args.map in
    rw c.in_ok-push.ensures.items (record {
      the_end = refl;
      count = omega (arith, length_push xs inbox, kept.count);
      own = λ part d below.
          elim (cases_lt part (length xs)) [
            | inl before ↦
                subst (IsInboxOf c.args.program.now map part) (sym (get_or_append_left xs (inbox ∷ []) d part before)) (kept.own part d (omega (arith, before, kept.count)))
            | inr here ↦
                let last : length xs ≡ part = omega (arith, here, below, kept.count) in
                subst (IsInboxOf c.args.program.now map part) (sym (get_or_push xs inbox d part last)) (record {
                  same_program = made.program;
                  same_map = made.map;
                  own = omega (arith, made.part, last, kept.count);
                  count = made.empty.count ∙ ap (places_in map) (let is : c.loop-part.part ≡ part = omega (arith, last, kept.count) in is);
                })
          ];
      none = All-push HasNone xs inbox kept.none made.empty.none;
    })
