-- Pieces of a text, one behind another.
use Rattle.std.proofs.Common.{◌≡◌, ℕ, ◌+◌, ◌≤◌, ◌++◌, ◌∙◌, false, Option, List, [], length, ap, subst, sym, arith}
use Rattle.std.proofs.lemmas.List.{append-nil, append_assoc, length-append}
use Rattle.fg_base.specs.Faults.{Rose}
use Rattle.fg_base.specs.Told.{led_by}
use Rattle.fg_base.specs.declared.limits.TheConstants.{MAX_TEXT_BYTES}
use Rattle.fg_base.specs.declared.refusal.Refusal.{Refusal}
use Rattle.fg_base.specs.declared.refusal.Refusal.TheVariants.{InputFault, TextTooLong}
use Rattle.fg_text.specs.declared.reader.Reader.{Reader}
use Rattle.fg_base.proofs.GrowthLemmas.{led_by_twice}
use Rattle.fg_text.specs.Pieces.{EndRefused, PieceRefused, PiecesRefused, Took}
use Rattle.fg_text.specs.Reader.{Refuses, line_ends, reads_on}
use Rattle.fg_text.proofs.ReaderLemmas.{ends_append, reads_none}
use Rattle.fg_text.proofs.RefusedLemmas.{refuses_from}

-- a piece that was refused
pub piece_refused : (most : ℕ) (reader : Reader) (old new : Option (List ℕ)) (before after : ℕ) (piece : List ℕ) (refusal : Refusal) → length piece ≤ most → after ≡ before → old ≡ led_by piece new →
    Refuses reader.number (reader.number + line_ends piece) (λ whole rest. reads_on whole reader (piece ++ rest)) refusal → PieceRefused most reader old new before after refusal
piece_refused most reader old new before after piece InputFault short kept moved refused = absurd refused
piece_refused most reader old new before after piece refusal short kept moved refused = (kept, record { piece = piece; moved = moved; short = short; refused = refused })

-- one part taken, and then another
pub took_more : (first between last : Reader) (old middle new : Option (List ℕ)) (taken piece : List ℕ) → Took first between old middle taken → Took between last middle new piece → Took first last old new (taken ++ piece)
took_more first between last old middle new taken piece took more = record {
  moved = took.moved ∙ ap (led_by taken) more.moved ∙ led_by_twice taken piece new;
  number = omega (arith, took.number, more.number, ends_append taken piece);
  reads = λ whole rest. more.reads whole rest ∙ took.reads whole (piece ++ rest) ∙ ap (reads_on whole first) (sym (append_assoc taken piece rest));
}

-- some part taken, and then a piece refused
pub refused_later : (first between : Reader) (old middle new : Option (List ℕ)) (start before after most : ℕ) (taken : List ℕ) (refusal : Refusal) → Took first between old middle taken →
    before ≡ start → most ≤ 4096 → length taken + most ≤ MAX_TEXT_BYTES → PieceRefused most between middle new before after refusal → PiecesRefused first old new start after refusal
refused_later first between old middle new start before after most taken InputFault took kept few room refused =
    let P : ℕ → Type 0 = λ count. Rose count after in
    (omega (arith, refused.0), subst P kept refused.1, (taken, took.moved ∙ ap (led_by taken) (sym refused.2)))
refused_later first between old middle new start before after most taken TextTooLong took kept few room refused = absurd refused.1.refused
refused_later first between old middle new start before after most taken refusal took kept few room refused =
    let piece = refused.1.piece in (
      refused.0 ∙ kept,
      record {
        before = taken;
        piece = piece;
        moved = took.moved ∙ ap (led_by taken) refused.1.moved ∙ led_by_twice taken piece new;
        short = omega (arith, refused.1.short);
        fits = omega (arith, refused.1.short, length-append taken piece);
        refused =
            refuses_from between.number (between.number + line_ends piece) (first.number + line_ends taken) (first.number + line_ends (taken ++ piece))
            (λ whole rest. reads_on whole between (piece ++ rest)) (λ whole rest. reads_on whole first ((taken ++ piece) ++ rest)) refusal
            (omega (arith, took.number)) (omega (arith, took.number, ends_append taken piece))
            (λ whole rest. took.reads whole (piece ++ rest) ∙ ap (reads_on whole first) (sym (append_assoc taken piece rest))) refused.1.refused;
      },
    )

-- all taken that a text may have, and then more or a fault
pub end_refused : (first last : Reader) (old middle new : Option (List ℕ)) (start before after most : ℕ) (taken : List ℕ) (refusal : Refusal) → Took first last old middle taken →
    before ≡ start → length taken ≡ MAX_TEXT_BYTES → most ≤ 4096 → EndRefused most middle new before after refusal → PiecesRefused first old new start after refusal
end_refused first last old middle new start before after most taken InputFault took kept full short refused =
    let P : ℕ → Type 0 = λ count. Rose count after in
    (omega (arith, refused.0), subst P kept refused.1, (taken, took.moved ∙ ap (led_by taken) (sym refused.2)))
end_refused first last old middle new start before after most taken TextTooLong took kept full short refused =
    let more = refused.1 in (
      refused.0 ∙ kept,
      record {
        taken = taken;
        more = more.0;
        moved = took.moved ∙ ap (led_by taken) more.3 ∙ led_by_twice taken more.0 new;
        full = full;
        over = more.1;
        few = omega (arith, more.2);
        edges = last.gathered;
        reads = ap (reads_on false first) (sym (append-nil taken)) ∙ sym (took.reads false []) ∙ reads_none last;
      },
    )
end_refused first last old middle new start before after most taken refusal took kept full short refused = absurd refused
