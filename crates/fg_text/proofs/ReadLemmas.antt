-- What a reader took, seen as a text.
use Rattle.std.proofs.Common.{◌≡◌, ℕ, ◌+◌, ◌-◌, ◌<◌, ◌≤◌, ◌++◌, ◌∙◌, Bool, true, false, IfSome, Option, None, Some, Err, List, [], length, take, ap, subst, sym, inl, inr, arith}
use Rattle.std.proofs.lemmas.Bool.{cases_lt}
use Rattle.std.proofs.lemmas.List.{append-nil, append_assoc, length-append}
use Rattle.std.proofs.lemmas.Option.{IfSome_then}
use Rattle.std.proofs.Math.Seq.{take-append-add}
use Rattle.fg_base.specs.Told.{led_by}
use Rattle.fg_base.specs.declared.limits.TheConstants.{MAX_TEXT_BYTES}
use Rattle.fg_base.specs.declared.refusal.Refusal.{Refusal}
use Rattle.fg_base.specs.declared.refusal.Refusal.TheVariants.{Memory, InputFault, BadLine, IdTooLarge, TooManyEdges, TextTooLong}
use Rattle.fg_base.proofs.GrowthLemmas.{led_to_end}
use Rattle.fg_text.specs.declared.reader.Reader.{Reader}
use Rattle.fg_text.specs.Pieces.{IsAtEnd, IsOverlong, PiecesRefused, Took, TookFront}
use Rattle.fg_text.specs.Read.{ReadRefused, RefusesText, SaysRefusal, StopsFor}
use Rattle.fg_text.specs.Reader.{IsRefused, Refuses, line_ends, reads_on}
use Rattle.fg_text.specs.Text.{cut_text, read_text, whole_text}
use Rattle.fg_text.proofs.ReaderLemmas.{start_of, text_cut, text_whole}

-- a text that begins so is refused however it goes on
refused_text : (undirected : Bool) (front rest : List ℕ) (refusal : Refusal) → length front ≤ MAX_TEXT_BYTES →
    ((whole : Bool) (rest : List ℕ) → reads_on whole (start_of undirected) (front ++ rest) ≡ Err refusal) → read_text undirected (front ++ rest) ≡ Err refusal
refused_text undirected front rest refusal fits answer =
    elim (cases_lt MAX_TEXT_BYTES (length (front ++ rest))) [
      | inl long ↦
          let room : MAX_TEXT_BYTES ≡ length front + (MAX_TEXT_BYTES - length front) = omega arith in
          let cut : take MAX_TEXT_BYTES (front ++ rest) ≡ front ++ take (MAX_TEXT_BYTES - length front) rest = ap (λ n. take n (front ++ rest)) room ∙ take-append-add front rest (MAX_TEXT_BYTES - length front) in
          text_cut undirected (front ++ rest) long
          ∙ ap (λ bytes. cut_text (reads_on false (start_of undirected) bytes)) cut ∙ ap cut_text (answer false (take (MAX_TEXT_BYTES - length front) rest))
      | inr short ↦ text_whole undirected (front ++ rest) short ∙ ap whole_text (answer true rest)
    ]

-- and so is what was left before that front was taken
says_refusal : (undirected : Bool) (old new : Option (List ℕ)) (front : List ℕ) (refusal : Refusal) → old ≡ led_by front new →
    ((rest : List ℕ) → read_text undirected (front ++ rest) ≡ Err refusal) → SaysRefusal undirected old refusal
says_refusal undirected old None front refusal moved refused = let P : Option (List ℕ) → Type 0 = λ left. SaysRefusal undirected left refusal in subst P (sym moved) tt
says_refusal undirected old (Some rest) front refusal moved refused = let P : Option (List ℕ) → Type 0 = λ left. SaysRefusal undirected left refusal in subst P (sym moved) (refused rest)

-- a piece that was refused
refused_piece : (undirected : Bool) (old new : Option (List ℕ)) (line : ℕ) (refusal : Refusal) (before piece : List ℕ) → old ≡ led_by (before ++ piece) new → length piece ≤ 4096 → length (before ++ piece) ≤ MAX_TEXT_BYTES →
    IsRefused (1 + line_ends before) (1 + line_ends (before ++ piece)) line refusal (λ whole rest. reads_on whole (start_of undirected) ((before ++ piece) ++ rest)) → RefusesText undirected old new line refusal
refused_piece undirected old new line refusal before piece moved short fits is = record {
  says = says_refusal undirected old new (before ++ piece) refusal moved (λ rest. refused_text undirected (before ++ piece) rest refusal fits is.answer);
  stops = record { before = before; piece = piece; moved = moved; short = short; unended = omega (arith, is.from); ended = inl (omega (arith, is.before)) };
}

-- a text that is too long
overlong : (undirected : Bool) (old new : Option (List ℕ)) → IsOverlong (start_of undirected) old new → SaysRefusal undirected old TextTooLong
overlong undirected old new is =
    says_refusal undirected old new (is.taken ++ is.more) TextTooLong is.moved
    (λ rest.
    let front = is.taken ++ is.more in
    let long : MAX_TEXT_BYTES < length (front ++ rest) = omega (arith, length-append front rest, length-append is.taken is.more, is.full, is.over) in
    let room : MAX_TEXT_BYTES ≡ length is.taken + 0 = omega (arith, is.full) in
    let cut : take MAX_TEXT_BYTES (front ++ rest) ≡ is.taken =
    ap (take MAX_TEXT_BYTES) (append_assoc is.taken is.more rest) ∙ ap (λ n. take n (is.taken ++ (is.more ++ rest))) room ∙ take-append-add is.taken (is.more ++ rest) 0 ∙ append-nil is.taken in
    text_cut undirected (front ++ rest) long ∙ ap (λ bytes. cut_text (reads_on false (start_of undirected) bytes)) cut ∙ ap cut_text is.reads)

-- why taking pieces ended early is why the text wasn't read
pub read_refused : (undirected : Bool) (old new : Option (List ℕ)) (before after : ℕ) (refusal : Refusal) → PiecesRefused (start_of undirected) old new before after refusal → ReadRefused undirected old new before after refusal
read_refused undirected old new before after Memory refused = refused.0
read_refused undirected old new before after InputFault refused = (refused.0, refused.1)
read_refused undirected old new before after TextTooLong refused =
    let is = refused.1 in
    let soon : length (is.taken ++ is.more) ≤ MAX_TEXT_BYTES + 4096 = omega (arith, length-append is.taken is.more, is.full, is.few) in
    (refused.0, overlong undirected old new is, (is.taken ++ is.more, soon, is.moved))
read_refused undirected old new before after (BadLine line) refused =
    let at = refused.1 in (refused.0, refused_piece undirected old new line (BadLine line) at.before at.piece at.moved at.short at.fits at.refused)
read_refused undirected old new before after (IdTooLarge line) refused =
    let at = refused.1 in (refused.0, refused_piece undirected old new line (IdTooLarge line) at.before at.piece at.moved at.short at.fits at.refused)
read_refused undirected old new before after (TooManyEdges line) refused =
    let at = refused.1 in (refused.0, refused_piece undirected old new line (TooManyEdges line) at.before at.piece at.moved at.short at.fits at.refused)
read_refused undirected old new before after refusal refused = absurd refused.1.refused

-- and some front was taken
pub pieces_front : (reader : Reader) (old new : Option (List ℕ)) (before after : ℕ) (refusal : Refusal) → PiecesRefused reader old new before after refusal → TookFront old new
pieces_front reader old new before after InputFault refused = refused.2
pieces_front reader old new before after TextTooLong refused = (refused.1.taken ++ refused.1.more, refused.1.moved)
pieces_front reader old new before after refusal refused = (refused.1.before ++ refused.1.piece, refused.1.moved)

-- a text that was taken to its end
pub text_taken : (undirected : Bool) (after : Reader) (old new : Option (List ℕ)) (taken : List ℕ) → Took (start_of undirected) after old new taken → length taken ≤ MAX_TEXT_BYTES → IsAtEnd new →
    IfSome old (λ bytes. read_text undirected bytes ≡ whole_text (reads_on true after []))
text_taken undirected after old new taken took fits end =
    let P : Option (List ℕ) → Type 0 = λ left. IfSome left (λ bytes. bytes ≡ taken) in
    let all : IfSome old (λ bytes. bytes ≡ taken) = subst P (sym took.moved) (led_to_end taken new end) in
    IfSome_then old all
    (λ bytes e.
    ap (read_text undirected) e ∙ text_whole undirected taken fits ∙ ap whole_text (ap (reads_on true (start_of undirected)) (sym (append-nil taken)) ∙ sym (took.reads true [])))

-- its last line refused
last_refused : (undirected : Bool) (after : Reader) (old new : Option (List ℕ)) (line : ℕ) (refusal : Refusal) (taken : List ℕ) → Took (start_of undirected) after old new taken → length taken ≤ MAX_TEXT_BYTES → IsAtEnd new →
    IsRefused after.number (after.number + 1) line refusal (λ whole rest. reads_on true after []) → RefusesText undirected old new line refusal
last_refused undirected after old new line refusal taken took fits end is = record {
  says = IfSome_then old (text_taken undirected after old new taken took fits end) (λ bytes e. e ∙ ap whole_text (is.answer true []));
  stops = record { before = taken; piece = []; moved = took.moved ∙ ap (λ front. led_by front new) (sym (append-nil taken)); short = omega arith; unended = omega (arith, is.from, took.number); ended = inr end };
}

pub end_refused : (undirected : Bool) (after : Reader) (old new : Option (List ℕ)) (faults later : ℕ) (taken : List ℕ) (refusal : Refusal) → Took (start_of undirected) after old new taken → length taken ≤ MAX_TEXT_BYTES → IsAtEnd new →
    later ≡ faults → Refuses after.number (after.number + 1) (λ whole rest. reads_on true after []) refusal → ReadRefused undirected old new faults later refusal
end_refused undirected after old new faults later taken Memory took fits end kept is = kept
end_refused undirected after old new faults later taken (BadLine line) took fits end kept is = (kept, last_refused undirected after old new line (BadLine line) taken took fits end is)
end_refused undirected after old new faults later taken (IdTooLarge line) took fits end kept is = (kept, last_refused undirected after old new line (IdTooLarge line) taken took fits end is)
end_refused undirected after old new faults later taken (TooManyEdges line) took fits end kept is = (kept, last_refused undirected after old new line (TooManyEdges line) taken took fits end is)
end_refused undirected after old new faults later taken refusal took fits end kept is = absurd is

-- how much was taken, by why the text was refused
pub stops_for : (undirected : Bool) (old new : Option (List ℕ)) (before after : ℕ) (refusal : Refusal) → TookFront old new → ReadRefused undirected old new before after refusal
    → StopsFor old new refusal
stops_for undirected old new before after Memory front why = front
stops_for undirected old new before after InputFault front why = front
stops_for undirected old new before after (BadLine line) front why = why.1.stops
stops_for undirected old new before after (IdTooLarge line) front why = why.1.stops
stops_for undirected old new before after (TooManyEdges line) front why = why.1.stops
stops_for undirected old new before after TextTooLong front why = why.2
stops_for undirected old new before after refusal front why = absurd why
