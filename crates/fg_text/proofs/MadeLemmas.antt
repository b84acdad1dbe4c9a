-- A reader that takes generated edges reads their lines.
use Rattle.std.proofs.Common.{◌≡◌, ℕ, ◌+◌, ◌<◌, ◌≤◌, ◌^◌, ◌++◌, ◌∷◌, ◌∙◌, not, Bool, true, false, None, Ok, Err, List, [], drop, fold, length, refl, ap, sym, inl, inr, arith}
use Rattle.std.specs.Prelude.{codes, decimal}
use Rattle.std.specs.List.{list_all}
use Rattle.std.proofs.lemmas.Bool.{cases_Bool}
use Rattle.std.proofs.lemmas.List.{append-nil, append_assoc}
use Rattle.std.proofs.lemmas.List.Elements.{All-append, All-weaker}
use Rattle.std.proofs.lemmas.List.Sums.{AllPass-from_list_all}
use Rattle.std.proofs.lemmas.Fmt.{digits_decimal}
use Rattle.fg_base.specs.declared.limits.TheConstants.{MAX_ENTRIES, MAX_VERTICES}
use Rattle.fg_base.specs.declared.refusal.Refusal.{Refusal}
use Rattle.fg_base.specs.declared.refusal.Refusal.TheVariants.{Memory, BadLine, IdTooLarge, TooManyEdges}
use Rattle.fg_text.specs.declared.line.Line.TheVariants.{Start, Comment}
use Rattle.fg_text.specs.declared.reader.Reader.{Reader}
use Rattle.fg_text.specs.declared.verdict.Edge.{Edge}
use Rattle.fg_text.specs.Gathered.{pairs_of, with_edges}
use Rattle.fg_text.specs.Generator.{edge_line, edges_text, generated_text, head_line, opening_state}
use Rattle.fg_text.specs.Line.{line_after, verdict_of}
use Rattle.fg_text.specs.Made.{EdgesRefused, MadeRefused}
use Rattle.fg_text.specs.Reader.{AreWithinLine, HasNoRoom, Refuses, reads_on}
use Rattle.fg_text.specs.Text.{is_line_end, read_text, whole_text}
use Rattle.fg_text.proofs.EdgeLineLemmas.{all_digits, decimals, digits_within, edge_body, edge_line_read, edge_verdict}
use Rattle.fg_text.proofs.GeneratorLemmas.{generated_short, text_parts}
use Rattle.fg_text.proofs.ReaderLemmas.{reads_edge, reads_last, reads_none, reads_skipped, reads_within, start_of, text_whole}
use Rattle.fg_text.proofs.RefusedLemmas.{full_line}

-- the reader once it took an edge
abbrev pub with_edge : Reader → Edge → Reader
with_edge reader edge = record reader { number = reader.number + 1; line = Start; gathered = with_edges reader.undirected reader.gathered (edge ∷ []) }

-- an edge that is taken is its line read
pub taken_line : (whole : Bool) (reader new : Reader) (edge : Edge) (rest : List ℕ) → reader.line ≡ Start → edge.weight ≡ None → edge.source < MAX_VERTICES → edge.target < MAX_VERTICES →
    length reader.gathered.pairs + length (pairs_of reader.undirected edge) ≤ MAX_ENTRIES → new ≡ with_edge reader edge → reads_on whole new rest ≡ reads_on whole reader (edge_line edge ++ rest)
taken_line whole reader new edge rest start plain source target room is =
    let at = record reader { line = fold line_after reader.line (edge_body edge) } in
    ap (λ new. reads_on whole new rest) is ∙ reads_edge whole at rest edge (edge_verdict reader edge start plain source target) room ∙ edge_line_read whole reader edge rest source target

-- an edge for which there is no room is its line refused
pub refused_line : (reader : Reader) (edge : Edge) (refusal : Refusal) (behind : List ℕ) → reader.line ≡ Start → edge.weight ≡ None → edge.source < MAX_VERTICES → edge.target < MAX_VERTICES →
    HasNoRoom reader.number (length reader.gathered.pairs + length (pairs_of reader.undirected edge)) refusal → EdgesRefused reader (edge_line edge ++ behind) refusal
refused_line reader edge Memory behind start plain source target full = tt
refused_line reader edge (TooManyEdges line) behind start plain source target full = λ whole rest.
    let at = record reader { line = fold line_after reader.line (edge_body edge) } in
    let refused = full_line at edge (TooManyEdges line) (edge_verdict reader edge start plain source target) full in
    ap (reads_on whole reader) (append_assoc (edge_line edge) behind rest) ∙ sym (edge_line_read whole reader edge (behind ++ rest) source target) ∙ refused.answer whole (behind ++ rest)
refused_line reader edge refusal behind start plain source target full = absurd full

-- a refusal of later lines, seen from further back
pub refused_behind : (reader between : Reader) (text front : List ℕ) (behind : List ℕ) (refusal : Refusal) → text ≡ front ++ behind →
    ((whole : Bool) (rest : List ℕ) → reads_on whole between rest ≡ reads_on whole reader (front ++ rest)) → EdgesRefused between behind refusal → EdgesRefused reader text refusal
refused_behind reader between text front behind Memory is reads refused = tt
refused_behind reader between text front behind (TooManyEdges line) is reads refused = λ whole rest.
    ap (λ text. reads_on whole reader (text ++ rest)) is ∙ ap (reads_on whole reader) (append_assoc front behind rest) ∙ sym (reads whole (behind ++ rest)) ∙ refused whole rest
refused_behind reader between text front behind refusal is reads refused = absurd refused

-- the first line is a comment
comment_stays : (bytes : List ℕ) → fold line_after Comment bytes ≡ Comment
comment_stays [] = refl
comment_stays (byte ∷ bytes) = comment_stays bytes

abbrev head_body : ℕ → ℕ → ℕ → List ℕ
head_body start nodes edges = codes "# gen " ++ decimal start ++ codes " " ++ decimal nodes ++ codes " " ++ decimal edges

head_comment : (start nodes edges : ℕ) → fold line_after Start (head_body start nodes edges) ≡ Comment
head_comment start nodes edges = comment_stays (drop 1 (head_body start nodes edges))

not_end : (byte : ℕ) → not (is_line_end byte) ≡ true → is_line_end byte ≡ false
not_end byte other = elim (cases_Bool (is_line_end byte)) [ inl end ↦ absurd (cc (other, ap not end)) | inr inside ↦ inside ]

letters_within : (bytes : List ℕ) → list_all (λ byte. not (is_line_end byte)) bytes ≡ true → AreWithinLine bytes
letters_within bytes all = All-weaker (λ byte. not (is_line_end byte) ≡ true) (λ byte. is_line_end byte ≡ false) not_end bytes (AllPass-from_list_all (λ byte. not (is_line_end byte)) bytes all)

head_within : (start nodes edges : ℕ) → start < 2 ^ 64 → nodes < 2 ^ 64 → edges < 2 ^ 64 → AreWithinLine (head_body start nodes edges)
head_within start nodes edges fits fits' fits'' =
    let P : ℕ → Type 0 = λ byte. is_line_end byte ≡ false in
    let gap = letters_within (codes " ") refl in
    let a = codes "# gen " in
    let number : (n : ℕ) → n < 2 ^ 64 → AreWithinLine (decimal n) = λ n fits. digits_within (decimal n) (all_digits (decimal n) (digits_decimal decimals n fits)) in
    All-append P (a ++ decimal start ++ codes " " ++ decimal nodes ++ codes " ") (decimal edges)
    (All-append P (a ++ decimal start ++ codes " " ++ decimal nodes) (codes " ")
    (All-append P (a ++ decimal start ++ codes " ") (decimal nodes)
    (All-append P (a ++ decimal start) (codes " ")
    (All-append P a (decimal start) (letters_within a refl) (number start fits)) gap) (number nodes fits')) gap) (number edges fits'')

-- a reader behind the first line
abbrev pub behind_head : Bool → Reader
behind_head undirected = record (start_of undirected) { number = 1 + 1; line = Start }

pub head_read : (whole : Bool) (undirected : Bool) (start nodes edges : ℕ) (rest : List ℕ) → start < 2 ^ 64 → nodes < 2 ^ 64 → edges < 2 ^ 64 →
    reads_on whole (behind_head undirected) rest ≡ reads_on whole (start_of undirected) (head_line start nodes edges ++ rest)
head_read whole undirected start nodes edges rest fits fits' fits'' =
    let body = head_body start nodes edges in
    let at = record (start_of undirected) { line = fold line_after Start body } in
    reads_skipped whole at rest (sym (ap verdict_of (head_comment start nodes edges)))
    ∙ reads_within whole (start_of undirected) body (10 ∷ rest) (head_within start nodes edges fits fits' fits'')
    ∙ ap (reads_on whole (start_of undirected)) (sym (append_assoc body (10 ∷ []) rest))

-- a reader behind all lines read the text
pub made_read : (undirected : Bool) (start nodes edges : ℕ) (after : Reader) → start < 2 ^ 64 → 0 < nodes → nodes ≤ MAX_VERTICES → edges ≤ MAX_ENTRIES →
    ((whole : Bool) (rest : List ℕ) → reads_on whole after rest ≡ reads_on whole (behind_head undirected) (edges_text nodes edges (opening_state start) ++ rest)) →
    read_text undirected (generated_text start nodes edges) ≡ whole_text (reads_on true after [])
made_read undirected start nodes edges after fits some few few' reads =
    let text = generated_text start nodes edges in
    let lines = edges_text nodes edges (opening_state start) in
    text_whole undirected text (generated_short start nodes edges fits some few few')
    ∙ ap whole_text
    (ap (reads_on true (start_of undirected)) (text_parts start nodes edges)
    ∙ sym (head_read true undirected start nodes edges lines fits (omega arith) (omega arith))
    ∙ ap (reads_on true (behind_head undirected)) (sym (append-nil lines)) ∙ sym (reads true []))

-- a reader that took no more of the lines
pub made_refused : (undirected : Bool) (start nodes edges : ℕ) (refusal : Refusal) → start < 2 ^ 64 → 0 < nodes → nodes ≤ MAX_VERTICES → edges ≤ MAX_ENTRIES →
    EdgesRefused (behind_head undirected) (edges_text nodes edges (opening_state start)) refusal → MadeRefused undirected (generated_text start nodes edges) refusal
made_refused undirected start nodes edges Memory fits some few few' refused = tt
made_refused undirected start nodes edges (TooManyEdges line) fits some few few' refused =
    let text = generated_text start nodes edges in
    let lines = edges_text nodes edges (opening_state start) in
    text_whole undirected text (generated_short start nodes edges fits some few few')
    ∙ ap whole_text
    (ap (reads_on true (start_of undirected)) (text_parts start nodes edges)
    ∙ sym (head_read true undirected start nodes edges lines fits (omega arith) (omega arith))
    ∙ ap (reads_on true (behind_head undirected)) (sym (append-nil lines)) ∙ refused true [])
made_refused undirected start nodes edges refusal fits some few few' refused = absurd refused

-- at the beginning of a line nothing is refused
start_ends : (reader : Reader) → reader.line ≡ Start → reads_on true reader [] ≡ Ok reader.gathered
start_ends reader start = reads_last reader ∙ sym (reads_skipped false reader [] (sym (ap verdict_of start))) ∙ reads_none (record reader { number = reader.number + 1; line = Start })

not_refused : (reader : Reader) (refusal : Refusal) → reader.line ≡ Start → reads_on true reader [] ≡ Err refusal → ⊥
not_refused reader refusal start refused = let e = start_ends reader start in cc (e, refused)

pub end_unrefused : (undirected : Bool) (text : List ℕ) (reader : Reader) (refusal : Refusal) → reader.line ≡ Start → Refuses reader.number (reader.number + 1) (λ whole rest. reads_on true reader []) refusal → MadeRefused undirected text refusal
end_unrefused undirected text reader Memory start is = tt
end_unrefused undirected text reader (BadLine line) start is = absurd (not_refused reader (BadLine line) start (is.answer true []))
end_unrefused undirected text reader (IdTooLarge line) start is = absurd (not_refused reader (IdTooLarge line) start (is.answer true []))
end_unrefused undirected text reader (TooManyEdges line) start is = absurd (not_refused reader (TooManyEdges line) start (is.answer true []))
end_unrefused undirected text reader refusal start is = absurd is
