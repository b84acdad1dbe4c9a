-- Where reading is refused, and at which line.
use Rattle.std.proofs.Common.{◌≡◌, ℕ, ◌+◌, ◌≤◌, ◌∷◌, ◌∙◌, ltb, Bool, true, false, Result, Ok, Err, Some, List, [], OnOk, length, ap, sym, arith}
use Rattle.std.proofs.lemmas.Bool.{lt-ltb}
use Rattle.fg_base.specs.declared.limits.TheConstants.{MAX_ENTRIES}
use Rattle.fg_base.specs.declared.refusal.Refusal.{Refusal}
use Rattle.fg_base.specs.declared.refusal.Refusal.TheVariants.{Memory, BadLine, IdTooLarge, TooManyEdges}
use Rattle.fg_model.specs.Edges.{EdgeList}
use Rattle.fg_text.specs.declared.line.Line.TheVariants.{Start}
use Rattle.fg_text.specs.declared.reader.Reader.{Reader}
use Rattle.fg_text.specs.declared.verdict.Edge.{Edge}
use Rattle.fg_text.specs.declared.verdict.Verdict.TheVariants.{Broken, TooLarge, Gives}
use Rattle.fg_text.specs.Gathered.{pairs_of, with_edges}
use Rattle.fg_text.specs.Line.{verdict_of}
use Rattle.fg_text.specs.Reader.{HasNoRoom, Refuses, reads_on}
use Rattle.fg_text.specs.Text.{count_with, refusal_of}
use Rattle.fg_text.proofs.ReaderLemmas.{reads_edge, reads_last, reads_refused}

-- what reading comes to at a line's end
abbrev pub at_end : Reader → Bool → List ℕ → Result EdgeList Refusal
at_end reader whole rest = reads_on whole reader (10 ∷ rest)

abbrev count_at : Reader → Edge → ℕ
count_at reader edge = length reader.gathered.pairs + length (pairs_of reader.undirected edge)

pub broken_line : (reader : Reader) → Broken ≡ verdict_of reader.line → Refuses reader.number (reader.number + 1) (at_end reader) (BadLine reader.number)
broken_line reader is = record {
  from = omega arith;
  before = omega arith;
  answer = λ whole rest. reads_refused whole reader rest (BadLine reader.number) (ap (λ verdict. refusal_of reader.number (count_with reader.undirected (length reader.gathered.pairs) verdict) verdict) (sym is));
}

pub large_line : (reader : Reader) → TooLarge ≡ verdict_of reader.line → Refuses reader.number (reader.number + 1) (at_end reader) (IdTooLarge reader.number)
large_line reader is = record {
  from = omega arith;
  before = omega arith;
  answer = λ whole rest. reads_refused whole reader rest (IdTooLarge reader.number) (ap (λ verdict. refusal_of reader.number (count_with reader.undirected (length reader.gathered.pairs) verdict) verdict) (sym is));
}

-- an edge that was taken
pub taken_edge : (reader new : Reader) (edge : Edge) (result : Result (Unit {0}) Refusal) → Gives edge ≡ verdict_of reader.line →
    OnOk result (new ≡ record reader { number = reader.number + 1; line = Start; gathered = with_edges reader.undirected reader.gathered (edge ∷ []) }) → OnOk result (count_at reader edge ≤ MAX_ENTRIES) →
    OnOk result ((whole : Bool) (rest : List ℕ) → reads_on whole new rest ≡ at_end reader whole rest)
taken_edge reader new edge (Ok done) is e room = λ whole rest. ap (λ new. reads_on whole new rest) e ∙ reads_edge whole reader rest edge is room
taken_edge reader new edge (Err refusal) is e room = tt

-- an edge for which there is no room
pub full_line : (reader : Reader) (edge : Edge) (refusal : Refusal) → Gives edge ≡ verdict_of reader.line → HasNoRoom reader.number (count_at reader edge) refusal → Refuses reader.number (reader.number + 1) (at_end reader) refusal
full_line reader edge Memory is full = tt
full_line reader edge (TooManyEdges line) is full =
    let over : ltb MAX_ENTRIES (count_at reader edge) ≡ true = lt-ltb MAX_ENTRIES (count_at reader edge) full.1 in
    let found : refusal_of reader.number (count_at reader edge) (Gives edge) ≡ Some (TooManyEdges line) = rw over (ap (λ number. Some (TooManyEdges number)) (sym full.0)) in
    record {
      from = omega (arith, full.0);
      before = omega (arith, full.0);
      answer = λ whole rest. reads_refused whole reader rest (TooManyEdges line) (ap (λ verdict. refusal_of reader.number (count_with reader.undirected (length reader.gathered.pairs) verdict) verdict) (sym is) ∙ found);
    }
full_line reader edge refusal is full = absurd full

-- a refusal of a later stretch, seen from further back
pub refuses_from : (first end before behind : ℕ) (one other : Bool → List ℕ → Result EdgeList Refusal) (refusal : Refusal) → before ≤ first → end ≤ behind →
    ((whole : Bool) (rest : List ℕ) → one whole rest ≡ other whole rest) → Refuses first end one refusal → Refuses before behind other refusal
refuses_from first end before behind one other Memory le le' same is = tt
refuses_from first end before behind one other (BadLine line) le le' same is =
    record { from = omega (arith, is.from); before = omega (arith, is.before); answer = λ whole rest. sym (same whole rest) ∙ is.answer whole rest }
refuses_from first end before behind one other (IdTooLarge line) le le' same is =
    record { from = omega (arith, is.from); before = omega (arith, is.before); answer = λ whole rest. sym (same whole rest) ∙ is.answer whole rest }
refuses_from first end before behind one other (TooManyEdges line) le le' same is =
    record { from = omega (arith, is.from); before = omega (arith, is.before); answer = λ whole rest. sym (same whole rest) ∙ is.answer whole rest }
refuses_from first end before behind one other refusal le le' same is = absurd is

-- a refusal at the end of a text
pub refuses_last : (reader : Reader) (refusal : Refusal) → Refuses reader.number (reader.number + 1) (at_end reader) refusal →
    Refuses reader.number (reader.number + 1) (λ whole rest. reads_on true reader []) refusal
refuses_last reader Memory is = tt
refuses_last reader (BadLine line) is = record { from = is.from; before = is.before; answer = λ whole rest. reads_last reader ∙ is.answer false [] }
refuses_last reader (IdTooLarge line) is = record { from = is.from; before = is.before; answer = λ whole rest. reads_last reader ∙ is.answer false [] }
refuses_last reader (TooManyEdges line) is = record { from = is.from; before = is.before; answer = λ whole rest. reads_last reader ∙ is.answer false [] }
refuses_last reader refusal is = absurd is
