-- The least bad edge of some edges and of others, and of one list's.
use Rattle.std.proofs.Common.{◌≡◌, ℕ, ◌+◌, ◌*◌, ◌^◌, ◌≤◌, Bool, true, false, Option, None, Some, List, [], ◌∷◌, refl, arith}
use Rattle.std.specs.Prelude.{All, find}
use Rattle.std.proofs.lemmas.Bool.{both_ways}
use Rattle.std.proofs.lemmas.List.Elements.{All-append, All-cons, All-nil, All-weaker, Contains-append_left, Contains-append_right}
use Rattle.fg_base.specs.declared.plain.BadEdge.{BadEdge}
use Rattle.fg_base.specs.declared.plain.Dir.{Dir}
use Rattle.fg_base.specs.declared.plain.Entry.{Entry}
use Rattle.fg_model.specs.Iteration.{is_bad}
use Rattle.fg_model.specs.VertexRun.{edges_from}
use Rattle.fg_task.specs.Least.{IsLeastBad, Joins, rank, side}

-- no bad edge of these comes before that one
abbrev NoneBefore : ℕ → BadEdge → List BadEdge → Type 0
NoneBefore n bad edges = All (λ edge. is_bad n edge ≡ true → rank bad ≤ rank edge) edges

fine-none : (n : ℕ) (bad : BadEdge) (edges : List BadEdge) → All (λ edge. is_bad n edge ≡ false) edges → NoneBefore n bad edges
fine-none n bad edges fine =
    All-weaker (λ edge. is_bad n edge ≡ false) (λ edge. is_bad n edge ≡ true → rank bad ≤ rank edge)
    (λ edge good test. absurd (both_ways (is_bad n edge) good test)) edges fine

none-earlier : (n : ℕ) (first bad : BadEdge) (edges : List BadEdge) → rank first ≤ rank bad → NoneBefore n bad edges → NoneBefore n first edges
none-earlier n first bad edges before =
    All-weaker (λ edge. is_bad n edge ≡ true → rank bad ≤ rank edge) (λ edge. is_bad n edge ≡ true → rank first ≤ rank edge)
    (λ edge least test. let l = least test in omega (arith, l, before)) edges

-- where the one or the other have none, the least of the others is that of them all
pub joins-right : (other : Option BadEdge) → Joins None other other
joins-right None n edges others fine good = All-append (λ edge. is_bad n edge ≡ false) edges others fine good
joins-right (Some bad) n edges others fine least = record {
  bad_itself = least.bad_itself;
  among = Contains-append_right edges others bad least.among;
  least = All-append (λ edge. is_bad n edge ≡ true → rank bad ≤ rank edge) edges others (fine-none n bad edges fine) least.least;
}

pub joins-left : (bad : BadEdge) → Joins (Some bad) None (Some bad)
joins-left bad n edges others least fine = record {
  bad_itself = least.bad_itself;
  among = Contains-append_left edges others bad least.among;
  least = All-append (λ edge. is_bad n edge ≡ true → rank bad ≤ rank edge) edges others least.least (fine-none n bad others fine);
}

-- of two the one that comes before the other
pub joins-first : (first second : BadEdge) → rank first ≤ rank second → Joins (Some first) (Some second) (Some first)
joins-first first second before n edges others one other = record {
  bad_itself = one.bad_itself;
  among = Contains-append_left edges others first one.among;
  least = All-append (λ edge. is_bad n edge ≡ true → rank first ≤ rank edge) edges others one.least
      (none-earlier n first second others before other.least);
}

pub joins-second : (first second : BadEdge) → rank second ≤ rank first → Joins (Some first) (Some second) (Some second)
joins-second first second before n edges others one other = record {
  bad_itself = other.bad_itself;
  among = Contains-append_right edges others second other.among;
  least = All-append (λ edge. is_bad n edge ≡ true → rank second ≤ rank edge) edges others
      (none-earlier n second first edges before one.least) other.least;
}

-- the entries of one list come in the order of their places
abbrev ComeBehind : ℕ → List BadEdge → Type 0
ComeBehind low edges = All (λ (edge : BadEdge). low ≤ rank edge) edges

list-rises : (v : ℕ) (dir : Dir) (place : ℕ) (entries : List Entry) → ComeBehind ((v * 2 + side dir) * 2 ^ 32 + place) (edges_from v dir place entries)
list-rises v dir place [] = All-nil (λ (edge : BadEdge). (v * 2 + side dir) * 2 ^ 32 + place ≤ rank edge)
list-rises v dir place (entry ∷ entries) =
    All-cons (λ (edge : BadEdge). (v * 2 + side dir) * 2 ^ 32 + place ≤ rank edge)
    (record { v = v; dir = dir; place = place; found = entry.target }) (edges_from v dir (place + 1) entries)
    (omega arith)
    (All-weaker (λ (edge : BadEdge). (v * 2 + side dir) * 2 ^ 32 + (place + 1) ≤ rank edge)
    (λ (edge : BadEdge). (v * 2 + side dir) * 2 ^ 32 + place ≤ rank edge)
    (λ edge behind. omega (arith, behind)) (edges_from v dir (place + 1) entries) (list-rises v dir (place + 1) entries))

-- the first bad entry of a list is the least
pub first-is_least : (n v : ℕ) (dir : Dir) (place : ℕ) (entries : List Entry)
    → IsLeastBad n (edges_from v dir place entries) (find (is_bad n) (edges_from v dir place entries))
first-is_least n v dir place [] = All-nil (λ edge. is_bad n edge ≡ false)
first-is_least n v dir place (entry ∷ entries) =
    let edge : BadEdge = record { v = v; dir = dir; place = place; found = entry.target } in
    by_test edge refl (is_bad n edge) refl (first-is_least n v dir (place + 1) entries)
  where
    by_test : (edge : BadEdge) → edge ≡ record { v = v; dir = dir; place = place; found = entry.target } → (test : Bool) → is_bad n edge ≡ test
        → IsLeastBad n (edges_from v dir (place + 1) entries) (find (is_bad n) (edges_from v dir (place + 1) entries))
        → IsLeastBad n (edge ∷ edges_from v dir (place + 1) entries) (find (is_bad n) (edge ∷ edges_from v dir (place + 1) entries))
    by_test edge same true test rest =
        rw test (record {
          bad_itself = test;
          among = (0, omega arith, refl);
          least = All-cons (λ e. is_bad n e ≡ true → rank edge ≤ rank e) edge (edges_from v dir (place + 1) entries) (λ _. omega arith)
              (All-weaker (λ (e : BadEdge). (v * 2 + side dir) * 2 ^ 32 + (place + 1) ≤ rank e) (λ e. is_bad n e ≡ true → rank edge ≤ rank e)
              (λ e behind _. rw same (omega (arith, behind))) (edges_from v dir (place + 1) entries) (list-rises v dir (place + 1) entries));
        })
    by_test edge same false test rest =
        rw test (joins-right (find (is_bad n) (edges_from v dir (place + 1) entries)) n (edge ∷ []) (edges_from v dir (place + 1) entries)
        (All-cons (λ e. is_bad n e ≡ false) edge [] test (All-nil (λ e. is_bad n e ≡ false))) rest)
