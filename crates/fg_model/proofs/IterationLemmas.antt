-- How mail is folded: message by message, list by list; and the first bad edge of lists put together.
use Rattle.std.proofs.Common.{◌≡◌, ◌≢◌, ℕ, zero, suc, ◌+◌, ◌<◌, ◌≤◌, Bool, true, false, None, Some, List, [], ◌∷◌, ◌++◌, length, map, get_or, drop, refl, ap, ◌∙◌, arith}
use Rattle.std.specs.Prelude.{◌==◌, filter, find, fold}
use Rattle.std.specs.List.{enumerate_from}
use Rattle.std.proofs.Math.ListN.{set}
use Rattle.std.proofs.lemmas.Bool.Decides.{nat_tests}
use Rattle.std.proofs.lemmas.List.{at_drop_more, get_or_read, length-append, length-map, map-append}
use Rattle.std.proofs.lemmas.List.Elements.{filter-append}
use Rattle.std.proofs.lemmas.List.Folds.{find-append}
use Rattle.std.proofs.lemmas.List.FromFn.{length-enumerate_from}
use Rattle.std.proofs.lemmas.List.Sums.{fold-append}
use Rattle.fg_base.specs.declared.plain.BadEdge.{BadEdge}
use Rattle.fg_base.specs.declared.plain.Dir.{Dir}
use Rattle.fg_base.specs.declared.plain.Entry.{Entry}
use Rattle.fg_base.specs.declared.plain.VState.{VState}
use Rattle.fg_base.specs.declared.plain.Need.{Need}
use Rattle.fg_model.specs.declared.graph.Graph.{Graph}
use Rattle.fg_model.specs.declared.plain.Active.{Active}
use Rattle.fg_model.specs.declared.mail.Mail.{Mail}
use Rattle.fg_model.specs.Graph.{row}
use Rattle.fg_model.specs.Iteration.{folded, is_bad, sent_to, state_at}
use Rattle.fg_model.specs.Program.{Rules}
use Rattle.fg_model.specs.VertexRun.{edges_from, edges_of, message_along}
use Rattle.fg_model.specs.Plain.{sent_from}

-- `folded` of the states from the vertex k on
abbrev pub folded_from : ℕ → Rules → List Mail → List VState → List VState
folded_from k P messages states = map (λ (v, s). fold P.receive s (sent_to v messages)) (enumerate_from k states)

test_same : (x y : ℕ) → x ≡ y → (x == y) ≡ true
test_same x y is = grind (arith, nat_tests)

test_other : (x y : ℕ) → x ≢ y → (x == y) ≡ false
test_other x y is = grind (arith, nat_tests)

sent_to-same : (v : ℕ) (message : Mail) (messages : List Mail) → message.target ≡ v → sent_to v (message ∷ messages) ≡ message.message ∷ sent_to v messages
sent_to-same v message messages is = rw (test_same message.target v is) refl

sent_to-other : (v : ℕ) (message : Mail) (messages : List Mail) → message.target ≢ v → sent_to v (message ∷ messages) ≡ sent_to v messages
sent_to-other v message messages is = rw (test_other message.target v is) refl

sent_to-append : (v : ℕ) (first next : List Mail) → sent_to v (first ++ next) ≡ sent_to v first ++ sent_to v next
sent_to-append v first next =
    ap (map (λ (message : Mail). message.message)) (filter-append (λ (message : Mail). message.target == v) first next)
    ∙ map-append (λ (message : Mail). message.message) (filter (λ (message : Mail). message.target == v) first) (filter (λ (message : Mail). message.target == v) next)

from-nil : (k : ℕ) (P : Rules) (states : List VState) → folded_from k P [] states ≡ states
from-nil k P [] = refl
from-nil k P (s ∷ states) = ap (λ (rest : List VState). s ∷ rest) (from-nil (k + 1) P states)

from-past : (k : ℕ) (P : Rules) (message : Mail) (messages : List Mail) (states : List VState) → message.target < k → folded_from k P (message ∷ messages) states ≡ folded_from k P messages states
from-past k P message messages [] past = refl
from-past k P message messages (s ∷ states) past =
    ap (λ (xs : List ℕ). fold P.receive s xs ∷ folded_from (k + 1) P (message ∷ messages) states) (sent_to-other k message messages (λ is. omega arith))
    ∙ ap (λ (rest : List VState). fold P.receive s (sent_to k messages) ∷ rest) (from-past (k + 1) P message messages states (omega arith))

from-cons : (k j : ℕ) (P : Rules) (message : Mail) (messages : List Mail) (states : List VState) → message.target ≡ k + j → j < length states
    → folded_from k P (message ∷ messages) states ≡ folded_from k P messages (set states j (P.receive (state_at states j) message.message))
from-cons k j P message messages [] is below = absurd (omega arith)
from-cons k zero P message messages (s ∷ states) is below =
    ap (λ (xs : List ℕ). fold P.receive s xs ∷ folded_from (k + 1) P (message ∷ messages) states) (sent_to-same k message messages (omega arith))
    ∙ ap (λ (rest : List VState). fold P.receive (P.receive s message.message) (sent_to k messages) ∷ rest) (from-past (k + 1) P message messages states (omega arith))
from-cons k (suc j) P message messages (s ∷ states) is below =
    ap (λ (xs : List ℕ). fold P.receive s xs ∷ folded_from (k + 1) P (message ∷ messages) states) (sent_to-other k message messages (λ same. omega arith))
    ∙ ap (λ (rest : List VState). fold P.receive s (sent_to k messages) ∷ rest) (from-cons (k + 1) j P message messages states (omega arith) (omega arith))

from-append : (k : ℕ) (P : Rules) (first next : List Mail) (states : List VState) → folded_from k P (first ++ next) states ≡ folded_from k P next (folded_from k P first states)
from-append k P first next [] = refl
from-append k P first next (s ∷ states) =
    ap (λ (xs : List ℕ). fold P.receive s xs ∷ folded_from (k + 1) P (first ++ next) states) (sent_to-append k first next)
    ∙ ap (λ (s' : VState). s' ∷ folded_from (k + 1) P (first ++ next) states) (fold-append P.receive s (sent_to k first) (sent_to k next))
    ∙ ap (λ (rest : List VState). fold P.receive (fold P.receive s (sent_to k first)) (sent_to k next) ∷ rest) (from-append (k + 1) P first next states)

-- no mail changes nothing
pub folded-nil : (P : Rules) (states : List VState) → folded P [] states ≡ states
unfolding folded
folded-nil P states = from-nil 0 P states

-- the first message can be folded in by itself
pub folded-cons : (P : Rules) (message : Mail) (messages : List Mail) (states : List VState) → message.target < length states
    → folded P (message ∷ messages) states ≡ folded P messages (set states message.target (P.receive (state_at states message.target) message.message))
unfolding folded
folded-cons P message messages states below = from-cons 0 message.target P message messages states (omega arith) below

-- mail can be folded part by part
pub folded-append : (P : Rules) (first next : List Mail) (states : List VState) → folded P (first ++ next) states ≡ folded P next (folded P first states)
unfolding folded
folded-append P first next states = from-append 0 P first next states

pub length-folded : (P : Rules) (messages : List Mail) (states : List VState) → length (folded P messages states) ≡ length states
unfolding folded
length-folded P messages states = length-map (enumerate_from 0 states) (λ (v, s). fold P.receive s (sent_to v messages)) ∙ length-enumerate_from 0 states

-- a message along each entry, and each entry's place
pub length-edges_from : (v : ℕ) (dir : Dir) (place : ℕ) (entries : List Entry) → length (edges_from v dir place entries) ≡ length entries
length-edges_from v dir place [] = refl
length-edges_from v dir place (entry ∷ entries) = ap suc (length-edges_from v dir (place + 1) entries)

pub find-good : {X : Type 0} (test : X → Bool) (x : X) (xs : List X) → test x ≡ false → find test (x ∷ xs) ≡ find test xs
find-good test x xs is = rw is refl

pub find-bad : {X : Type 0} (test : X → Bool) (x : X) (xs : List X) → test x ≡ true → find test (x ∷ xs) ≡ Some x
find-bad test x xs is = rw is refl

pub is_good : (n : ℕ) (edge : BadEdge) → edge.found < n → is_bad n edge ≡ false
is_good n edge below = grind (arith, nat_tests)

pub is_bad-past : (n : ℕ) (edge : BadEdge) → n ≤ edge.found → is_bad n edge ≡ true
is_bad-past n edge past = grind (arith, nat_tests)

-- where the first part has no bad edge the first bad one is that of the rest
pub find-skip : {X : Type 0} (test : X → Bool) (first next : List X) → find test first ≡ None → find test (first ++ next) ≡ find test next
find-skip test first next none = find-append test first next ∙ (rw none refl)

pub find-front : {X : Type 0} (test : X → Bool) (first next : List X) (x : X) → find test first ≡ Some x → find test (first ++ next) ≡ Some x
find-front test first next x some = find-append test first next ∙ (rw some refl)

-- one entry of a list: where it is bad it is the first, where it is good the rest decides, and its message is folded in
abbrev pub entry_at : List Entry → ℕ → Entry
entry_at entries place = get_or entries place (record { target = 0; weight = 0 })

pub entry_bad : (n v : ℕ) (dir : Dir) (place : ℕ) (entries : List Entry) → place < length entries → n ≤ (entry_at entries place).target
    → find (is_bad n) (edges_from v dir place (drop place entries)) ≡ Some (record { v = v; dir = dir; place = place; found = (entry_at entries place).target })
entry_bad n v dir place entries below past =
    let edge : BadEdge = record { v = v; dir = dir; place = place; found = (entry_at entries place).target } in
    at_drop_more (λ (rest : List Entry). find (is_bad n) (edges_from v dir place rest)) entries place (record { target = 0; weight = 0 }) below
    ∙ find-bad (is_bad n) edge (edges_from v dir (place + 1) (drop (place + 1) entries)) (is_bad-past n edge past)

pub entry_good : (n v : ℕ) (dir : Dir) (place : ℕ) (entries : List Entry) → place < length entries → (entry_at entries place).target < n
    → find (is_bad n) (edges_from v dir place (drop place entries)) ≡ find (is_bad n) (edges_from v dir (place + 1) (drop (place + 1) entries))
entry_good n v dir place entries below good =
    let edge : BadEdge = record { v = v; dir = dir; place = place; found = (entry_at entries place).target } in
    at_drop_more (λ (rest : List Entry). find (is_bad n) (edges_from v dir place rest)) entries place (record { target = 0; weight = 0 }) below
    ∙ find-good (is_bad n) edge (edges_from v dir (place + 1) (drop (place + 1) entries)) (is_good n edge good)

pub entry_folded : (P : Rules) (carry : ℕ) (dir : Dir) (place : ℕ) (entries : List Entry) (states : List VState) → place < length entries → (entry_at entries place).target < length states
    → folded P (map (message_along P carry dir) (drop place entries)) states
    ≡ folded P (map (message_along P carry dir) (drop (place + 1) entries)) (set states (entry_at entries place).target (P.receive (state_at states (entry_at entries place).target) (P.edge carry dir (entry_at entries place))))
entry_folded P carry dir place entries states below good =
    at_drop_more (λ (rest : List Entry). folded P (map (message_along P carry dir) rest) states) entries place (record { target = 0; weight = 0 }) below
    ∙ folded-cons P (message_along P carry dir (entry_at entries place)) (map (message_along P carry dir) (drop (place + 1) entries)) states good

-- a list of the graph, as the code reads it
pub row_read : (rows read : List (List Entry)) (v : ℕ) (found entries : List Entry) → v < length rows → read ≡ rows → found ≡ get_or read v found → entries ≡ found → entries ≡ row rows v
row_read rows read v found entries below is_rows is_found is_entries =
    is_entries ∙ get_or_read rows v found below (is_found ∙ ap (λ (xs : List (List Entry)). get_or xs v found) is_rows) []

-- the needed entries, by need
pub edges_of-out : (need : Need) (graph : Graph) (v : ℕ) (outs : List Entry) → need ≡ Need.Out → outs ≡ row graph.outs v → edges_of need graph v ≡ edges_from v Dir.Out 0 outs
edges_of-out need graph v outs is is_outs = rw (is, is_outs) refl

pub edges_of-in : (need : Need) (graph : Graph) (v : ℕ) (ins : List Entry) → need ≡ Need.In → ins ≡ row graph.ins v → edges_of need graph v ≡ edges_from v Dir.In 0 ins
edges_of-in need graph v ins is is_ins = rw (is, is_ins) refl

pub edges_of-both : (need : Need) (graph : Graph) (v : ℕ) (outs ins : List Entry) → need ≡ Need.Both → outs ≡ row graph.outs v → ins ≡ row graph.ins v → edges_of need graph v ≡ edges_from v Dir.Out 0 outs ++ edges_from v Dir.In 0 ins
edges_of-both need graph v outs ins is is_outs is_ins = rw (is, is_outs, is_ins) refl

pub length-out : (need : Need) (graph : Graph) (v : ℕ) (outs : List Entry) → need ≡ Need.Out → outs ≡ row graph.outs v → length (edges_of need graph v) ≡ length outs
length-out need graph v outs is is_outs = ap (λ (xs : List BadEdge). length xs) (edges_of-out need graph v outs is is_outs) ∙ length-edges_from v Dir.Out 0 outs

pub length-in : (need : Need) (graph : Graph) (v : ℕ) (ins : List Entry) → need ≡ Need.In → ins ≡ row graph.ins v → length (edges_of need graph v) ≡ length ins
length-in need graph v ins is is_ins = ap (λ (xs : List BadEdge). length xs) (edges_of-in need graph v ins is is_ins) ∙ length-edges_from v Dir.In 0 ins

pub length-both : (need : Need) (graph : Graph) (v : ℕ) (outs ins : List Entry) → need ≡ Need.Both → outs ≡ row graph.outs v → ins ≡ row graph.ins v → length (edges_of need graph v) ≡ length outs + length ins
length-both need graph v outs ins is is_outs is_ins =
    ap (λ (xs : List BadEdge). length xs) (edges_of-both need graph v outs ins is is_outs is_ins) ∙ length-append (edges_from v Dir.Out 0 outs) (edges_from v Dir.In 0 ins)
    ∙ ap (λ (n : ℕ). n + length (edges_from v Dir.In 0 ins)) (length-edges_from v Dir.Out 0 outs) ∙ ap (λ (n : ℕ). length outs + n) (length-edges_from v Dir.In 0 ins)

pub sent-both : (P : Rules) (need : Need) (graph : Graph) (from : Active) (outs ins : List Entry) → need ≡ Need.Both → outs ≡ row graph.outs from.v → ins ≡ row graph.ins from.v
    → sent_from P need graph from ≡ map (message_along P from.carry Dir.Out) outs ++ map (message_along P from.carry Dir.In) ins
sent-both P need graph from outs ins is is_outs is_ins = rw (is, is_outs, is_ins) refl
