-- Where no needed entry is bad, each message goes to a vertex.
use Rattle.std.proofs.Common.{◌≡◌, ℕ, ◌+◌, Bool, true, false, cond, Option, None, Some, List, [], ◌∷◌, ◌++◌, map as each, length, refl, ap, ap₂, subst, sym, ◌∙◌, arith}
use Rattle.std.proofs.lemmas.List.{map-append}
use Rattle.std.specs.Prelude.{filter, find, nat_le, not}
use Rattle.std.specs.List.{flat_map}
use Rattle.fg_base.specs.declared.plain.BadEdge.{BadEdge}
use Rattle.fg_base.specs.declared.plain.Dir.{Dir}
use Rattle.fg_base.specs.declared.plain.Entry.{Entry}
use Rattle.fg_base.specs.declared.plain.Need.{Need}
use Rattle.fg_base.specs.declared.plain.VState.{VState}
use Rattle.fg_model.specs.declared.graph.Graph.{Graph}
use Rattle.fg_model.specs.declared.mail.Mail.{Mail}
use Rattle.fg_model.specs.Graph.{row}
use Rattle.fg_model.specs.Iteration.{is_bad, state_at}
use Rattle.fg_model.specs.Program.{Rules}
use Rattle.fg_model.specs.VertexRun.{edges_from, edges_of, message_along, over_lists, ran}
use Rattle.fg_task.specs.Block.{goes_to_one}

-- where messages go, and where entries lead
abbrev targets : List Mail → List ℕ
targets mail = each (λ (one : Mail). one.target) mail

abbrev ends : List BadEdge → List ℕ
ends edges = each (λ (edge : BadEdge). edge.found) edges

targets-append : (first next : List Mail) → targets (first ++ next) ≡ targets first ++ targets next
targets-append first next = map-append (λ (one : Mail). one.target) first next

ends-append : (first next : List BadEdge) → ends (first ++ next) ≡ ends first ++ ends next
ends-append first next = map-append (λ (edge : BadEdge). edge.found) first next

-- a message goes where its entry leads
along-list : (P : Rules) (carry v : ℕ) (dir : Dir) (place : ℕ) (entries : List Entry)
    → targets (each (message_along P carry dir) entries) ≡ ends (edges_from v dir place entries)
along-list P carry v dir place [] = refl
along-list P carry v dir place (entry ∷ entries) = ap (λ (l : List ℕ). entry.target ∷ l) (along-list P carry v dir (place + 1) entries)

along-lists : (P : Rules) (graph : Graph) (carry v : ℕ) (need : Need)
    → targets (over_lists need graph v (λ dir entries. each (message_along P carry dir) entries)) ≡ ends (edges_of need graph v)
along-lists P graph carry v Need.Out = along-list P carry v Dir.Out 0 (row graph.outs v)
along-lists P graph carry v Need.In = along-list P carry v Dir.In 0 (row graph.ins v)
along-lists P graph carry v Need.Both =
    let outs = row graph.outs v in
    let ins = row graph.ins v in
    targets-append (each (message_along P carry Dir.Out) outs) (each (message_along P carry Dir.In) ins)
    ∙ ap₂ (λ (first next : List ℕ). first ++ next) (along-list P carry v Dir.Out 0 outs) (along-list P carry v Dir.In 0 ins)
    ∙ sym (ends-append (edges_from v Dir.Out 0 outs) (edges_from v Dir.In 0 ins))

module _ (P : Rules) (graph : Graph) (phase : ℕ) (states : List VState) where
  abbrev sends : ℕ → List Mail
  sends v = (ran P graph phase v (state_at states v)).messages

  along-all : (vertices : List ℕ) → targets (flat_map sends vertices) ≡ ends (flat_map (edges_of P.need graph) vertices)
  along-all [] = refl
  along-all (v ∷ vertices) =
      targets-append (sends v) (flat_map sends vertices)
      ∙ ap₂ (λ (first next : List ℕ). first ++ next) (along-lists P graph (P.begin phase v (state_at states v)).1 v P.need) (along-all vertices)
      ∙ sym (ends-append (edges_of P.need graph v) (flat_map (edges_of P.need graph) vertices))

abbrev IsThere : {X : Type 0} → Option X → Type 0
IsThere None = ⊥
IsThere (Some x) = Unit {0}

abbrev behind : List ℕ → List ℕ
behind [] = []
behind (x ∷ xs) = xs

abbrev first_of : List ℕ → ℕ
first_of [] = 0
first_of (x ∷ xs) = x

-- messages go to vertices, where they go where entries lead that aren't bad
all_go : (n : ℕ) (mail : List Mail) (edges : List BadEdge) → targets mail ≡ ends edges → find (is_bad n) edges ≡ None → filter (goes_to_one n) mail ≡ mail
all_go n [] edges same none = refl
all_go n (one ∷ mail) [] same none = let more = ap (λ (l : List ℕ). length l) same in absurd (omega (arith, more))
all_go n (one ∷ mail) (edge ∷ edges) same none = by_test (is_bad n edge) refl (λ rest. all_go n mail edges (ap behind same) rest) none
  where
    by_test : (b : Bool) → is_bad n edge ≡ b → (find (is_bad n) edges ≡ None → filter (goes_to_one n) mail ≡ mail)
        → cond b (Some edge) (find (is_bad n) edges) ≡ None → filter (goes_to_one n) (one ∷ mail) ≡ one ∷ mail
    by_test true is held none = absurd (subst IsThere none tt)
    by_test false is held none =
        let goes : goes_to_one n one ≡ true = ap (λ (target : ℕ). not (nat_le n target)) (ap first_of same) ∙ ap not is in
        rw goes (ap (λ (l : List Mail). one ∷ l) (held none))

pub each_goes : (P : Rules) (graph : Graph) (phase : ℕ) (states : List VState) (vertices : List ℕ)
    → find (is_bad graph.n) (flat_map (edges_of P.need graph) vertices) ≡ None
    → filter (goes_to_one graph.n) (flat_map (λ v. (ran P graph phase v (state_at states v)).messages) vertices)
    ≡ flat_map (λ v. (ran P graph phase v (state_at states v)).messages) vertices
each_goes P graph phase states vertices none =
    all_go graph.n (flat_map (sends P graph phase states) vertices) (flat_map (edges_of P.need graph) vertices) (along-all P graph phase states vertices) none
