-- What was moved and what is left are together what was left before.
use Rattle.std.proofs.Common.{◌≡◌, ℕ, ◌+◌, List, ◌++◌, take, drop, ap, sym, ◌∙◌}
use Rattle.std.proofs.lemmas.List.{take_rest, take-append-drop, drop-drop}
use Rattle.fg_outside.proofs.mem_source.MemSourceSource.take.Goals as goal

parts : (list : List ℕ) (done k : ℕ) → take k (drop done list) ++ drop (done + k) list ≡ drop done list
parts list done k =
    ap (λ rest. take k (drop done list) ++ rest) (sym (drop-drop k done list)) ∙ take-append-drop k (drop done list)

pub returns-clause-moved : goal.returns-clause-moved
returns-clause-moved c =
    let bytes = c.args.self.now.bytes.items in
    let taken = c.args.self.now.taken in
    let whole = take_rest bytes taken in
    let split = parts bytes taken c.copy_front-count.result in
    cc
