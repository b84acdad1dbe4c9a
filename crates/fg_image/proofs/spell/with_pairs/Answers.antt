use Rattle.std.proofs.Common.{◌≡◌, ℕ, ◌+◌, ◌<◌, ◌≤◌, List, ◌++◌, length, drop, get_or, sym, ap, ◌∙◌, append_assoc, append-nil, arith}
use Rattle.std.proofs.lemmas.List.{drop_all, drop_more}
use Rattle.fg_image.specs.Made.{long_pairs}
use Rattle.fg_image.specs.Making.{pair_bytes}
use Rattle.fg_image.proofs.spell.with_pairs.Goals as goal

-- a pair taken from the front of those that are left
pairs-more : (degrees bytes after : List ℕ) (vertex : ℕ) → vertex < length degrees → after ≡ bytes ++ pair_bytes vertex (get_or degrees vertex 0)
    → after ++ long_pairs (vertex + 1) (drop (vertex + 1) degrees) ≡ bytes ++ long_pairs vertex (drop vertex degrees)
pairs-more degrees bytes after vertex within is =
    let rest = long_pairs (vertex + 1) (drop (vertex + 1) degrees) in
    ap (λ (l : List ℕ). l ++ rest) is
    ∙ append_assoc bytes (pair_bytes vertex (get_or degrees vertex 0)) rest
    ∙ ap (λ (l : List ℕ). bytes ++ long_pairs vertex l) (sym (drop_more degrees vertex 0 within))

pairs-none : (degrees bytes : List ℕ) (vertex : ℕ) → length degrees ≤ vertex → bytes ++ long_pairs vertex (drop vertex degrees) ≡ bytes
pairs-none degrees bytes vertex all = ap (λ (l : List ℕ). bytes ++ long_pairs vertex l) (drop_all vertex degrees all) ∙ append-nil bytes

pub loop-vertex-preserved : goal.loop-vertex-preserved
loop-vertex-preserved c =
    pairs-more c.args.degrees.now c.loop-vertex.bytes.items c.in_ok-bytes.bytes.items c.loop-vertex.vertex c.loop-vertex-test.true c.in_ok-bytes.ensures
    ∙ c.loop-vertex.invariant

pub returns : goal.returns
returns c = sym (pairs-none c.args.degrees.now c.loop-vertex.bytes.items c.loop-vertex.vertex (omega arith)) ∙ c.loop-vertex.invariant
