-- The least bad edge of many, in whatever order they are met.
use Rattle.std.specs.Prelude.{◌≡◌, ℕ, ◌+◌, ◌*◌, ◌^◌, ◌≤◌, true, false, Option, None, Some, List, ◌++◌, All}
use Rattle.std.specs.List.{Contains}
use Rattle.fg_base.specs.declared.plain.BadEdge.{BadEdge}
use Rattle.fg_base.specs.declared.plain.Dir.{Dir}
use Rattle.fg_base.specs.declared.plain.Dir.TheVariants.{Out, In}
use Rattle.fg_model.specs.Iteration.{is_bad}

-- the out-list comes before the in-list
abbrev pub side : Dir → ℕ
side Out = 0
side In = 1

-- where an edge stands in the order of an iteration: by vertex, the out-list before the in-list, then by place
abbrev pub rank : BadEdge → ℕ
rank edge = (edge.v * 2 + side edge.dir) * 2 ^ 32 + edge.place

-- an edge is bad, is one of these, and none of them that is bad comes before it
pub record IsLeast (n : ℕ) (edges : List BadEdge) (bad : BadEdge) : Type 0 where
  pub bad_itself : is_bad n bad ≡ true
  pub among : Contains edges bad
  pub least : All (λ edge. is_bad n edge ≡ true → rank bad ≤ rank edge) edges

-- the least bad one of these edges; none where none is bad
abbrev pub IsLeastBad : ℕ → List BadEdge → Option BadEdge → Type 0
IsLeastBad n edges None = All (λ edge. is_bad n edge ≡ false) edges
IsLeastBad n edges (Some bad) = IsLeast n edges bad

-- where these are the least bad edges of some edges and of others, this is that of them all
abbrev pub Joins : Option BadEdge → Option BadEdge → Option BadEdge → Type 0
Joins one other both = (n : ℕ) (edges others : List BadEdge) → IsLeastBad n edges one → IsLeastBad n others other → IsLeastBad n (edges ++ others) both
