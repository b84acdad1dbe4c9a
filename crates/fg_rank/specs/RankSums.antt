-- What a run's ranks come to.
use Rattle.std.specs.Prelude.{◌≡◌, ℕ, ◌+◌, ◌*◌, ◌≤◌, ◌^◌, Ok, List, sum_by}
use Rattle.fg_base.specs.declared.plain.Value.{Value}
use Rattle.fg_base.specs.declared.plain.Value.TheVariants.{Absent, One, Two}
use Rattle.fg_base.specs.declared.plain.VState.{VState}
use Rattle.fg_model.specs.declared.graph.Graph.{Graph}
use Rattle.fg_model.specs.declared.run.End.{End}
use Rattle.fg_model.specs.Program.{Rules}
use Rattle.fg_model.specs.Run.{answer_of, run}
use Rattle.fg_rank.specs.Rank.{rank}

-- the two numbers of a printed value
abbrev pub first_of : Value → ℕ
first_of Absent = 0
first_of (One x) = x
first_of (Two x y) = x

abbrev pub second_of : Value → ℕ
second_of Absent = 0
second_of (One x) = 0
second_of (Two x y) = y

-- all vertices' first numbers together, and their second ones
abbrev pub all_had : Rules → List VState → ℕ
all_had P states = sum_by (λ s. first_of (P.show s)) states

abbrev pub all_waiting : Rules → List VState → ℕ
all_waiting P states = sum_by (λ s. second_of (P.show s)) states

-- at the end of a run, settled or stopped, on any graph, all ranks come to at most the unit for each vertex, with what wasn't
-- sent on counted as 20 thirds of itself: what it and all shares of it come to when they are sent on for ever
abbrev pub StaysBounded : ℕ → Type 0
StaysBounded cut = (graph : Graph) (most : ℕ) (end : End) → answer_of (run (rank cut) graph most) ≡ Ok end
    → 3 * all_had (rank cut) end.states + 20 * all_waiting (rank cut) end.states ≤ 3 * graph.n * 2 ^ 20
