-- What the values mean that a run printed.
use Rattle.std.specs.Prelude.{◌≡◌, ℕ, ◌+◌, ◌*◌, ◌<◌, ◌≤◌, ◌^◌, Result, Ok, Err, List, length}
use Rattle.fg_base.specs.declared.plain.Entry.{Entry}
use Rattle.fg_base.specs.declared.plain.Value.TheVariants.{One}
use Rattle.fg_base.specs.declared.refusal.Refusal.{Refusal}
use Rattle.fg_comps.specs.Components.{IsLeastConnected}
use Rattle.fg_comps.specs.CoreNumbers.{IsCoreNumber}
use Rattle.fg_model.specs.declared.graph.Graph.{Graph}
use Rattle.fg_model.specs.declared.run.End.{End}
use Rattle.fg_model.specs.Iteration.{state_at}
use Rattle.fg_model.specs.Mirror.{IsMirror}
use Rattle.fg_model.specs.Run.{Settled, answer_of}
use Rattle.fg_rank.specs.RankSums.{all_had, all_waiting}
use Rattle.fg_top.specs.declared.wish.Wish.{Wish}
use Rattle.fg_top.specs.Outcome.{Counted, rules_of, run_in}
use Rattle.fg_walks.specs.Walks.{AreLeastValues, weight}
use Rattle.fg_words.specs.declared.jobs.Pick.{Pick}

-- where the run settled, its last values are the least measures of walks from the source
abbrev pub MeansLeast : (List Entry → ℕ) → Wish → ℕ → Graph → Type 0
MeansLeast measure wish source graph =
    (run_in wish graph).ending ≡ Settled → AreLeastValues measure (rules_of wish.pick) graph source (run_in wish graph).states

-- where the run settled on a graph whose in-lists are its out-lists turned round, each vertex's last value is such a number
abbrev pub MeansOnMirror : (Graph → ℕ → ℕ → Type 0) → Wish → Graph → Type 0
MeansOnMirror IsNumber wish graph = (run_in wish graph).ending ≡ Settled → IsMirror graph → (v : ℕ) → v < graph.n
    → (x : ℕ) × ((rules_of wish.pick).show (state_at (run_in wish graph).states v) ≡ One x) × IsNumber graph v x

-- where the run has an end, all its last ranks come to at most the unit for each vertex, with what wasn't sent on counted as 20
-- thirds of itself
abbrev pub MeansBounded : Wish → Graph → Type 0
MeansBounded wish graph = (end : End) → answer_of (run_in wish graph) ≡ Ok end
    → 3 * all_had (rules_of wish.pick) end.states + 20 * all_waiting (rules_of wish.pick) end.states ≤ 3 * graph.n * 2 ^ 20

-- levels are least lengths, the values of shortest walks are least weights, those of components the least connected vertices, and
-- those of cores the core numbers; ranks stay bounded
abbrev pub MeansOn : Wish → Graph → Pick → Type 0
MeansOn wish graph (Pick.Bfs source) = MeansLeast length wish source graph
MeansOn wish graph (Pick.Sssp source) = MeansLeast weight wish source graph
MeansOn wish graph Pick.Wcc = MeansOnMirror (λ graph. IsLeastConnected graph.outs) wish graph
MeansOn wish graph Pick.Core = MeansOnMirror IsCoreNumber wish graph
MeansOn wish graph (Pick.Rank cut) = MeansBounded wish graph

-- what the values mean of the run that is wished for on a graph with its counts; where there is none, no run is done
abbrev pub MeansWish : Wish → Result Counted Refusal → Type 0
MeansWish wish (Err refusal) = ⊥
MeansWish wish (Ok counted) = MeansOn wish counted.graph wish.pick
