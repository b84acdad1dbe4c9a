-- What a run on generated edges promises.
use Rattle.std.specs.Prelude.{◌≡◌, ℕ, Bool, None, Result, Ok, Err, length}
use Rattle.fg_base.specs.declared.refusal.Refusal.{Refusal}
use Rattle.fg_image.specs.Made.{graph_of_edges}
use Rattle.fg_model.specs.Edges.{EdgeList}
use Rattle.fg_model.specs.Mirror.{IsMirror}
use Rattle.fg_text.specs.Generator.{generated_text}
use Rattle.fg_text.specs.Text.{read_text}
use Rattle.fg_words.specs.declared.jobs.Recipe.{Recipe}
use Rattle.fg_top.specs.declared.wish.Wish.{Wish}
use Rattle.fg_top.specs.Meaning.{MeansWish}
use Rattle.fg_top.specs.Outcome.{Counted, Outcome, outcome_on}
use Rattle.fg_top.specs.Promise.{OfTally, Promise, alone}
use Rattle.fg_top.specs.Statuses.{RefusedDrives}
use Rattle.fg_top.specs.Tallies.{RoseByWish, Stood, begins_of}

-- how edges are generated
abbrev pub recipe_for : ℕ → ℕ → ℕ → Bool → Recipe
recipe_for start nodes edges undirected = record { start = start; nodes = nodes; edges = edges; undirected = undirected }

-- the edges that the generated text says, or what refuses it
abbrev pub generated : Recipe → Result EdgeList Refusal
generated recipe = read_text recipe.undirected (generated_text recipe.start recipe.nodes recipe.edges)

-- the graph of the edges that a text says, with the counts of the edges; or what refuses the text
abbrev pub edges_graph : Result EdgeList Refusal → Result Counted Refusal
edges_graph (Err refusal) = Err refusal
edges_graph (Ok edges) =
    Ok (record { vertices = edges.n; outs = length edges.pairs; ins = length edges.pairs; graph = graph_of_edges edges })

abbrev pub generated_graph : Recipe → Result Counted Refusal
generated_graph recipe = edges_graph (generated recipe)

abbrev pub LargeComesTo : Wish → Recipe → Outcome → Type 0
LargeComesTo wish recipe outcome = outcome ≡ outcome_on wish None (generated_graph recipe)

-- the tally counts the run; it stands where drives are refused for what they hold
abbrev pub counts_generated : Wish → Recipe → OfTally
counts_generated wish recipe = record {
  rises = λ helds tally. RoseByWish wish (generated_graph recipe) tally;
  begins = λ helds. begins_of wish (generated_graph recipe);
  stands = λ status tally. RefusedDrives status → Stood tally;
}

-- the in-lists of a graph are its out-lists turned round, so that the values of components and cores mean what they should
abbrev pub HasMirror : Result Counted Refusal → Type 0
HasMirror (Err refusal) = ⊥
HasMirror (Ok counted) = IsMirror counted.graph

-- what the values mean of the run that is wished for on the generated graph
abbrev pub MeansGenerated : Wish → Recipe → Type 0
MeansGenerated wish recipe = MeansWish wish (generated_graph recipe) × HasMirror (generated_graph recipe)

-- the promise: its drives are its own, in memory, and the call's aren't touched
abbrev pub large_promise : {D : Type 0} → Wish → Recipe → Promise D
large_promise {D} wish recipe =
    let other : Promise D = alone (λ call. LargeComesTo wish recipe) in
    record other { of_tally = counts_generated wish recipe; means = λ helds. MeansGenerated wish recipe }
