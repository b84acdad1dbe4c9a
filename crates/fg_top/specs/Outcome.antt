-- What a job comes to where memory suffices and the outside doesn't fail.
use Rattle.std.specs.Prelude.{◌≡◌, ℕ, ◌≤◌, Bool, true, false, Option, None, Some, Result, Ok, Err, List, [], ◌∷◌, ◌++◌, codes, map, nat_le, if◌then◌else◌}
use Rattle.fg_base.specs.declared.plain.Value.{Value}
use Rattle.fg_base.specs.declared.plain.VState.{VState}
use Rattle.fg_base.specs.declared.refusal.Refusal.{Refusal}
use Rattle.fg_build.specs.declared.opened.Opened.{Opened}
use Rattle.fg_build.specs.Answers.{MatchOpening}
use Rattle.fg_build.specs.Opening.{graph_on, opening_of}
use Rattle.fg_comps.specs.Core.{core}
use Rattle.fg_comps.specs.Wcc.{wcc}
use Rattle.fg_image.specs.declared.header.Header.{Header}
use Rattle.fg_model.specs.declared.graph.Graph.{Graph}
use Rattle.fg_model.specs.Program.{Rules}
use Rattle.fg_model.specs.Run.{Ending, Finished, Refused, Run, Settled, Stopped, run}
use Rattle.fg_model.specs.Watch.{line_of}
use Rattle.fg_rank.specs.Rank.{rank}
use Rattle.fg_report.specs.Lines.{end_line, head_line, stats_line}
use Rattle.fg_report.specs.ReportWatch.{iteration_text}
use Rattle.fg_report.specs.Sum.{sum_line}
use Rattle.fg_report.specs.Values.{value_lines}
use Rattle.fg_words.specs.declared.jobs.Pick.{Pick}
use Rattle.fg_top.specs.declared.stats.Stats.{Stats}
use Rattle.fg_top.specs.declared.wish.Wish.{Wish}
use Rattle.fg_walks.specs.Bfs.{bfs}
use Rattle.fg_walks.specs.Sssp.{sssp}

-- a picked program, its name as it is written, and its source
abbrev pub rules_of : Pick → Rules
rules_of (Pick.Bfs source) = bfs source
rules_of (Pick.Sssp source) = sssp source
rules_of Pick.Wcc = wcc
rules_of Pick.Core = core
rules_of (Pick.Rank cut) = rank cut

abbrev pub name_of : Pick → List ℕ
name_of (Pick.Bfs source) = codes "bfs"
name_of (Pick.Sssp source) = codes "sssp"
name_of Pick.Wcc = codes "wcc"
name_of Pick.Core = codes "core"
name_of (Pick.Rank cut) = codes "rank"

abbrev pub source_of : Pick → Option ℕ
source_of (Pick.Bfs source) = Some source
source_of (Pick.Sssp source) = Some source
source_of Pick.Wcc = None
source_of Pick.Core = None
source_of (Pick.Rank cut) = None

-- what a job asks of a run
abbrev pub wish_for : Pick → ℕ → Bool → Bool → Wish
wish_for pick max each quiet = record { pick = pick; max = max; each = each; quiet = quiet }

-- the run that is wished for on a graph
abbrev pub run_in : Wish → Graph → Run
run_in wish graph = run (rules_of wish.pick) graph wish.max

-- the same on drives that hold these bytes and open so
abbrev pub run_on : Wish → Opened → List (List ℕ) → Run
run_on wish opened helds = run_in wish (graph_on opened helds)

-- a graph, and what the head of a run on it counts: the vertices, and the entries in both directions
pub record Counted : Type 0 where
  pub vertices : ℕ
  pub outs : ℕ
  pub ins : ℕ
  pub graph : Graph

-- the graph on drives that hold these bytes and open so, with the counts of the header; or what refuses the drives
abbrev pub opened_graph : List (List ℕ) → Result Opened Refusal → Result Counted Refusal
opened_graph helds (Err refusal) = Err refusal
opened_graph helds (Ok opened) =
    Ok (record { vertices = opened.header.n; outs = opened.header.out_entries; ins = opened.header.in_entries; graph = graph_on opened helds })

abbrev pub held_graph : List (List ℕ) → Result Counted Refusal
held_graph helds = opened_graph helds (opening_of helds)

-- how a job closes: it is done, and this is the last of its text; or it is refused for what its words ask or its
-- drives hold
pub data Close : Type 0 where
  Done : List ℕ → Close
  Refuses : Refusal → Close

-- a job's outcome: the texts that are written while it works, and how it closes
pub record Outcome : Type 0 where
  pub lines : List (List ℕ)
  pub close : Close

-- a job that closes before it wrote anything
abbrev pub at_once : Close → Outcome
at_once close = record { lines = []; close = close }

-- the values, or their sum
abbrev pub values_or_sum : Bool → (VState → Value) → List VState → List ℕ
values_or_sum true show states = sum_line show states
values_or_sum false show states = value_lines show states

-- the line of stats, where there are some
abbrev pub stats_text : Option Stats → List ℕ
stats_text None = []
stats_text (Some stats) = stats_line stats.reads stats.pages stats.runs stats.entries

-- the last text of a run: its end line, its stats where there are some, and its values or their sum
abbrev pub last_text : Option Stats → Bool → (VState → Value) → Bool → ℕ → List VState → List ℕ
last_text stats quiet show settled iterations states =
    end_line settled iterations ++ (stats_text stats ++ values_or_sum quiet show states)

-- what is written of a finished iteration
abbrev pub text_of : Bool → (VState → Value) → Finished → List ℕ
text_of each show iteration = iteration_text each show (line_of iteration) iteration.states

-- how a run closes: its last text, or its first bad edge
abbrev pub run_close : Option Stats → Bool → (VState → Value) → Ending → ℕ → List VState → Close
run_close stats quiet show Settled iterations states = Done (last_text stats quiet show true iterations states)
run_close stats quiet show Stopped iterations states = Done (last_text stats quiet show false iterations states)
run_close stats quiet show (Refused begun bad) iterations states = Refuses (Refusal.BadEdge bad)

-- the head: the program and the counts of the header
abbrev pub head_of : Pick → Header → List ℕ
head_of pick header = head_line (name_of pick) header.n header.out_entries header.in_entries

-- a run's outcome: this head, what is written of each finished iteration, and how it closes
abbrev pub run_outcome : Wish → Option Stats → List ℕ → Run → Outcome
run_outcome wish stats head run = record {
  lines = head ∷ map (text_of wish.each (rules_of wish.pick).show) run.finished;
  close = run_close stats wish.quiet (rules_of wish.pick).show run.ending run.iterations run.states;
}

-- the outcome where the source, if there is one, is one of so many vertices; else the source is refused
abbrev pub where_vertex : Option ℕ → ℕ → Outcome → Outcome
where_vertex None vertices outcome = outcome
where_vertex (Some source) vertices outcome =
    if nat_le vertices source then at_once (Refuses (Refusal.BadSource source vertices)) else outcome

-- the outcome, with these stats, of the run that is wished for on a graph with its counts, or of what refuses to give one
abbrev pub outcome_on : Wish → Option Stats → Result Counted Refusal → Outcome
outcome_on wish stats (Err refusal) = at_once (Refuses refusal)
outcome_on wish stats (Ok counted) =
    where_vertex (source_of wish.pick) counted.vertices
    (run_outcome wish stats (head_line (name_of wish.pick) counted.vertices counted.outs counted.ins) (run_in wish counted.graph))

unfoldable pub outcome_of : Wish → Option Stats → List (List ℕ) → Outcome
outcome_of wish stats helds = outcome_on wish stats (held_graph helds)

-- a source that some number of vertices refuses
abbrev pub IsOwnSource : Option ℕ → ℕ → ℕ → Type 0
IsOwnSource None source vertices = ⊥
IsOwnSource (Some own) source vertices = (own ≡ source) × (vertices ≤ source)

-- the first of the texts is the program's head, with the counts of some header
abbrev pub HasHead : Pick → List (List ℕ) → Type 0
HasHead pick lines = (header : Header) × (rest : List (List ℕ)) × (lines ≡ head_of pick header ∷ rest)

-- the text begins with some end line, and goes on with these stats
pub record HasStats (stats : Option Stats) (text : List ℕ) : Type 0 where
  pub settled : Bool
  pub iterations : ℕ
  pub rest : List ℕ
  pub text_is : text ≡ end_line settled iterations ++ (stats_text stats ++ rest)

-- what a run may write and how it may close where some drive doesn't tell its bytes: behind its head, done with these stats or
-- refused for a bad edge; or, before anything was written, refused for what drives hold or for its own source
abbrev pub MayComeTo : Wish → Option Stats → List (List ℕ) → Close → Type 0
MayComeTo wish stats lines (Done text) = HasHead wish.pick lines × HasStats stats text
MayComeTo wish stats lines (Refuses (Refusal.BadSource source vertices)) = IsOwnSource (source_of wish.pick) source vertices × (lines ≡ [])
MayComeTo wish stats lines (Refuses (Refusal.BadEdge bad)) = HasHead wish.pick lines
MayComeTo wish stats lines (Refuses refusal) = MatchOpening refusal ⊥ (λ drive. ⊥) (lines ≡ [])

-- the run that is wished for comes with these stats to this outcome, by what the drives tell of their bytes
abbrev pub WishComesTo : Wish → Option Stats → Option (List (List ℕ)) → Outcome → Type 0
WishComesTo wish stats None outcome = MayComeTo wish stats outcome.lines outcome.close
WishComesTo wish stats (Some helds) outcome = outcome ≡ outcome_of wish stats helds
