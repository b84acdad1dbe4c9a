-- What a job comes to, by what its drives open to and by its source.
use Rattle.std.proofs.Common.{◌≡◌, ◌≢◌, ◌∙◌, ℕ, ◌<◌, ◌≤◌, Bool, true, false, Option, None, Some, IfSome, Ok, Err, List, [], ◌∷◌, nat_le, if◌then◌else◌, refl, sym, ap, subst, arith}
use Rattle.std.proofs.lemmas.Option.{same_Some}
use Rattle.fg_base.specs.Refusal.{status_of}
use Rattle.fg_base.specs.declared.plain.Value.{Value}
use Rattle.fg_base.specs.declared.plain.VState.{VState}
use Rattle.fg_base.specs.declared.refusal.Refusal.{Refusal}
use Rattle.fg_build.specs.declared.opened.Opened.{Opened}
use Rattle.fg_build.specs.Answers.{IsOpening, OpeningCounts, ReadCounts}
use Rattle.fg_build.specs.Opening.{opening_of}
use Rattle.fg_image.specs.declared.header.Header.{Header}
use Rattle.fg_model.specs.Iteration.{Begun}
use Rattle.fg_model.specs.Run.{Run, Ending, Refused, Settled, Stopped, begun_of}
use Rattle.fg_model.specs.declared.graph.Graph.{Graph}
use Rattle.fg_outside.specs.Drives.{NoneRose}
use Rattle.fg_outside.proofs.DriveLemmas.{EachSame-more, RoseFirst-after}
use Rattle.fg_report.specs.Refusals.{refusal_line}
use Rattle.fg_top.specs.declared.stats.Stats.{Stats}
use Rattle.fg_top.specs.declared.wish.Wish.{Wish}
use Rattle.fg_top.specs.Ends.{IsCause, IsCutShort, IsOutcome}
use Rattle.fg_top.specs.Outcome.{Close, Done, HasStats, IsOwnSource, MayComeTo, Outcome, Refuses, WishComesTo, at_once, head_of, held_graph, last_text, opened_graph, outcome_of, outcome_on, rules_of, run_close, run_in, run_on, run_outcome, source_of, values_or_sum, where_vertex}
use Rattle.fg_top.specs.Running.{IsSourced, MayClose, RunComesTo}
use Rattle.fg_top.specs.Tallies.{begin_where, begins_of}
use Rattle.fg_top.proofs.EndLemmas.{behind}

le_holds : (a b : ℕ) → a ≤ b → nat_le a b ≡ true
le_holds a b h = grind arith

pub le_fails : (a b : ℕ) → b < a → nat_le a b ≡ false
le_fails a b h = grind arith

-- drives that open to a refusal
comes_refused : (wish : Wish) (stats : Option Stats) (told : Option (List (List ℕ))) (refusal : Refusal) → MayComeTo wish stats [] (Refuses refusal) →
    IfSome told (λ helds. opening_of helds ≡ Err refusal) → WishComesTo wish stats told (at_once (Refuses refusal))
unfolding outcome_of
comes_refused wish stats None refusal may opening = may
comes_refused wish stats (Some helds) refusal may opening = sym (ap (λ given. outcome_on wish stats (opened_graph helds given)) opening)

-- a source that is no vertex
refuses_source : (outcome : Outcome) (own : Option ℕ) (source vertices : ℕ) → own ≡ Some source → vertices ≤ source →
    where_vertex own vertices outcome ≡ at_once (Refuses (Refusal.BadSource source vertices))
refuses_source outcome own source vertices is above =
    let no_vertex : nat_le vertices source ≡ true = le_holds vertices source above in
    rw is (rw no_vertex refl)

own_source : (own : Option ℕ) (source vertices : ℕ) → own ≡ Some source → vertices ≤ source → IsOwnSource own source vertices
own_source None source vertices is above = cc
own_source (Some other) source vertices is above = (same_Some other source is, above)

comes_bad_source : (wish : Wish) (stats : Option Stats) (told : Option (List (List ℕ))) (opened : Opened) (source : ℕ) →
    IfSome told (λ helds. opening_of helds ≡ Ok opened) → source_of wish.pick ≡ Some source → opened.header.n ≤ source →
    WishComesTo wish stats told (at_once (Refuses (Refusal.BadSource source opened.header.n)))
unfolding outcome_of
comes_bad_source wish stats None opened source opening is above = (own_source (source_of wish.pick) source opened.header.n is above, refl)
comes_bad_source wish stats (Some helds) opened source opening is above =
    sym (ap (λ given. outcome_on wish stats (opened_graph helds given)) opening ∙ refuses_source (run_outcome wish stats (head_of wish.pick opened.header) (run_on wish opened helds)) (source_of wish.pick) source opened.header.n is above)

-- a source that is a vertex
keeps_source : (outcome : Outcome) (own : Option ℕ) (vertices : ℕ) → IfSome own (λ source. source < vertices) → where_vertex own vertices outcome ≡ outcome
keeps_source outcome None vertices below = refl
keeps_source outcome (Some source) vertices below =
    let vertex : nat_le vertices source ≡ false = le_fails vertices source below in
    rw vertex refl

-- what the wish comes to on drives that open and have its source
pub runs_so : (wish : Wish) (stats : Option Stats) (told : Option (List (List ℕ))) (opened : Opened) →
    IfSome told (λ helds. opening_of helds ≡ Ok opened) → IsSourced wish.pick opened.header.n →
    IfSome told (λ helds. outcome_of wish stats helds ≡ run_outcome wish stats (head_of wish.pick opened.header) (run_on wish opened helds))
unfolding outcome_of
runs_so wish stats None opened opening sourced = tt
runs_so wish stats (Some helds) opened opening sourced =
    ap (λ given. outcome_on wish stats (opened_graph helds given)) opening
    ∙ keeps_source (run_outcome wish stats (head_of wish.pick opened.header) (run_on wish opened helds)) (source_of wish.pick) opened.header.n sourced

-- how a run may close behind its head it may close with it
may_behind : (wish : Wish) (stats : Option Stats) (header : Header) (lines : List (List ℕ)) (close : Close) → MayClose stats close →
    MayComeTo wish stats (head_of wish.pick header ∷ lines) close
may_behind wish stats header lines (Done text) may = ((header, lines, refl), may)
may_behind wish stats header lines (Refuses (Refusal.BadEdge bad)) may = (header, lines, refl)
may_behind wish stats header lines (Refuses refusal) may = absurd may

-- what a run comes to behind its head is what the wish comes to
pub comes_behind_head : (wish : Wish) (stats : Option Stats) (told : Option (List (List ℕ))) (header : Header) (run_of : List (List ℕ) → Run) →
    IfSome told (λ helds. outcome_of wish stats helds ≡ run_outcome wish stats (head_of wish.pick header) (run_of helds)) →
    (outcome : Outcome) → RunComesTo (rules_of wish.pick) wish stats told run_of outcome → WishComesTo wish stats told (behind (head_of wish.pick header ∷ []) outcome)
comes_behind_head wish stats None header run_of so outcome comes = may_behind wish stats header outcome.lines outcome.close comes
comes_behind_head wish stats (Some helds) header run_of so outcome comes = ap (behind (head_of wish.pick header ∷ [])) comes ∙ sym so

-- some outcome that the wish comes to
some_outcome : Wish → Option Stats → Option (List (List ℕ)) → Outcome
some_outcome wish stats None = at_once (Refuses Refusal.BadHeader)
some_outcome wish stats (Some helds) = outcome_of wish stats helds

-- work that is cut short before a line was written
pub cut_at_once : (wish : Wish) (stats : Option Stats) (told : Option (List (List ℕ))) (last : List ℕ) → IsCutShort (WishComesTo wish stats told) last last
unfolding some_outcome
cut_at_once wish stats told last = record { outcome = some_outcome wish stats told; is_one = comes told; count = 0; text_is = refl }
  where
    comes : (told : Option (List (List ℕ))) → WishComesTo wish stats told (some_outcome wish stats told)
    comes None = refl
    comes (Some helds) = refl

-- an outcome before which no line is written
closed : (comes : Outcome → Type 0) (close : Close) (last : List ℕ) → comes (at_once close) → IsOutcome comes close last last
closed comes close last is = record { outcome = at_once close; is_one = is; closes = refl; text_is = refl }

-- a refusal for what the drives hold
content : {D : Type 0} (faults : D → ℕ) (olds news : List D) (wish : Wish) (stats : Option Stats) (told : Option (List (List ℕ))) (refusal : Refusal) →
    NoneRose faults olds news → MayComeTo wish stats [] (Refuses refusal) → IfSome told (λ helds. opening_of helds ≡ Err refusal) →
    NoneRose faults olds news × IsOutcome (WishComesTo wish stats told) (Refuses refusal) (refusal_line refusal) (refusal_line refusal)
content faults olds news wish stats told refusal kept may opening =
    (kept, closed (WishComesTo wish stats told) (Refuses refusal) (refusal_line refusal) (comes_refused wish stats told refusal may opening))

-- why drives that weren't opened are refused
pub cause_of_opening : {D : Type 0} (faults : D → ℕ) (olds news : List D) (wish : Wish) (stats : Option Stats) (told : Option (List (List ℕ))) (refusal : Refusal) →
    OpeningCounts faults olds news (Err refusal) → IfSome told (λ helds. IsOpening (opening_of helds) (Err refusal)) →
    IsCause faults olds news (WishComesTo wish stats told) (Some refusal) (refusal_line refusal)
cause_of_opening faults olds news wish stats told Refusal.Memory counts opening = (counts, cut_at_once wish stats told (refusal_line Refusal.Memory))
cause_of_opening faults olds news wish stats told (Refusal.DriveFault drive) counts opening = (counts, cut_at_once wish stats told (refusal_line (Refusal.DriveFault drive)))
cause_of_opening faults olds news wish stats told (Refusal.NoLabel drive) counts opening = content faults olds news wish stats told (Refusal.NoLabel drive) counts refl opening
cause_of_opening faults olds news wish stats told (Refusal.WrongDrive drive found) counts opening = content faults olds news wish stats told (Refusal.WrongDrive drive found) counts refl opening
cause_of_opening faults olds news wish stats told (Refusal.LabelDiffers drive) counts opening = content faults olds news wish stats told (Refusal.LabelDiffers drive) counts refl opening
cause_of_opening faults olds news wish stats told (Refusal.ShortDrive drive have need) counts opening = content faults olds news wish stats told (Refusal.ShortDrive drive have need) counts refl opening
cause_of_opening faults olds news wish stats told Refusal.BadHeader counts opening = content faults olds news wish stats told Refusal.BadHeader counts refl opening
cause_of_opening faults olds news wish stats told (Refusal.BadVersion found) counts opening = content faults olds news wish stats told (Refusal.BadVersion found) counts refl opening
cause_of_opening faults olds news wish stats told Refusal.BadSections counts opening = content faults olds news wish stats told Refusal.BadSections counts refl opening
cause_of_opening faults olds news wish stats told (Refusal.BadIndex dir place) counts opening = content faults olds news wish stats told (Refusal.BadIndex dir place) counts refl opening
cause_of_opening faults olds news wish stats told refusal counts opening = absurd counts

-- opening never answers for the output
pub opening_not_output : {D : Type 0} (faults : D → ℕ) (olds news : List D) (refusal : Refusal) →
    OpeningCounts faults olds news (Err refusal) → refusal ≢ Refusal.OutputFault
opening_not_output faults olds news refusal counts is =
    let P : Refusal → Type 0 = λ refusal. OpeningCounts faults olds news (Err refusal) in subst P is counts

-- why a source that is no vertex is refused
pub cause_of_source : {D : Type 0} (faults : D → ℕ) (olds news : List D) (wish : Wish) (stats : Option Stats) (told : Option (List (List ℕ))) (opened : Opened) (source : ℕ) →
    NoneRose faults olds news → IfSome told (λ helds. opening_of helds ≡ Ok opened) → source_of wish.pick ≡ Some source → opened.header.n ≤ source →
    IsCause faults olds news (WishComesTo wish stats told) (Some (Refusal.BadSource source opened.header.n)) (refusal_line (Refusal.BadSource source opened.header.n))
cause_of_source faults olds news wish stats told opened source kept opening is above =
    (kept, closed (WishComesTo wish stats told) (Refuses (Refusal.BadSource source opened.header.n)) _ (comes_bad_source wish stats told opened source opening is above))

-- then no iteration begins
pub begins_none : (wish : Wish) (told : Option (List (List ℕ))) (opened : Opened) (source : ℕ) →
    IfSome told (λ helds. opening_of helds ≡ Ok opened) → source_of wish.pick ≡ Some source → opened.header.n ≤ source →
    IfSome told (λ helds. begins_of wish (held_graph helds) ≡ [])
begins_none wish None opened source opening is above = tt
begins_none wish (Some helds) opened source opening is above =
    let no_vertex : nat_le opened.header.n source ≡ true = le_holds opened.header.n source above in
    ap (λ given. begins_of wish (opened_graph helds given)) opening
    ∙ ap (λ own. begin_where own opened.header.n (begun_of (run_on wish opened helds))) is
    ∙ ap (λ refused. if refused then [] else begun_of (run_on wish opened helds)) no_vertex

-- where the source is a vertex these are the iterations of the run
pub begins_run : (wish : Wish) (opened : Opened) (helds : List (List ℕ)) → opening_of helds ≡ Ok opened → IsSourced wish.pick opened.header.n →
    begins_of wish (held_graph helds) ≡ begun_of (run_on wish opened helds)
begins_run wish opened helds opening sourced =
    ap (λ given. begins_of wish (opened_graph helds given)) opening ∙ begin-sourced (begun_of (run_on wish opened helds)) (source_of wish.pick) opened.header.n sourced
  where
    begin-sourced : (begun : List Begun) (own : Option ℕ) (vertices : ℕ) → IfSome own (λ source. source < vertices) → begin_where own vertices begun ≡ begun
    begin-sourced begun None vertices below = refl
    begin-sourced begun (Some source) vertices below =
        let vertex : nat_le vertices source ≡ false = le_fails vertices source below in
        rw vertex refl

-- no drives that weren't opened are refused for their graph
pub opening_not_graph : {D : Type 0} (faults : D → ℕ) (olds news : List D) (refusal : Refusal) →
    OpeningCounts faults olds news (Err refusal) → status_of refusal ≢ 8
opening_not_graph faults olds news Refusal.Memory counts is = cc
opening_not_graph faults olds news (Refusal.DriveFault drive) counts is = cc
opening_not_graph faults olds news (Refusal.NoLabel drive) counts is = cc
opening_not_graph faults olds news (Refusal.WrongDrive drive found) counts is = cc
opening_not_graph faults olds news (Refusal.LabelDiffers drive) counts is = cc
opening_not_graph faults olds news (Refusal.ShortDrive drive have need) counts is = cc
opening_not_graph faults olds news Refusal.BadHeader counts is = cc
opening_not_graph faults olds news (Refusal.BadVersion found) counts is = cc
opening_not_graph faults olds news Refusal.BadSections counts is = cc
opening_not_graph faults olds news (Refusal.BadIndex dir place) counts is = cc
opening_not_graph faults olds news refusal counts is = absurd counts

-- why drives that weren't read whole are refused
pub cause_of_reading : {D : Type 0} (faults : D → ℕ) (olds betweens news : List D) (wish : Wish) (stats : Option Stats) (told : Option (List (List ℕ))) (refusal : Refusal) →
    NoneRose faults olds betweens → ReadCounts {D = D} {A = Graph} faults betweens news (Err refusal) →
    IsCause faults olds news (WishComesTo wish stats told) (Some refusal) (refusal_line refusal)
cause_of_reading faults olds betweens news wish stats told Refusal.Memory kept counts =
    (EachSame-more faults olds betweens news kept counts, cut_at_once wish stats told (refusal_line Refusal.Memory))
cause_of_reading faults olds betweens news wish stats told (Refusal.DriveFault drive) kept counts =
    (RoseFirst-after faults drive olds betweens news kept counts, cut_at_once wish stats told (refusal_line (Refusal.DriveFault drive)))
cause_of_reading faults olds betweens news wish stats told refusal kept counts = absurd counts

-- reading never answers for the output
pub reading_not_output : {D : Type 0} (faults : D → ℕ) (olds news : List D) (refusal : Refusal) →
    ReadCounts {D = D} {A = Graph} faults olds news (Err refusal) → refusal ≢ Refusal.OutputFault
reading_not_output {D} faults olds news refusal counts is =
    let P : Refusal → Type 0 = λ refusal. ReadCounts {D = D} {A = Graph} faults olds news (Err refusal) in subst P is counts

-- nor for what the drives hold
pub reading_not_held : {D : Type 0} (faults : D → ℕ) (olds news : List D) (refusal : Refusal) →
    ReadCounts {D = D} {A = Graph} faults olds news (Err refusal) → status_of refusal ≢ 7
reading_not_held faults olds news Refusal.Memory counts is = cc
reading_not_held faults olds news (Refusal.DriveFault drive) counts is = cc
reading_not_held faults olds news refusal counts is = absurd counts

-- the last text of a run has its stats
pub last_has_stats : (stats : Option Stats) (quiet : Bool) (show : VState → Value) (settled : Bool) (iterations : ℕ) (states : List VState) →
    HasStats stats (last_text stats quiet show settled iterations states)
last_has_stats stats quiet show settled iterations states =
    record { settled = settled; iterations = iterations; rest = values_or_sum quiet show states; text_is = refl }

-- a run closes as it may where nothing is told
may_close : (stats : Option Stats) (quiet : Bool) (show : VState → Value) (ending : Ending) (iterations : ℕ) (states : List VState) →
    MayClose stats (run_close stats quiet show ending iterations states)
may_close stats quiet show Settled iterations states = last_has_stats stats quiet show true iterations states
may_close stats quiet show Stopped iterations states = last_has_stats stats quiet show false iterations states
may_close stats quiet show (Refused begun bad) iterations states = tt

-- a run over a graph that is known
pub comes_in_memory : (wish : Wish) (stats : Option Stats) (told : Option (List (List ℕ))) (graph : Graph) (outcome : Outcome) →
    RunComesTo (rules_of wish.pick) wish stats (Some graph) (run_in wish) outcome →
    RunComesTo (rules_of wish.pick) wish stats told (λ helds. run_in wish graph) outcome
comes_in_memory wish stats None graph outcome is =
    let ran = run_in wish graph in
    subst (MayClose stats) (sym (ap (λ (one : Outcome). one.close) is)) (may_close stats wish.quiet (rules_of wish.pick).show ran.ending ran.iterations ran.states)
comes_in_memory wish stats (Some helds) graph outcome is = is
