-- A job, by what opening its drives and its run did.
use Rattle.std.proofs.Common.{true, ◌≡◌, ◌∙◌, ◌<◌, ℕ, Bool, false, Option, None, Some, IfSome, Result, Ok, List, [], ◌∷◌, nat_le, refl, sym, ap, subst, inl, inr}
use Rattle.std.proofs.lemmas.List.{append-nil}
use Rattle.std.proofs.lemmas.Option.{IfSome_then}
use Rattle.fg_base.specs.Faults.{Rose}
use Rattle.fg_base.specs.Told.{grown, GrewByFirst}
use Rattle.fg_base.specs.declared.refusal.Refusal.{Refusal}
use Rattle.fg_build.specs.declared.opened.Opened.{Opened}
use Rattle.fg_build.specs.Opening.{graph_on, opening_of}
use Rattle.fg_build.specs.OpeningReads.{opening_reads, whole_reads}
use Rattle.fg_engine.specs.Tallies.{RoseByRun, Tallied}
use Rattle.fg_image.specs.declared.header.Header.{Header}
use Rattle.fg_model.specs.declared.graph.Graph.{Graph}
use Rattle.fg_model.specs.Run.{Run}
use Rattle.fg_outside.specs.declared.drive.Read.{Read}
use Rattle.fg_outside.specs.Drives.{DriveRead, LogsGrew, LogsGrewBy, LogsGrewByFirst, NoneRose}
use Rattle.fg_outside.proofs.DriveLemmas.{EachDrive-same, LogsGrew-more, LogsGrewBy-none, LogsGrewByFirst-before, LogsGrewByFirst-more}
use Rattle.fg_report.specs.Refusals.{refusal_line}
use Rattle.fg_top.specs.declared.stats.Stats.{Stats}
use Rattle.fg_top.specs.declared.wish.Wish.{Wish}
use Rattle.fg_top.specs.Calls.{output_over}
use Rattle.fg_top.specs.Ends.{Ends, EndsAlone, EndsLeaving, IsCause, IsWritten}
use Rattle.fg_top.specs.Outcome.{Done, Outcome, WishComesTo, at_once, head_of, held_graph, last_text, opened_graph, outcome_of, rules_of, run_in, run_on, run_outcome, source_of}
use Rattle.fg_top.specs.Reads.{IsAskedBy, RunReads, RunReadsAll, image_reads_of, ref_reads, sourced_reads}
use Rattle.fg_top.specs.Running.{IsSourced, RunComesTo, behind_head}
use Rattle.fg_top.specs.Tallies.{RoseByWish}
use Rattle.fg_top.proofs.EndLemmas.{behind, ends_behind, ends_given_up, ends_in_memory, refused_status}
use Rattle.fg_top.proofs.OutcomeLemmas.{comes_behind_head, comes_in_memory, last_has_stats, le_fails, runs_so}

-- the job ends where a refusal's line was written, or its put or the flush failed
pub ends_refused : {D : Type 0} (faults : D → ℕ) (olds news : List D) (comes : Outcome → Type 0) (leaves : Option Refusal → List ℕ → Type 0) (refusal : Refusal)
    (f0 f1 : ℕ) (t0 t1 : Option (List ℕ)) (back : Bool) (status : ℕ) → IsCause faults olds news comes (Some refusal) (refusal_line refusal) →
    leaves (Some refusal) (refusal_line refusal) → IsWritten (output_over f0 f1 t0 t1 back) (Some refusal) (refusal_line refusal) status →
    EndsLeaving faults olds news comes leaves (output_over f0 f1 t0 t1 back) status
ends_refused faults olds news comes leaves refusal f0 f1 t0 t1 back status cause left written =
    record { end = Some refusal; text = refusal_line refusal; cause = cause; left = left; written = written }

-- what the run comes to, whatever it is
some_run : {A : Type 0} → Wish → Option Stats → Option A → (A → Outcome) → Outcome
some_run wish stats None outcome_of = at_once (Done (last_text stats true (rules_of wish.pick).show true 0 []))
some_run wish stats (Some told) outcome_of = outcome_of told

some_run-is : (wish : Wish) (stats : Option Stats) (told : Option (List (List ℕ))) (run_of : List (List ℕ) → Run) →
    RunComesTo (rules_of wish.pick) wish stats told run_of (some_run wish stats told (λ helds. behind_head (rules_of wish.pick) wish stats (run_of helds)))
unfolding some_run
some_run-is wish stats None run_of = last_has_stats stats true (rules_of wish.pick).show true 0 []
some_run-is wish stats (Some helds) run_of = refl

-- the job ends where the put of the head failed
pub ends_at_head : {D : Type 0} (faults : D → ℕ) (olds news : List D) (wish : Wish) (stats : Option Stats) (told : Option (List (List ℕ))) (header : Header) (run_of : List (List ℕ) → Run)
    (leaves : Option Refusal → Type 0) (f0 f1 : ℕ) (t0 t1 : Option (List ℕ)) (back : Bool) (status : ℕ) →
    IfSome told (λ helds. outcome_of wish stats helds ≡ run_outcome wish stats (head_of wish.pick header) (run_of helds)) → NoneRose faults olds news → leaves (Some Refusal.Memory) → Rose f0 f1 →
    GrewByFirst (head_of wish.pick header) t0 t1 → status ≡ 4 →
    Ends faults olds news (WishComesTo wish stats told) leaves (output_over f0 f1 t0 t1 back) status
ends_at_head faults olds news wish stats told header run_of leaves f0 f1 t0 t1 back status so kept left rose grew failed =
    let head = head_of wish.pick header in
    let run = some_run wish stats told (λ helds. behind_head (rules_of wish.pick) wish stats (run_of helds)) in
    let Of : List ℕ → Type 0 = λ text. GrewByFirst text t0 t1 in
    ends_given_up faults olds news (WishComesTo wish stats told) leaves (behind (head ∷ []) run) 1 f0 f1 t0 t1 back status
    (comes_behind_head wish stats told header run_of so run (some_run-is wish stats told run_of)) kept left rose (subst Of (sym (append-nil head)) grew) failed

-- the end of the run behind the head is the job's end
pub ends_after_head : {D : Type 0} (faults : D → ℕ) (olds betweens news : List D) (wish : Wish) (stats : Option Stats) (told again : Option (List (List ℕ))) (header : Header)
    (run_of : List (List ℕ) → Run) (own leaves : Option Refusal → Type 0) (f0 f1 f2 : ℕ) (t0 t1 t2 : Option (List ℕ)) (back : Bool) (status : ℕ) →
    again ≡ told → IfSome told (λ helds. outcome_of wish stats helds ≡ run_outcome wish stats (head_of wish.pick header) (run_of helds)) → NoneRose faults olds betweens → ((end : Option Refusal) → own end → leaves end) →
    f1 ≡ f0 → t1 ≡ grown t0 (head_of wish.pick header) →
    Ends faults betweens news (RunComesTo (rules_of wish.pick) wish stats again run_of) own (output_over f1 f2 t1 t2 back) status →
    Ends faults olds news (WishComesTo wish stats told) leaves (output_over f0 f2 t0 t2 back) status
ends_after_head faults olds betweens news wish stats told again header run_of own leaves f0 f1 f2 t0 t1 t2 back status same so kept left stood grew ends =
    let head = head_of wish.pick header in
    let Of : Option (List (List ℕ)) → Type 0 = λ told. Ends faults betweens news (RunComesTo (rules_of wish.pick) wish stats told run_of) own (output_over f1 f2 t1 t2 back) status in
    ends_behind faults olds betweens news (RunComesTo (rules_of wish.pick) wish stats told run_of) (WishComesTo wish stats told) own leaves (head ∷ []) f0 f1 f2 t0 t1 t2 back status
    (comes_behind_head wish stats told header run_of so) kept left stood (grew ∙ ap (grown t0) (sym (append-nil head))) (subst Of same ends)

-- the same of a run in memory
pub ends_in_memory_after_head : {D : Type 0} (faults : D → ℕ) (olds news : List D) (wish : Wish) (stats : Option Stats) (told : Option (List (List ℕ))) (header : Header) (graph : Graph)
    (leaves : Option Refusal → Type 0) (f0 f1 f2 : ℕ) (t0 t1 t2 : Option (List ℕ)) (back : Bool) (status : ℕ) →
    IfSome told (λ helds. outcome_of wish stats helds ≡ run_outcome wish stats (head_of wish.pick header) (run_in wish graph)) → NoneRose faults olds news → ((end : Option Refusal) → leaves end) →
    f1 ≡ f0 → t1 ≡ grown t0 (head_of wish.pick header) →
    EndsAlone (RunComesTo (rules_of wish.pick) wish stats (Some graph) (run_in wish)) (output_over f1 f2 t1 t2 back) status →
    Ends faults olds news (WishComesTo wish stats told) leaves (output_over f0 f2 t0 t2 back) status
ends_in_memory_after_head faults olds news wish stats told header graph leaves f0 f1 f2 t0 t1 t2 back status so kept left stood grew ends =
    ends_after_head faults olds news news wish stats told told header (λ helds. run_in wish graph) leaves leaves f0 f1 f2 t0 t1 t2 back status refl so kept (λ end own. left end) stood grew
    (ends_in_memory faults news news (RunComesTo (rules_of wish.pick) wish stats (Some graph) (run_in wish)) (RunComesTo (rules_of wish.pick) wish stats told (λ helds. run_in wish graph))
    leaves (output_over f1 f2 t1 t2 back) status (comes_in_memory wish stats told graph) (EachDrive-same (λ old new. faults new ≡ faults old) (λ drive. refl) news) left ends)

-- the outcome of a run over the graph that was read
pub runs_loaded : (wish : Wish) (stats : Option Stats) (told again : Option (List (List ℕ))) (opened : Opened) (graph : Graph) → again ≡ told →
    IfSome told (λ helds. opening_of helds ≡ Ok opened) → IsSourced wish.pick opened.header.n → IfSome again (λ helds. graph ≡ graph_on opened helds) →
    IfSome told (λ helds. outcome_of wish stats helds ≡ run_outcome wish stats (head_of wish.pick opened.header) (run_in wish graph))
runs_loaded wish stats told again opened graph same opening sourced read =
    let Of : Option (List (List ℕ)) → Type 0 = λ told. IfSome told (λ helds. graph ≡ graph_on opened helds) in
    loaded told (runs_so wish stats told opened opening sourced) (subst Of same read) where
      loaded : (told : Option (List (List ℕ))) → IfSome told (λ helds. outcome_of wish stats helds ≡ run_outcome wish stats (head_of wish.pick opened.header) (run_on wish opened helds)) →
          IfSome told (λ helds. graph ≡ graph_on opened helds) → IfSome told (λ helds. outcome_of wish stats helds ≡ run_outcome wish stats (head_of wish.pick opened.header) (run_in wish graph))
      loaded None so read = tt
      loaded (Some helds) so read = so ∙ ap (λ graph. run_outcome wish stats (head_of wish.pick opened.header) (run_in wish graph)) (sym read)

-- what is read of the drives by a run in memory: where opening ended, where reading ended, and all
pub ref_reads_first : {D : Type 0} (log : D → Option (List Read)) (wish : Wish) (told : Option (List (List ℕ))) (olds news : List D) →
    IfSome told (λ helds. LogsGrewByFirst log (opening_reads helds) olds news) → IfSome told (λ helds. LogsGrewByFirst log (ref_reads wish helds) olds news)
ref_reads_first log wish told olds news reads =
    IfSome_then told reads (λ helds first. LogsGrewByFirst-before log (opening_reads helds) (image_reads_of wish (opening_of helds)) olds news first)

-- the image is read whole where the source is a vertex
sourced_whole : (opened : Opened) (own : Option ℕ) → IfSome own (λ source. source < opened.header.n) → sourced_reads opened own ≡ whole_reads opened.layout
sourced_whole opened None below = refl
sourced_whole opened (Some source) below =
    let vertex : nat_le opened.header.n source ≡ false = le_fails opened.header.n source below in
    rw vertex refl

image_whole : (wish : Wish) (opened : Opened) (given : Result Opened Refusal) → given ≡ Ok opened → IsSourced wish.pick opened.header.n →
    image_reads_of wish given ≡ whole_reads opened.layout
image_whole wish opened given is sourced = ap (image_reads_of wish) is ∙ sourced_whole opened (source_of wish.pick) sourced

pub ref_reads_some : {D : Type 0} (log : D → Option (List Read)) (wish : Wish) (told : Option (List (List ℕ))) (opened : Opened) (olds betweens news : List D) →
    IfSome told (λ helds. opening_of helds ≡ Ok opened) → IsSourced wish.pick opened.header.n → IfSome told (λ helds. LogsGrew log (opening_reads helds) olds betweens) →
    LogsGrewByFirst log (whole_reads opened.layout) betweens news → IfSome told (λ helds. LogsGrewByFirst log (ref_reads wish helds) olds news)
ref_reads_some log wish None opened olds betweens news opening sourced first reads = tt
ref_reads_some log wish (Some helds) opened olds betweens news opening sourced first reads =
    let By : List DriveRead → Type 0 = λ given. LogsGrewByFirst log given betweens news in
    LogsGrewByFirst-more log (opening_reads helds) (image_reads_of wish (opening_of helds)) olds betweens news first
    (subst By (sym (image_whole wish opened (opening_of helds) opening sourced)) reads)

pub ref_reads_all : {D : Type 0} (log : D → Option (List Read)) (wish : Wish) (told : Option (List (List ℕ))) (opened : Opened) (olds betweens news : List D) →
    IfSome told (λ helds. opening_of helds ≡ Ok opened) → IsSourced wish.pick opened.header.n → IfSome told (λ helds. LogsGrew log (opening_reads helds) olds betweens) →
    LogsGrew log (whole_reads opened.layout) betweens news → IfSome told (λ helds. LogsGrew log (ref_reads wish helds) olds news)
ref_reads_all log wish None opened olds betweens news opening sourced first reads = tt
ref_reads_all log wish (Some helds) opened olds betweens news opening sourced first reads =
    let By : List DriveRead → Type 0 = λ given. LogsGrew log given betweens news in
    LogsGrew-more log (opening_reads helds) (image_reads_of wish (opening_of helds)) olds betweens news first
    (subst By (sym (image_whole wish opened (opening_of helds) opening sourced)) reads)

-- reads of opening alone
pub reads_first : {D : Type 0} (log : D → Option (List Read)) (wish : Wish) (told : Option (List (List ℕ))) (olds news : List D) →
    IfSome told (λ helds. LogsGrewByFirst log (opening_reads helds) olds news) → IfSome told (λ helds. RunReads log wish helds olds news)
reads_first log wish told olds news reads = IfSome_then told reads (λ helds first. inl first)

-- all reads of opening, and then of pages that the run asks for
pub reads_all : {D : Type 0} (log : D → Option (List Read)) (wish : Wish) (told again : Option (List (List ℕ))) (opened : Opened) (olds betweens news : List D) →
    again ≡ told → IfSome told (λ helds. opening_of helds ≡ Ok opened) →
    IfSome told (λ helds. LogsGrew log (opening_reads helds) olds betweens) →
    IfSome again (λ helds. LogsGrewBy (IsAskedBy wish helds (Ok opened)) log betweens news) →
    IfSome told (λ helds. RunReadsAll log wish helds olds news)
reads_all log wish None again opened olds betweens news same opening first asked = tt
reads_all log wish (Some helds) again opened olds betweens news same opening first asked =
    let Of : Option (List (List ℕ)) → Type 0 = λ told. IfSome told (λ helds. LogsGrewBy (IsAskedBy wish helds (Ok opened)) log betweens news) in
    let By : Result Opened Refusal → Type 0 = λ given. LogsGrewBy (IsAskedBy wish helds given) log betweens news in
    let more = subst By (sym opening) (subst Of same asked) in
    (more.0, more.1, LogsGrew-more log (opening_reads helds) more.0 olds betweens news first more.2)

-- where the run asked for no page yet
pub reads_none : {D : Type 0} (log : D → Option (List Read)) (wish : Wish) (told : Option (List (List ℕ))) (opened : Opened) (olds news : List D) →
    IfSome told (λ helds. opening_of helds ≡ Ok opened) → IfSome told (λ helds. LogsGrew log (opening_reads helds) olds news) →
    IfSome told (λ helds. RunReadsAll log wish helds olds news)
reads_none {D} log wish told opened olds news opening first =
    reads_all log wish told told opened olds news news refl opening first (none told) where
      none : (told : Option (List (List ℕ))) → IfSome told (λ helds. LogsGrewBy (IsAskedBy wish helds (Ok opened)) log news news)
      none None = tt
      none (Some helds) = LogsGrewBy-none (IsAskedBy wish helds (Ok opened)) log news

pub reads_of_all : {D : Type 0} (log : D → Option (List Read)) (wish : Wish) (told : Option (List (List ℕ))) (olds news : List D) →
    IfSome told (λ helds. RunReadsAll log wish helds olds news) → IfSome told (λ helds. RunReads log wish helds olds news)
reads_of_all log wish told olds news reads = IfSome_then told reads (λ helds all. inr all)

-- the tally of a run that is done
pub tally_of : (wish : Wish) (told again : Option (List (List ℕ))) (opened : Opened) (tally : Tallied) → again ≡ told →
    IfSome told (λ helds. opening_of helds ≡ Ok opened) → IfSome again (λ helds. RoseByRun (run_on wish opened helds) tally) →
    IfSome told (λ helds. RoseByWish wish (held_graph helds) tally)
tally_of wish None again opened tally same opening rose = tt
tally_of wish (Some helds) again opened tally same opening rose =
    let Of : Option (List (List ℕ)) → Type 0 = λ told. IfSome told (λ helds. RoseByRun (run_on wish opened helds) tally) in
    let By : Result Opened Refusal → Type 0 = λ given. RoseByWish wish (opened_graph helds given) tally in
    subst By (sym opening) (subst Of same rose)

-- where the status is 0 nothing was refused
pub not_refused : (f0 f1 : ℕ) (t0 t1 : Option (List ℕ)) (back : Bool) (refusal : Refusal) (text : List ℕ) (status : ℕ) (P : Type 0) →
    IsWritten (output_over f0 f1 t0 t1 back) (Some refusal) text status → status ≡ 0 → P
not_refused f0 f1 t0 t1 back refusal text status P written zero = absurd (refused_status (output_over f0 f1 t0 t1 back) refusal text status written zero)
