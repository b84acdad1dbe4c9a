-- A run, step by step: what is said of it once so many iterations are finished.
use Rattle.std.proofs.Common.{◌≡◌, ℕ, zero, suc, ◌+◌, ◌-◌, ◌<◌, ◌≤◌, Option, None, Some, Result, Ok, List, [], ◌∷◌, ◌++◌, length, take, drop, map, refl, ap, sym, subst, ◌∙◌, arith, lit<}
use Rattle.std.specs.Prelude.{Contains, sum_by}
use Rattle.std.proofs.lemmas.List.{append-nil, append_assoc, length-append, map-append}
use Rattle.std.proofs.lemmas.List.Elements.{Contains-append_left, Contains-append_right}
use Rattle.std.proofs.lemmas.List.Sums.{sum_by-append, sum_by-cons}
use Rattle.std.proofs.lemmas.Grind.{flat_map-append}
use Rattle.std.proofs.Math.Seq.{take-append_seam, drop-append_seam}
use Rattle.fg_base.specs.declared.plain.BadEdge.{BadEdge}
use Rattle.fg_base.specs.declared.plain.VState.{VState}
use Rattle.fg_base.specs.Told.{grown, GrewByFirst}
use Rattle.fg_base.proofs.ToldLemmas.{grown-nil, grown-grown}
use Rattle.fg_model.specs.declared.graph.Graph.{Graph}
use Rattle.fg_model.specs.declared.run.End.{End}
use Rattle.fg_model.specs.declared.run.RunFault.{RunFault}
use Rattle.fg_model.specs.declared.stand.Stand.{Stand}
use Rattle.fg_model.specs.declared.stand.Stand.TheVariants.{Begins, Rests}
use Rattle.fg_model.specs.declared.watch.IterLine.{IterLine}
use Rattle.fg_model.specs.declared.iteration.Counts.{Counts}
use Rattle.fg_model.specs.declared.iteration.Iteration.{Iteration}
use Rattle.fg_model.specs.declared.iteration.IterFault.{IterFault}
use Rattle.fg_model.specs.declared.iteration.IterFault.TheVariants as Iter
use Rattle.fg_model.specs.Engine.{HasCounted, IsFirstOf, MatchIterFault, RoseUpTo, RoseWith, TallyRoseWith, run_fault_of}
use Rattle.fg_model.specs.Iteration.{Begun, IsIteration, after, begun_at, first_bad}
use Rattle.fg_model.specs.Program.{Rules}
use Rattle.fg_model.specs.Run.{Ending, Settled, Stopped, Refused, Finished, Run, answer_at, answer_of, begun_last, begun_of, ended, entries_of, last_end, led, opening_states, run, run_from, runs_of, stand}
use Rattle.fg_model.specs.Watch.{Grew, ShownAll, ShownPart, ShownSome, line_at, line_of, told_of}

-- the counts of a finished iteration
abbrev pub counts_of : Iteration → Counts
counts_of iteration = record { active = iteration.active; messages = iteration.messages }

-- one iteration, finished
abbrev pub finished_at : Rules → Graph → ℕ → ℕ → List VState → Finished
finished_at P graph number phase states = record { number = number; begun = begun_at P graph phase states; states = after P graph phase states }

led_nil : (run : Run) → led [] run ≡ run
unfolding led
led_nil run = refl

led_led : (first next : List Finished) (run : Run) → led first (led next run) ≡ led (first ++ next) run
unfolding led
led_led first next run = ap (λ (finished : List Finished). let r : Run = record { finished = finished; ending = run.ending; iterations = run.iterations; phase = run.phase; states = run.states } in r) (sym (append_assoc first next run.finished))

-- the four ways on from where a run stands
rests : (P : Rules) (graph : Graph) (left number phase last : ℕ) (states : List VState) → stand P phase states ≡ Rests last → run_from P graph left number phase states ≡ ended Settled number last states
unfolding run_from
rests P graph zero number phase last states is = rw is refl
rests P graph (suc left) number phase last states is = rw is refl

stops : (P : Rules) (graph : Graph) (left number phase last : ℕ) (states : List VState) → left ≡ 0 → stand P phase states ≡ Begins last → run_from P graph left number phase states ≡ ended Stopped number last states
unfolding run_from
stops P graph left number phase last states none is = rw (none, is) refl

refuses : (P : Rules) (graph : Graph) (left more number phase begins : ℕ) (states : List VState) (bad : BadEdge) → left ≡ suc more → stand P phase states ≡ Begins begins → first_bad P graph begins states ≡ Some bad
    → run_from P graph left number phase states ≡ ended (Refused (begun_at P graph begins states) bad) number begins states
unfolding run_from
refuses P graph left more number phase begins states bad some is is_bad = rw (some, is, is_bad) refl

goes_on : (P : Rules) (graph : Graph) (left more number phase begins : ℕ) (states : List VState) → left ≡ suc more → stand P phase states ≡ Begins begins → first_bad P graph begins states ≡ None
    → run_from P graph left number phase states ≡ led (finished_at P graph number begins states ∷ []) (run_from P graph more (number + 1) begins (after P graph begins states))
unfolding run_from
goes_on P graph left more number phase begins states some is is_none = rw (some, is, is_none) refl

-- so many iterations are finished, and the run goes on from this phase and these states
pub record IsAt (P : Rules) (graph : Graph) (most : ℕ) (done : List Finished) (number phase : ℕ) (states : List VState) : Type 0 where
  pub split : run P graph most ≡ led done (run_from P graph (most - number) number phase states)

pub at_opening : (P : Rules) (graph : Graph) (most : ℕ) → IsAt P graph most [] 0 0 (opening_states P graph)
unfolding run
at_opening P graph most = record { split = let e : most - 0 ≡ most = omega arith in rw e (sym (led_nil (run_from P graph most 0 0 (opening_states P graph)))) }

pub at_next : (P : Rules) (graph : Graph) (most : ℕ) (done : List Finished) (number phase begins : ℕ) (states : List VState)
    → IsAt P graph most done number phase states → number < most → stand P phase states ≡ Begins begins → first_bad P graph begins states ≡ None
    → IsAt P graph most (done ++ finished_at P graph number begins states ∷ []) (number + 1) begins (after P graph begins states)
at_next P graph most done number phase begins states is_at below is is_none = record {
  split = is_at.split ∙ ap (led done) (goes_on P graph (most - number) (most - (number + 1)) number phase begins states (omega arith) is is_none)
      ∙ led_led done (finished_at P graph number begins states ∷ []) (run_from P graph (most - (number + 1)) (number + 1) begins (after P graph begins states));
}

-- the run ends here
pub record EndsAt (P : Rules) (graph : Graph) (most : ℕ) (done : List Finished) (ending : Ending) (number phase : ℕ) (states : List VState) : Type 0 where
  pub split : run P graph most ≡ led done (ended ending number phase states)

pub at_rest : (P : Rules) (graph : Graph) (most : ℕ) (done : List Finished) (number phase last : ℕ) (states : List VState)
    → IsAt P graph most done number phase states → stand P phase states ≡ Rests last → EndsAt P graph most done Settled number last states
at_rest P graph most done number phase last states is_at is = record { split = is_at.split ∙ ap (led done) (rests P graph (most - number) number phase last states is) }

pub at_stop : (P : Rules) (graph : Graph) (most : ℕ) (done : List Finished) (number phase last : ℕ) (states : List VState)
    → IsAt P graph most done number phase states → most ≤ number → stand P phase states ≡ Begins last → EndsAt P graph most done Stopped number last states
at_stop P graph most done number phase last states is_at full is = record { split = is_at.split ∙ ap (led done) (stops P graph (most - number) number phase last states (omega arith) is) }

pub at_bad : (P : Rules) (graph : Graph) (most : ℕ) (done : List Finished) (number phase begins : ℕ) (states : List VState) (bad : BadEdge)
    → IsAt P graph most done number phase states → number < most → stand P phase states ≡ Begins begins → first_bad P graph begins states ≡ Some bad
    → EndsAt P graph most done (Refused (begun_at P graph begins states) bad) number begins states
at_bad P graph most done number phase begins states bad is_at below is is_bad = record {
  split = is_at.split ∙ ap (led done) (refuses P graph (most - number) (most - (number + 1)) number phase begins states bad (omega arith) is is_bad);
}

-- what the run answers and what is finished in it, at its end
pub end_answer : (P : Rules) (graph : Graph) (most : ℕ) (done : List Finished) (ending : Ending) (number phase : ℕ) (states : List VState)
    → EndsAt P graph most done ending number phase states → answer_of (run P graph most) ≡ answer_at ending number phase states
unfolding answer_of led
end_answer P graph most done ending number phase states ends = ap answer_of ends.split

pub end_finished : (P : Rules) (graph : Graph) (most : ℕ) (done : List Finished) (ending : Ending) (number phase : ℕ) (states : List VState)
    → EndsAt P graph most done ending number phase states → (run P graph most).finished ≡ done
unfolding led
end_finished P graph most done ending number phase states ends = ap (λ (r : Run). r.finished) ends.split ∙ append-nil done

-- what is finished so far is a first part of the run's finished iterations
pub at_finished : (P : Rules) (graph : Graph) (most : ℕ) (done : List Finished) (number phase : ℕ) (states : List VState)
    → IsAt P graph most done number phase states → (run P graph most).finished ≡ done ++ (run_from P graph (most - number) number phase states).finished
unfolding led
at_finished P graph most done number phase states is_at = ap (λ (r : Run). r.finished) is_at.split

-- what began so far is a first part of what begins in the run
abbrev pub begun_in : List Finished → List Begun
begun_in done = map (λ finished. finished.begun) done

begun_led : (done : List Finished) (run : Run) → begun_of (led done run) ≡ begun_in done ++ begun_of run
unfolding begun_of led
begun_led done run = ap (λ (xs : List Begun). xs ++ begun_last run.ending) (map-append (λ (finished : Finished). finished.begun) done run.finished) ∙ append_assoc (begun_in done) (begun_in run.finished) (begun_last run.ending)

pub end_begun : (P : Rules) (graph : Graph) (most : ℕ) (done : List Finished) (ending : Ending) (number phase : ℕ) (states : List VState)
    → EndsAt P graph most done ending number phase states → begun_of (run P graph most) ≡ begun_in done ++ begun_last ending
unfolding begun_of
end_begun P graph most done ending number phase states ends = ap begun_of ends.split ∙ begun_led done (ended ending number phase states)

pub at_begun : (P : Rules) (graph : Graph) (most : ℕ) (done : List Finished) (number phase : ℕ) (states : List VState)
    → IsAt P graph most done number phase states → begun_of (run P graph most) ≡ begun_in done ++ begun_of (run_from P graph (most - number) number phase states)
at_begun P graph most done number phase states is_at = ap begun_of is_at.split ∙ begun_led done (run_from P graph (most - number) number phase states)

-- the iteration that begins next is the next of those that begin in the run
begins_next : (P : Rules) (graph : Graph) (left more number phase begins : ℕ) (states : List VState) (bad : Option BadEdge) → first_bad P graph begins states ≡ bad → left ≡ suc more → stand P phase states ≡ Begins begins
    → (rest : List Begun) × (begun_of (run_from P graph left number phase states) ≡ begun_at P graph begins states ∷ rest)
unfolding begun_of led
begins_next P graph left more number phase begins states None is_none some is =
    (begun_of (run_from P graph more (number + 1) begins (after P graph begins states)), ap begun_of (goes_on P graph left more number phase begins states some is is_none))
begins_next P graph left more number phase begins states (Some bad) is_bad some is =
    ([], ap begun_of (refuses P graph left more number phase begins states bad some is is_bad))

pub at_begins : (P : Rules) (graph : Graph) (most : ℕ) (done : List Finished) (number phase begins : ℕ) (states : List VState)
    → IsAt P graph most done number phase states → number < most → stand P phase states ≡ Begins begins
    → (rest : List Begun) × (begun_of (run P graph most) ≡ (begun_in done ++ begun_at P graph begins states ∷ []) ++ rest)
at_begins P graph most done number phase begins states is_at below is =
    let next = begins_next P graph (most - number) (most - (number + 1)) number phase begins states (first_bad P graph begins states) refl (omega arith) is in
    (next.0, at_begun P graph most done number phase states is_at ∙ ap (λ (xs : List Begun). begun_in done ++ xs) next.1 ∙ sym (append_assoc (begun_in done) (begun_at P graph begins states ∷ []) next.0))

-- what is known once so many iterations are finished: where the run is, what was shown, and how the tally rose
pub record Known {N : Type 0} (P : Rules) (graph : Graph) (most : ℕ) (told : IterLine → List VState → List N) (done : List Finished) (number phase : ℕ) (states : List VState) (old new : Option (List N)) (runs_old runs entries_old entries : ℕ) : Type 0 where
  pub is_at : IsAt P graph most done number phase states
  pub was_shown : ShownAll told done old new
  pub runs_grew : runs ≡ runs_old + runs_of done
  pub entries_grew : entries ≡ entries_old + entries_of done

pub known_opening : {N : Type 0} (P : Rules) (graph : Graph) (most : ℕ) (told : IterLine → List VState → List N) (states : List VState) (old : Option (List N)) (runs entries : ℕ)
    → states ≡ opening_states P graph → Known P graph most told [] 0 0 states old old runs runs entries entries
unfolding told_of
known_opening P graph most told states old runs entries is = record {
  is_at = let Q : List VState → Type 0 = λ s. IsAt P graph most [] 0 0 s in subst Q (sym is) (at_opening P graph most);
  was_shown = sym (grown-nil old);
  runs_grew = omega arith;
  entries_grew = omega arith;
}

line_is : (P : Rules) (graph : Graph) (number begins : ℕ) (states : List VState) (iteration : Iteration) → IsIteration P graph begins states iteration
    → line_at number begins (counts_of iteration) ≡ line_of (finished_at P graph number begins states)
unfolding begun_at
line_is P graph number begins states iteration is =
    ap (λ (active : ℕ). let l : IterLine = record { number = number; phase = begins; active = active; messages = iteration.messages } in l) is.active_count
    ∙ ap (λ (messages : ℕ). let l : IterLine = record { number = number; phase = begins; active = length (begun_at P graph begins states).active; messages = messages } in l) is.message_count

told_one : {N : Type 0} (told : IterLine → List VState → List N) (P : Rules) (graph : Graph) (number begins : ℕ) (states : List VState) (iteration : Iteration) → IsIteration P graph begins states iteration
    → told_of told (finished_at P graph number begins states ∷ []) ≡ told (line_at number begins (counts_of iteration)) iteration.states
unfolding told_of
told_one told P graph number begins states iteration is =
    append-nil (told (line_of (finished_at P graph number begins states)) (after P graph begins states))
    ∙ sym (ap (λ (l : IterLine). told l iteration.states) (line_is P graph number begins states iteration is) ∙ ap (told (line_of (finished_at P graph number begins states))) is.next_states)

told-append : {N : Type 0} (told : IterLine → List VState → List N) (first next : List Finished) → told_of told (first ++ next) ≡ told_of told first ++ told_of told next
unfolding told_of
told-append told first next = flat_map-append (λ (iteration : Finished). told (line_of iteration) iteration.states) first next

-- one iteration more
pub known_next : {N : Type 0} (P : Rules) (graph : Graph) (most : ℕ) (told : IterLine → List VState → List N) (done : List Finished) (number phase begins : ℕ) (states : List VState) (iteration : Iteration) (old new newer : Option (List N)) (runs_old runs more_runs entries_old entries more_entries : ℕ)
    → Known P graph most told done number phase states old new runs_old runs entries_old entries
    → number < most → stand P phase states ≡ Begins begins → IsIteration P graph begins states iteration
    → newer ≡ grown new (told (line_at number begins (counts_of iteration)) iteration.states)
    → more_runs ≡ runs + iteration.active → more_entries ≡ entries + iteration.messages
    → Known P graph most told (done ++ finished_at P graph number begins states ∷ []) (number + 1) begins iteration.states old newer runs_old more_runs entries_old more_entries
known_next {N = N} P graph most told done number phase begins states iteration old new newer runs_old runs more_runs entries_old entries more_entries known below is is_iteration shown ran_more entries_more = record {
  is_at = let Q : List VState → Type 0 = λ s. IsAt P graph most (done ++ finished_at P graph number begins states ∷ []) (number + 1) begins s in
      subst Q (sym is_iteration.next_states) (at_next P graph most done number phase begins states known.is_at below is is_iteration.no_bad_edge);
  was_shown = shown
      ∙ ap (λ (o : Option (List N)). grown o (told (line_at number begins (counts_of iteration)) iteration.states)) known.was_shown
      ∙ grown-grown old (told_of told done) (told (line_at number begins (counts_of iteration)) iteration.states)
      ∙ ap (λ (xs : List N). grown old (told_of told done ++ xs)) (sym (told_one told P graph number begins states iteration is_iteration))
      ∙ ap (grown old) (sym (told-append told done (finished_at P graph number begins states ∷ [])));
  runs_grew = let e = sum_by-append (λ (f : Finished). length f.begun.active) done (finished_at P graph number begins states ∷ []) in
      omega (arith, known.runs_grew, is_iteration.active_count, e);
  entries_grew = let e = sum_by-append (λ (f : Finished). f.begun.messages) done (finished_at P graph number begins states ∷ []) in
      omega (arith, known.entries_grew, is_iteration.message_count, e);
}

-- where the run doesn't go on, some first finished iterations were shown
pub known_some : {N : Type 0} (P : Rules) (graph : Graph) (most : ℕ) (told : IterLine → List VState → List N) (done : List Finished) (number phase : ℕ) (states : List VState) (old new : Option (List N)) (runs_old runs entries_old entries : ℕ)
    → Known P graph most told done number phase states old new runs_old runs entries_old entries
    → ShownSome told (run P graph most).finished old new
known_some P graph most told done number phase states old new runs_old runs entries_old entries known =
    let rest = (run_from P graph (most - number) number phase states).finished in
    let front : take (length done) (run P graph most).finished ≡ done =
    ap (take (length done)) (at_finished P graph most done number phase states known.is_at) ∙ take-append_seam done rest in
    (length done, known.was_shown ∙ ap (λ (d : List Finished). grown old (told_of told d)) (sym front))

-- where the watch fails, a prefix of what it tells of the next one too
pub known_part : {N : Type 0} (P : Rules) (graph : Graph) (most : ℕ) (told : IterLine → List VState → List N) (done : List Finished) (number phase begins : ℕ) (states : List VState) (iteration : Iteration) (old new newer : Option (List N)) (runs_old runs entries_old entries : ℕ)
    → Known P graph most told done number phase states old new runs_old runs entries_old entries
    → number < most → stand P phase states ≡ Begins begins → IsIteration P graph begins states iteration
    → GrewByFirst (told (line_at number begins (counts_of iteration)) iteration.states) new newer
    → ShownPart told (run P graph most).finished old newer
known_part {N = N} P graph most told done number phase begins states iteration old new newer runs_old runs entries_old entries known below is is_iteration grew =
    let fin = finished_at P graph number begins states in
    let next = at_next P graph most done number phase begins states known.is_at below is is_iteration.no_bad_edge in
    let rest = (run_from P graph (most - (number + 1)) (number + 1) begins (after P graph begins states)).finished in
    let whole : (run P graph most).finished ≡ done ++ (fin ∷ rest) =
    at_finished P graph most (done ++ fin ∷ []) (number + 1) begins (after P graph begins states) next ∙ append_assoc done (fin ∷ []) rest in
    let front : take (length done) (run P graph most).finished ≡ done = ap (take (length done)) whole ∙ take-append_seam done (fin ∷ rest) in
    let behind : drop (length done) (run P graph most).finished ≡ fin ∷ rest = ap (drop (length done)) whole ∙ drop-append_seam done (fin ∷ rest) in
    let one : take 1 (drop (length done) (run P graph most).finished) ≡ fin ∷ [] = ap (take 1) behind in
    let longer : length done < length (run P graph most).finished = omega (arith, ap (λ (xs : List Finished). length xs) whole, length-append done (fin ∷ rest)) in
    let told_next : told_of told (take 1 (drop (length done) (run P graph most).finished)) ≡ told (line_at number begins (counts_of iteration)) iteration.states =
    ap (told_of told) one ∙ told_one told P graph number begins states iteration is_iteration in (
      length done,
      grew.0,
      longer,
      grew.1
          ∙ ap (λ (o : Option (List N)). grown o (take grew.0 (told (line_at number begins (counts_of iteration)) iteration.states))) known.was_shown
          ∙ grown-grown old (told_of told done) (take grew.0 (told (line_at number begins (counts_of iteration)) iteration.states))
          ∙ ap (λ (xs : List N). grown old (told_of told done ++ take grew.0 xs)) (sym told_next)
          ∙ ap (λ (d : List Finished). grown old (told_of told d ++ take grew.0 (told_of told (take 1 (drop (length done) (run P graph most).finished))))) (sym front),
    )

-- at the run's end: everything
pub record Over {N : Type 0} (P : Rules) (graph : Graph) (most : ℕ) (told : IterLine → List VState → List N) (done : List Finished) (answer : Result End RunFault) (last_begun : List Begun) (old new : Option (List N)) (runs_old runs entries_old entries : ℕ) : Type 0 where
  pub is_answer : answer_of (run P graph most) ≡ answer
  pub all_begun : begun_of (run P graph most) ≡ begun_in done ++ last_begun
  pub was_shown : ShownAll told (run P graph most).finished old new
  pub runs_grew : runs ≡ runs_old + runs_of (run P graph most).finished
  pub entries_grew : entries ≡ entries_old + entries_of (run P graph most).finished

pub known_over : {N : Type 0} (P : Rules) (graph : Graph) (most : ℕ) (told : IterLine → List VState → List N) (done : List Finished) (number phase last : ℕ) (states : List VState) (ending : Ending) (old new : Option (List N)) (runs_old runs entries_old entries : ℕ)
    → Known P graph most told done number phase states old new runs_old runs entries_old entries
    → EndsAt P graph most done ending number last states
    → Over P graph most told done (answer_at ending number last states) (begun_last ending) old new runs_old runs entries_old entries
known_over P graph most told done number phase last states ending old new runs_old runs entries_old entries known ends =
    let all = end_finished P graph most done ending number last states ends in
    record {
      is_answer = end_answer P graph most done ending number last states ends;
      all_begun = end_begun P graph most done ending number last states ends;
      was_shown = known.was_shown ∙ ap (λ (d : List Finished). grown old (told_of told d)) (sym all);
      runs_grew = known.runs_grew ∙ ap (λ (d : List Finished). runs_old + runs_of d) (sym all);
      entries_grew = known.entries_grew ∙ ap (λ (d : List Finished). entries_old + entries_of d) (sym all);
    }

-- with no iteration left it ends as it stands
pub known_last : {N : Type 0} (P : Rules) (graph : Graph) (most : ℕ) (told : IterLine → List VState → List N) (done : List Finished) (number phase : ℕ) (states : List VState) (old new : Option (List N)) (runs_old runs entries_old entries : ℕ) (last : Stand)
    → Known P graph most told done number phase states old new runs_old runs entries_old entries → most ≤ number → stand P phase states ≡ last
    → Over P graph most told done (Ok (last_end number states last)) [] old new runs_old runs entries_old entries
known_last P graph most told done number phase states old new runs_old runs entries_old entries (Rests last) known full is =
    known_over P graph most told done number phase last states Settled old new runs_old runs entries_old entries known (at_rest P graph most done number phase last states known.is_at is)
known_last P graph most told done number phase states old new runs_old runs entries_old entries (Begins last) known full is =
    known_over P graph most told done number phase last states Stopped old new runs_old runs entries_old entries known (at_stop P graph most done number phase last states known.is_at full is)

pub states-last_end : (number : ℕ) (states : List VState) (last : Stand) → (last_end number states last).states ≡ states
states-last_end number states (Rests phase) = refl
states-last_end number states (Begins phase) = refl

-- what was read is what some first iterations may read
pub first_begun : (begun done rest : List Begun) (all : List Begun) → begun ≡ done → all ≡ done ++ rest → IsFirstOf begun all
first_begun begun done rest all is whole = (length done, is ∙ sym (ap (take (length done)) whole ∙ take-append_seam done rest))

pub begun_in-more : (done : List Finished) (P : Rules) (graph : Graph) (number begins : ℕ) (states : List VState) → begun_in (done ++ finished_at P graph number begins states ∷ []) ≡ begun_in done ++ begun_at P graph begins states ∷ []
begun_in-more done P graph number begins states = map-append (λ (finished : Finished). finished.begun) done (finished_at P graph number begins states ∷ [])

-- an iteration's facts for a graph and states that are the same
pub iteration_moved : (P : Rules) (graph same_graph : Graph) (phase : ℕ) (states same_states : List VState) (iteration : Iteration) → graph ≡ same_graph → states ≡ same_states
    → IsIteration P graph phase states iteration → IsIteration P same_graph phase same_states iteration
iteration_moved P graph same_graph phase states same_states iteration is_graph is_states is =
    let of_graph : Graph → Type 0 = λ g. IsIteration P g phase same_states iteration in
    let of_states : List VState → Type 0 = λ s. IsIteration P graph phase s iteration in
    subst of_graph is_graph (subst of_states is_states is)

pub bad_moved : (P : Rules) (graph same_graph : Graph) (phase : ℕ) (states same_states : List VState) (bad : BadEdge) → graph ≡ same_graph → states ≡ same_states
    → first_bad P graph phase states ≡ Some bad → first_bad P same_graph phase same_states ≡ Some bad
bad_moved P graph same_graph phase states same_states bad is_graph is_states is = cc

pub told_moved : {N : Type 0} (told same_told : IterLine → List VState → List N) (line : IterLine) (states : List VState) → told ≡ same_told → told line states ≡ same_told line states
told_moved {N = N} told same_told line states is_told = ap (λ (t : IterLine → List VState → List N). t line states) is_told

pub begun_moved : (P : Rules) (graph same_graph : Graph) (phase : ℕ) (states same_states : List VState) → graph ≡ same_graph → states ≡ same_states → begun_at P graph phase states ≡ begun_at P same_graph phase same_states
begun_moved P graph same_graph phase states same_states is_graph is_states = cc

-- the iteration that begins is among those that begin in the run
pub at_begins_contains : (P : Rules) (graph : Graph) (most : ℕ) (done : List Finished) (number phase begins : ℕ) (states : List VState)
    → IsAt P graph most done number phase states → number < most → stand P phase states ≡ Begins begins → Contains (begun_of (run P graph most)) (begun_at P graph begins states)
at_begins_contains P graph most done number phase begins states is_at below is =
    let next = at_begins P graph most done number phase begins states is_at below is in
    let here : Contains (begun_at P graph begins states ∷ []) (begun_at P graph begins states) = (0, lit< tt, refl) in
    let of_list : List Begun → Type 0 = λ xs. Contains xs (begun_at P graph begins states) in
    subst of_list (sym next.1) (Contains-append_left (begun_in done ++ begun_at P graph begins states ∷ []) next.0 (begun_at P graph begins states)
    (Contains-append_right (begun_in done) (begun_at P graph begins states ∷ []) (begun_at P graph begins states) here))

-- a fault of an iteration, as the fault of the run that it is
pub as_run_fault : (Is : RunFault → Type 0) (fault : IterFault) (memory : Type 0) (drive : ℕ → Type 0) (bad : BadEdge → Type 0)
    → (memory → Is RunFault.Memory) → ((d : ℕ) → drive d → Is (RunFault.Drive d)) → ((edge : BadEdge) → bad edge → Is (RunFault.BadEdge edge))
    → MatchIterFault fault memory drive bad → Is (run_fault_of fault)
as_run_fault Is Iter.Memory memory drive bad by_memory by_drive by_bad fact = by_memory fact
as_run_fault Is (Iter.Drive d) memory drive bad by_memory by_drive by_bad fact = by_drive d fact
as_run_fault Is (Iter.BadEdge edge) memory drive bad by_memory by_drive by_bad fact = by_bad edge fact

-- before the run nothing was shown
pub shown_none : {N : Type 0} (told : IterLine → List VState → List N) (finished : List Finished) (old : Option (List N)) → ShownSome told finished old old
unfolding told_of
shown_none told finished old = (0, sym (grown-nil old))

-- nothing noted, and one growth after another
pub grew_none : {N : Type 0} (old : Option (List N)) → Grew old old
grew_none old = ([], sym (grown-nil old))

pub grew_more : {N : Type 0} (old middle new : Option (List N)) (more : List N) → Grew old middle → new ≡ grown middle more → Grew old new
grew_more {N} old middle new more (first, grew) next = (first ++ more, next ∙ ap (λ (o : Option (List N)). grown o more) grew ∙ grown-grown old first more)

-- a count that rose with iterations that are all finished
pub record RoseAll (amount : Begun → ℕ) (begun : List Begun) (old new : ℕ) : Type 0 where
  pub by_all : new ≡ old + sum_by amount begun

pub rose_none : (amount : Begun → ℕ) (old : ℕ) → RoseAll amount [] old old
rose_none amount old = record { by_all = omega arith }

-- one more finished
pub rose_more : (amount : Begun → ℕ) (begun : List Begun) (last : Begun) (old middle new : ℕ) → RoseAll amount begun old middle → new ≡ middle + amount last → RoseAll amount (begun ++ last ∷ []) old new
rose_more amount begun last old middle new rose is = record { by_all = omega (arith, rose.by_all, is, sum_by-append amount begun (last ∷ [])) }

sum_of_fewer : (amount : Begun → ℕ) (k : ℕ) (begun : List Begun) → sum_by amount (take k begun) ≤ sum_by amount begun
sum_of_fewer amount zero begun = omega arith
sum_of_fewer amount (suc k) [] = omega arith
sum_of_fewer amount (suc k) (one ∷ begun) = omega (arith, sum_of_fewer amount k begun, sum_by-cons amount one (take k begun), sum_by-cons amount one begun)

-- all were finished, or the last was cut short
pub rose_whole : (amount : Begun → ℕ) (begun : List Begun) (old new : ℕ) → RoseAll amount begun old new → RoseWith amount begun old new
rose_whole amount begun old new rose = record { at_least = omega (arith, rose.by_all, sum_of_fewer amount (length begun - 1) begun); at_most = omega (arith, rose.by_all) }

pub rose_part : (amount : Begun → ℕ) (begun : List Begun) (last : Begun) (old middle new : ℕ) → RoseAll amount begun old middle → RoseUpTo (amount last) middle new → RoseWith amount (begun ++ last ∷ []) old new
rose_part amount begun last old middle new rose up =
    let front : take (length (begun ++ last ∷ []) - 1) (begun ++ last ∷ []) ≡ begun =
    ap (λ (k : ℕ). take k (begun ++ last ∷ [])) (omega (arith, length-append begun (last ∷ []))) ∙ take-append_seam begun (last ∷ []) in
    record {
      at_least = omega (arith, rose.by_all, up.at_least, ap (sum_by amount) front);
      at_most = omega (arith, rose.by_all, up.at_most, sum_by-append amount begun (last ∷ []));
    }

-- both counts of a tally
pub record TallyRose (begun : List Begun) (runs_old runs entries_old entries : ℕ) : Type 0 where
  pub runs_rose : RoseAll (λ one. length one.active) begun runs_old runs
  pub entries_rose : RoseAll (λ one. one.messages) begun entries_old entries

pub tally_none : (runs entries : ℕ) → TallyRose [] runs runs entries entries
tally_none runs entries = record { runs_rose = rose_none (λ one. length one.active) runs; entries_rose = rose_none (λ one. one.messages) entries }

pub tally_more : (begun : List Begun) (last : Begun) (counts : Counts) (runs_old runs more_runs entries_old entries more_entries : ℕ) → TallyRose begun runs_old runs entries_old entries
    → HasCounted counts last → more_runs ≡ runs + counts.active → more_entries ≡ entries + counts.messages → TallyRose (begun ++ last ∷ []) runs_old more_runs entries_old more_entries
tally_more begun last counts runs_old runs more_runs entries_old entries more_entries rose counted ran entered = record {
  runs_rose = rose_more (λ one. length one.active) begun last runs_old runs more_runs rose.runs_rose (omega (arith, ran, counted.active_count));
  entries_rose = rose_more (λ one. one.messages) begun last entries_old entries more_entries rose.entries_rose (omega (arith, entered, counted.message_count));
}

pub tally_whole : {T : Type 0} (runs entries : T → ℕ) (old new : T) (begun : List Begun) → TallyRose begun (runs old) (runs new) (entries old) (entries new) → TallyRoseWith runs entries old new begun
tally_whole runs entries old new begun rose = record {
  runs_rose = rose_whole (λ one. length one.active) begun (runs old) (runs new) rose.runs_rose;
  entries_rose = rose_whole (λ one. one.messages) begun (entries old) (entries new) rose.entries_rose;
}

pub tally_part : {T : Type 0} (runs entries : T → ℕ) (old middle new : T) (begun : List Begun) (last : Begun) → TallyRose begun (runs old) (runs middle) (entries old) (entries middle)
    → RoseUpTo (length last.active) (runs middle) (runs new) → RoseUpTo last.messages (entries middle) (entries new) → TallyRoseWith runs entries old new (begun ++ last ∷ [])
tally_part runs entries old middle new begun last rose ran entered = record {
  runs_rose = rose_part (λ one. length one.active) begun last (runs old) (runs middle) (runs new) rose.runs_rose ran;
  entries_rose = rose_part (λ one. one.messages) begun last (entries old) (entries middle) (entries new) rose.entries_rose entered;
}
