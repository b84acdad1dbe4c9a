use Rattle.std.proofs.Common.{◌≡◌, ℕ, ◌-◌, true, Some, Ok, Err, List, [], ◌∷◌, ◌++◌, take, refl, ap, sym, subst, ◌∙◌, arith}
use Rattle.std.proofs.lemmas.Result.{err_from_is_err_and}
use Rattle.std.proofs.lemmas.List.{append-nil}
use Rattle.fg_base.specs.declared.plain.BadEdge.{BadEdge}
use Rattle.fg_base.specs.declared.plain.VState.{VState}
use Rattle.std.specs.Prelude.{Contains}
use Rattle.fg_base.specs.Faults.{Rose}
use Rattle.fg_base.specs.Told.{grown, GrewByFirst}
use Rattle.fg_model.specs.declared.graph.Graph.{Graph}
use Rattle.fg_model.specs.declared.stand.Stand.TheVariants.{Begins, Rests}
use Rattle.fg_model.specs.declared.run.End.{End}
use Rattle.fg_model.specs.declared.run.RunFault.{RunFault}
use Rattle.fg_model.specs.Engine.{IsWhole, ShownAs, TellsEnd, TellsFaults, iteration_of}
use Rattle.fg_model.specs.Watch.{line_at}
use Rattle.fg_model.specs.Iteration.{AreStates, Begun, IsIteration, begun_at, first_bad}
use Rattle.fg_model.specs.Run.{Refused, Settled, answer_at, begun_of, last_end, run, run_from, stand}
use Rattle.fg_model.proofs.RunLemmas.{Over, as_run_fault, at_bad, at_begins, at_begins_contains, at_begun, at_rest, bad_moved, begun_in, begun_in-more, begun_moved, finished_at, first_begun, grew_none, grew_more, iteration_moved, known_last, known_next, known_opening, known_over, known_part, known_some, states-last_end, tally_more, tally_none, tally_part, tally_whole, told_moved}
use Rattle.fg_model.proofs.StandLemmas.{are_moved}
use Rattle.fg_model.proofs.run.run_engine.Goals as goal

pub loop-number-init : goal.loop-number-init
loop-number-init g c =
    let P = g.P.Program.rules c.args.program.now in
    let first = c.args.engine.now in
    record {
      is_ready = c.requires.is_ready;
      one_graph = refl;
      one_knows = refl;
      all_allowed = λ rules begun allowed. allowed;
      all_kept = g.met.E.Engine.kept_none first;
      one_told = refl;
      one_borrows = g.met.W.Watch.same_borrows_none c.args.watch.now;
      grew = grew_none (g.W.Watch.notes c.args.watch.now);
      one_count = refl;
      are_states = c.requires.are_states;
      runs_room = omega arith;
      entries_room = omega arith;
      has_begun = (
        [],
        g.met.E.Engine.did_none first P,
        tally_none (g.T.Tally.runs c.args.tally.now) (g.T.Tally.entries c.args.tally.now),
        λ knows. (
          [],
          refl,
          known_opening P (g.E.Engine.graph first) c.args.max (g.W.Watch.told c.args.watch.now) (g.E.Engine.states_of first) (g.W.Watch.notes c.args.watch.now)
              (g.T.Tally.runs c.args.tally.now) (g.T.Tally.entries c.args.tally.now) c.requires.opening,
        ),
      );
    }

pub returns-in-Rests : goal.returns-in-Rests
returns-in-Rests g c =
    let P = g.P.Program.rules c.args.program.now in
    let first = c.args.engine.now in
    let start = c.loop-number.engine in
    let graph = g.E.Engine.graph first in
    let states = g.E.Engine.states_of start in
    let told = g.W.Watch.told c.args.watch.now in
    let old = g.W.Watch.notes c.args.watch.now in
    let new = g.W.Watch.notes c.loop-number.watch in
    let runs_old = g.T.Tally.runs c.args.tally.now in
    let runs = g.T.Tally.runs c.loop-number.tally in
    let entries_old = g.T.Tally.entries c.args.tally.now in
    let entries = g.T.Tally.entries c.loop-number.tally in
    let inv = c.loop-number.invariant in
    let begun = inv.has_begun.0 in
    let known = inv.has_begun.3 in
    let middle = c.find_stand.new.engine in
    let stood = c.in-Rests.ensures in
    let is : stand P c.loop-number.phase states ≡ Rests c.in-Rests.rests = cc stood.value in
    let over : (knows : g.E.Engine.knows first ≡ true) → Over P graph c.args.max told (known knows).0 (answer_at Settled c.loop-number.number c.in-Rests.rests states) [] old new runs_old runs entries_old entries =
    λ knows. let k = known knows in known_over P graph c.args.max told k.0 c.loop-number.number c.loop-number.phase c.in-Rests.rests states Settled old new runs_old runs entries_old entries k.2
    (at_rest P graph c.args.max k.0 c.loop-number.number c.loop-number.phase c.in-Rests.rests states k.2.is_at is) in
    let given = c.give_states.ensures in
    let last = c.give_states.new.self in
    let same : c.give_states.result ≡ states = given.value ∙ stood.same_states in
    let read_then = g.met.E.Engine.did_more first start middle P begun [] inv.has_begun.1 (stood.none_read P) in
    let read_last = g.met.E.Engine.did_more first middle last P (begun ++ []) [] read_then (given.none_read P) in
    let Did : List Begun → Type 0 = λ xs. g.E.Engine.did first last P xs in
    record {
      stays_ready = given.stays_ready P stood.stays_ready;
      same_graph = given.same_graph ∙ stood.same_graph ∙ inv.one_graph;
      same_knows = given.same_knows ∙ stood.same_knows ∙ inv.one_knows;
      still_allows = λ rules one allowed. given.still_allows rules one (stood.still_allows rules one (inv.all_allowed rules one allowed));
      went = record {
        begun = begun;
        was_read = subst Did (append-nil (begun ++ []) ∙ append-nil begun) read_last;
        was_counted = tally_whole g.T.Tally.runs g.T.Tally.entries c.args.tally.now c.loop-number.tally begun inv.has_begun.2;
        are_first = λ knows. let k = known knows in
            first_begun begun (begun_in k.0) (begun_of (run_from P graph (c.args.max - c.loop-number.number) c.loop-number.number c.loop-number.phase states)) (begun_of (run P graph c.args.max)) k.1
            (at_begun P graph c.args.max k.0 c.loop-number.number c.loop-number.phase states k.2.is_at);
        are_all = λ knows whole. (known knows).1 ∙ sym (append-nil (begun_in (known knows).0)) ∙ sym (over knows).all_begun;
      };
      same_told = inv.one_told;
      same_borrows = inv.one_borrows;
      grew = inv.grew;
      faults = (g.met.E.Engine.kept_more first middle last (g.met.E.Engine.kept_more first start middle inv.all_kept stood.none_failed) given.none_failed, inv.one_count);
      answer = λ knows. (over knows).is_answer
          ∙ ap (λ (s : List VState). let e : End = record { settled = true; iterations = c.loop-number.number; phase = c.in-Rests.rests; states = s } in Ok e) (sym same);
      ok_states = let Of : List VState → Type 0 = λ s. AreStates graph.n s in subst Of (sym same) inv.are_states;
      shown = λ knows. (over knows).was_shown;
      ok_tally = λ knows. record { runs_rose = (over knows).runs_grew; entries_rose = (over knows).entries_grew };
    }

pub iterate-requires : goal.iterate-requires
iterate-requires g c =
    let P = g.P.Program.rules c.args.program.now in
    let first = c.args.engine.now in
    let start = c.loop-number.engine in
    let graph = g.E.Engine.graph first in
    let states = g.E.Engine.states_of start in
    let told = g.W.Watch.told c.args.watch.now in
    let old = g.W.Watch.notes c.args.watch.now in
    let new = g.W.Watch.notes c.loop-number.watch in
    let runs_old = g.T.Tally.runs c.args.tally.now in
    let runs = g.T.Tally.runs c.loop-number.tally in
    let entries_old = g.T.Tally.entries c.args.tally.now in
    let entries = g.T.Tally.entries c.loop-number.tally in
    let inv = c.loop-number.invariant in
    let begun = inv.has_begun.0 in
    let known = inv.has_begun.3 in
    let middle = c.find_stand.new.engine in
    let stood = c.in-Begins.ensures in
    let begins = c.in-Begins.begins in
    let mid_graph = g.E.Engine.graph middle in
    let mid_states = g.E.Engine.states_of middle in
    let same_graph : mid_graph ≡ graph = stood.same_graph ∙ inv.one_graph in
    let same_knows : g.E.Engine.knows middle ≡ g.E.Engine.knows first = stood.same_knows ∙ inv.one_knows in
    let is : stand P c.loop-number.phase states ≡ Begins begins = cc stood.value in
    let this = begun_at P mid_graph begins mid_states in
    let same_begun = begun_moved P mid_graph graph begins mid_states states same_graph stood.same_states in
    record {
      is_ready = stood.stays_ready;
      are_states = are_moved graph mid_graph states mid_states same_graph stood.same_states inv.are_states;
      is_allowed = stood.still_allows P this (inv.all_allowed P this (c.requires.is_allowed _ (λ knows.
          let k = known knows in
          let of_begun : Begun → Type 0 = λ b. Contains (begun_of (run P graph c.args.max)) b in
          subst of_begun (sym same_begun) (at_begins_contains P graph c.args.max k.0 c.loop-number.number c.loop-number.phase begins states k.2.is_at c.loop-number-test.true is))));
      room_of_runs = omega (arith, inv.runs_room, c.requires.room_of_runs, c.loop-number-test.true, c.ranges.max.fits);
      room_of_entries = omega (arith, inv.entries_room, c.requires.room_of_entries, c.loop-number-test.true, c.ranges.max.fits);
    }

pub returns-in_err-counts : goal.returns-in_err-counts
returns-in_err-counts g c =
    let P = g.P.Program.rules c.args.program.now in
    let first = c.args.engine.now in
    let start = c.loop-number.engine in
    let graph = g.E.Engine.graph first in
    let states = g.E.Engine.states_of start in
    let told = g.W.Watch.told c.args.watch.now in
    let old = g.W.Watch.notes c.args.watch.now in
    let new = g.W.Watch.notes c.loop-number.watch in
    let runs_old = g.T.Tally.runs c.args.tally.now in
    let runs = g.T.Tally.runs c.loop-number.tally in
    let entries_old = g.T.Tally.entries c.args.tally.now in
    let entries = g.T.Tally.entries c.loop-number.tally in
    let inv = c.loop-number.invariant in
    let begun = inv.has_begun.0 in
    let known = inv.has_begun.3 in
    let middle = c.find_stand.new.engine in
    let stood = c.in-Begins.ensures in
    let begins = c.in-Begins.begins in
    let mid_graph = g.E.Engine.graph middle in
    let mid_states = g.E.Engine.states_of middle in
    let same_graph : mid_graph ≡ graph = stood.same_graph ∙ inv.one_graph in
    let same_knows : g.E.Engine.knows middle ≡ g.E.Engine.knows first = stood.same_knows ∙ inv.one_knows in
    let is : stand P c.loop-number.phase states ≡ Begins begins = cc stood.value in
    let this = begun_at P mid_graph begins mid_states in
    let same_begun = begun_moved P mid_graph graph begins mid_states states same_graph stood.same_states in
    let last = c.iterate.new.self in
    let kept_then = g.met.E.Engine.kept_more first start middle inv.all_kept stood.none_failed in
    let Did : List Begun → Type 0 = λ xs. g.E.Engine.did first middle P xs in
    let read_then = subst Did (append-nil begun) (g.met.E.Engine.did_more first start middle P begun [] inv.has_begun.1 (stood.none_read P)) in
    let did = c.in_err-counts.ensures in
    let fault = c.in_err-counts.field-0.0 in
    let refused : (edge : BadEdge) → (knows : g.E.Engine.knows first ≡ true) → (g.E.Engine.knows middle ≡ true → first_bad P mid_graph begins mid_states ≡ Some edge)
    → Over P graph c.args.max told (known knows).0 (Err (RunFault.BadEdge edge)) (begun_at P graph begins states ∷ []) old new runs_old runs entries_old entries =
    λ edge knows is_bad. let k = known knows in
    let bad = bad_moved P mid_graph graph begins mid_states states edge same_graph stood.same_states (is_bad (same_knows ∙ knows)) in
    known_over P graph c.args.max told k.0 c.loop-number.number c.loop-number.phase begins states (Refused (begun_at P graph begins states) edge) old new runs_old runs entries_old entries k.2
    (at_bad P graph c.args.max k.0 c.loop-number.number c.loop-number.phase begins states edge k.2.is_at c.loop-number-test.true is bad) in
    let Faults : RunFault → Type 0 = λ f. TellsFaults (Err f) (g.E.Engine.kept first last) (λ d. g.E.Engine.failed first last d) (g.W.Watch.faults c.args.watch.now) (g.W.Watch.faults c.loop-number.watch) in
    let Ends : RunFault → Type 0 = λ f. TellsEnd (Err f) (run P graph c.args.max) in
    let Shown : RunFault → Type 0 = λ f. ShownAs (Err f) told (run P graph c.args.max).finished old new in
    let Whole : RunFault → Type 0 = λ f. IsWhole (Err f) → begun ++ this ∷ [] ≡ begun_of (run P graph c.args.max) in
    let p = err_from_is_err_and c.from_residual.result c.from_residual.ensures.1 in
    rw (p.1, p.2) (record {
      stays_ready = did.stays_ready;
      same_graph = did.same_graph ∙ same_graph;
      same_knows = did.same_knows ∙ same_knows;
      still_allows = λ rules one allowed. did.still_allows rules one (stood.still_allows rules one (inv.all_allowed rules one allowed));
      went = record {
        begun = begun ++ this ∷ [];
        was_read = g.met.E.Engine.did_more first middle last P begun (this ∷ []) read_then did.has_read;
        was_counted = tally_part g.T.Tally.runs g.T.Tally.entries c.args.tally.now c.loop-number.tally c.iterate.new.tally begun this inv.has_begun.2 did.few_runs did.few_entries;
        are_first = λ knows. let k = known knows in
            let next = at_begins P graph c.args.max k.0 c.loop-number.number c.loop-number.phase begins states k.2.is_at c.loop-number-test.true is in
            first_begun (begun ++ this ∷ []) (begun_in k.0 ++ begun_at P graph begins states ∷ []) next.0 (begun_of (run P graph c.args.max)) (cc (k.1, same_begun)) next.1;
        are_all = λ knows. as_run_fault Whole fault _ _ _ (λ unit. absurd) (λ d unit. absurd) (λ edge is_bad whole.
            let k = known knows in cc (k.1, same_begun, (refused edge knows is_bad).all_begun)) did.bad_edge;
      };
      same_told = inv.one_told;
      same_borrows = inv.one_borrows;
      grew = inv.grew;
      faults = as_run_fault Faults fault _ _ _ (λ kept. (g.met.E.Engine.kept_more first middle last kept_then kept, inv.one_count))
          (λ d failed. (g.met.E.Engine.failed_more first middle last d kept_then failed, inv.one_count)) (λ edge kept. (g.met.E.Engine.kept_more first middle last kept_then kept, inv.one_count)) did.faults;
      answer = λ knows. as_run_fault Ends fault _ _ _ (λ unit. tt) (λ d unit. tt) (λ edge is_bad. (refused edge knows is_bad).is_answer) did.bad_edge;
      shown = λ knows.
          let some = known_some P graph c.args.max told (known knows).0 c.loop-number.number c.loop-number.phase states old new runs_old runs entries_old entries (known knows).2 in
          as_run_fault Shown fault _ _ _ (λ unit. some) (λ d unit. some) (λ edge is_bad. (refused edge knows is_bad).was_shown) did.bad_edge;
      ok_states = tt;
      ok_tally = tt;
    })

pub returns-in_err-note_iteration : goal.returns-in_err-note_iteration
returns-in_err-note_iteration g c =
    let P = g.P.Program.rules c.args.program.now in
    let first = c.args.engine.now in
    let start = c.loop-number.engine in
    let graph = g.E.Engine.graph first in
    let states = g.E.Engine.states_of start in
    let told = g.W.Watch.told c.args.watch.now in
    let old = g.W.Watch.notes c.args.watch.now in
    let new = g.W.Watch.notes c.loop-number.watch in
    let runs_old = g.T.Tally.runs c.args.tally.now in
    let runs = g.T.Tally.runs c.loop-number.tally in
    let entries_old = g.T.Tally.entries c.args.tally.now in
    let entries = g.T.Tally.entries c.loop-number.tally in
    let inv = c.loop-number.invariant in
    let begun = inv.has_begun.0 in
    let known = inv.has_begun.3 in
    let middle = c.find_stand.new.engine in
    let stood = c.in-Begins.ensures in
    let begins = c.in-Begins.begins in
    let mid_graph = g.E.Engine.graph middle in
    let mid_states = g.E.Engine.states_of middle in
    let same_graph : mid_graph ≡ graph = stood.same_graph ∙ inv.one_graph in
    let same_knows : g.E.Engine.knows middle ≡ g.E.Engine.knows first = stood.same_knows ∙ inv.one_knows in
    let is : stand P c.loop-number.phase states ≡ Begins begins = cc stood.value in
    let this = begun_at P mid_graph begins mid_states in
    let same_begun = begun_moved P mid_graph graph begins mid_states states same_graph stood.same_states in
    let last = c.iterate.new.self in
    let kept_then = g.met.E.Engine.kept_more first start middle inv.all_kept stood.none_failed in
    let Did : List Begun → Type 0 = λ xs. g.E.Engine.did first middle P xs in
    let read_then = subst Did (append-nil begun) (g.met.E.Engine.did_more first start middle P begun [] inv.has_begun.1 (stood.none_read P)) in
    let did = c.in_ok-counts.ensures in
    let counts = c.in_ok-counts.counts in
    let shown = c.states.result.now in
    let shown_is : shown ≡ g.E.Engine.states_of last = c.states.ensures in
    let line = line_at c.loop-number.number begins counts in
    let newer = g.W.Watch.notes c.note_iteration.new.watch in
    let iteration = iteration_of (g.E.Engine.states_of last) counts in
    let same_told : g.W.Watch.told c.loop-number.watch line shown ≡ told line (g.E.Engine.states_of last) =
    told_moved (g.W.Watch.told c.loop-number.watch) told line shown inv.one_told ∙ ap (told line) shown_is in
    let kept_last = g.met.E.Engine.kept_more first middle last kept_then did.ok_kept in
    let was_iteration : g.E.Engine.knows first ≡ true → IsIteration P graph begins states iteration =
    λ knows. iteration_moved P mid_graph graph begins mid_states states iteration same_graph stood.same_states (did.ok (same_knows ∙ knows)) in
    let rose = tally_more begun this counts runs_old runs (g.T.Tally.runs c.iterate.new.tally) entries_old entries (g.T.Tally.entries c.iterate.new.tally) inv.has_begun.2 did.ok_counts did.ok_runs did.ok_entries in
    let noted = c.in_err-note_iteration.ensures in
    let p = err_from_is_err_and c.from_residual-in_err-note_iteration.result c.from_residual-in_err-note_iteration.ensures.1 in
    rw (p.1, p.2) (record {
      stays_ready = did.stays_ready;
      same_graph = did.same_graph ∙ same_graph;
      same_knows = did.same_knows ∙ same_knows;
      still_allows = λ rules one allowed. did.still_allows rules one (stood.still_allows rules one (inv.all_allowed rules one allowed));
      went = record {
        begun = begun ++ this ∷ [];
        was_read = g.met.E.Engine.did_more first middle last P begun (this ∷ []) read_then did.has_read;
        was_counted = tally_whole g.T.Tally.runs g.T.Tally.entries c.args.tally.now c.iterate.new.tally (begun ++ this ∷ []) rose;
        are_first = λ knows. let k = known knows in
            let next = at_begins P graph c.args.max k.0 c.loop-number.number c.loop-number.phase begins states k.2.is_at c.loop-number-test.true is in
            first_begun (begun ++ this ∷ []) (begun_in k.0 ++ begun_at P graph begins states ∷ []) next.0 (begun_of (run P graph c.args.max)) (cc (k.1, same_begun)) next.1;
        are_all = λ knows. absurd;
      };
      same_told = noted.told ∙ inv.one_told;
      same_borrows = g.met.W.Watch.same_borrows_more c.args.watch.now c.loop-number.watch c.note_iteration.new.watch inv.one_borrows noted.same_borrows;
      grew = grew_more old new newer (take noted.err.0 (g.W.Watch.told c.loop-number.watch line shown)) inv.grew noted.err.1;
      faults = (kept_last, let of_count : ℕ → Type 0 = λ n. Rose n (g.W.Watch.faults c.note_iteration.new.watch) in subst of_count inv.one_count noted.faults.failed);
      answer = λ knows. tt;
      shown = λ knows.
          let k = known knows in
          let of_told : List g.row.W-Note.Denot → Type 0 = λ xs. GrewByFirst xs new newer in
          known_part P graph c.args.max told k.0 c.loop-number.number c.loop-number.phase begins states iteration old new newer runs_old runs entries_old entries k.2 c.loop-number-test.true is (was_iteration knows)
          (subst of_told same_told noted.err);
      ok_states = tt;
      ok_tally = tt;
    })

pub loop-number-preserved : goal.loop-number-preserved
loop-number-preserved g c =
    let P = g.P.Program.rules c.args.program.now in
    let first = c.args.engine.now in
    let start = c.loop-number.engine in
    let graph = g.E.Engine.graph first in
    let states = g.E.Engine.states_of start in
    let told = g.W.Watch.told c.args.watch.now in
    let old = g.W.Watch.notes c.args.watch.now in
    let new = g.W.Watch.notes c.loop-number.watch in
    let runs_old = g.T.Tally.runs c.args.tally.now in
    let runs = g.T.Tally.runs c.loop-number.tally in
    let entries_old = g.T.Tally.entries c.args.tally.now in
    let entries = g.T.Tally.entries c.loop-number.tally in
    let inv = c.loop-number.invariant in
    let begun = inv.has_begun.0 in
    let known = inv.has_begun.3 in
    let middle = c.find_stand.new.engine in
    let stood = c.in-Begins.ensures in
    let begins = c.in-Begins.begins in
    let mid_graph = g.E.Engine.graph middle in
    let mid_states = g.E.Engine.states_of middle in
    let same_graph : mid_graph ≡ graph = stood.same_graph ∙ inv.one_graph in
    let same_knows : g.E.Engine.knows middle ≡ g.E.Engine.knows first = stood.same_knows ∙ inv.one_knows in
    let is : stand P c.loop-number.phase states ≡ Begins begins = cc stood.value in
    let this = begun_at P mid_graph begins mid_states in
    let same_begun = begun_moved P mid_graph graph begins mid_states states same_graph stood.same_states in
    let last = c.iterate.new.self in
    let kept_then = g.met.E.Engine.kept_more first start middle inv.all_kept stood.none_failed in
    let Did : List Begun → Type 0 = λ xs. g.E.Engine.did first middle P xs in
    let read_then = subst Did (append-nil begun) (g.met.E.Engine.did_more first start middle P begun [] inv.has_begun.1 (stood.none_read P)) in
    let did = c.in_ok-counts.ensures in
    let counts = c.in_ok-counts.counts in
    let shown = c.states.result.now in
    let shown_is : shown ≡ g.E.Engine.states_of last = c.states.ensures in
    let line = line_at c.loop-number.number begins counts in
    let newer = g.W.Watch.notes c.note_iteration.new.watch in
    let iteration = iteration_of (g.E.Engine.states_of last) counts in
    let same_told : g.W.Watch.told c.loop-number.watch line shown ≡ told line (g.E.Engine.states_of last) =
    told_moved (g.W.Watch.told c.loop-number.watch) told line shown inv.one_told ∙ ap (told line) shown_is in
    let kept_last = g.met.E.Engine.kept_more first middle last kept_then did.ok_kept in
    let was_iteration : g.E.Engine.knows first ≡ true → IsIteration P graph begins states iteration =
    λ knows. iteration_moved P mid_graph graph begins mid_states states iteration same_graph stood.same_states (did.ok (same_knows ∙ knows)) in
    let rose = tally_more begun this counts runs_old runs (g.T.Tally.runs c.iterate.new.tally) entries_old entries (g.T.Tally.entries c.iterate.new.tally) inv.has_begun.2 did.ok_counts did.ok_runs did.ok_entries in
    let noted = c.in_ok-note_iteration.ensures in
    record {
      is_ready = did.stays_ready;
      one_graph = did.same_graph ∙ same_graph;
      one_knows = did.same_knows ∙ same_knows;
      all_allowed = λ rules one allowed. did.still_allows rules one (stood.still_allows rules one (inv.all_allowed rules one allowed));
      all_kept = kept_last;
      one_told = noted.told ∙ inv.one_told;
      one_borrows = g.met.W.Watch.same_borrows_more c.args.watch.now c.loop-number.watch c.note_iteration.new.watch inv.one_borrows noted.same_borrows;
      grew = grew_more old new newer (g.W.Watch.told c.loop-number.watch line shown) inv.grew noted.ok;
      one_count = noted.faults.kept ∙ inv.one_count;
      are_states = let of_graph : Graph → Type 0 = λ gr. AreStates gr.n (g.E.Engine.states_of last) in subst of_graph same_graph did.ok_states;
      runs_room = omega (arith, inv.runs_room, did.ok_runs, did.ok_active);
      entries_room = omega (arith, inv.entries_room, did.ok_entries, did.ok_messages);
      has_begun = (
        begun ++ this ∷ [],
        g.met.E.Engine.did_more first middle last P begun (this ∷ []) read_then did.has_read,
        rose,
        λ knows. let k = known knows in (
          k.0 ++ finished_at P graph c.loop-number.number begins states ∷ [],
          cc (k.1, same_begun, begun_in-more k.0 P graph c.loop-number.number begins states),
          known_next P graph c.args.max told k.0 c.loop-number.number c.loop-number.phase begins states iteration old new newer
              runs_old runs (g.T.Tally.runs c.iterate.new.tally) entries_old entries (g.T.Tally.entries c.iterate.new.tally)
              k.2 c.loop-number-test.true is (was_iteration knows) (noted.ok ∙ ap (λ (xs : List g.row.W-Note.Denot). grown new xs) same_told) did.ok_runs did.ok_entries,
        ),
      );
    }

pub returns : goal.returns
returns g c =
    let P = g.P.Program.rules c.args.program.now in
    let first = c.args.engine.now in
    let start = c.loop-number.engine in
    let graph = g.E.Engine.graph first in
    let states = g.E.Engine.states_of start in
    let told = g.W.Watch.told c.args.watch.now in
    let old = g.W.Watch.notes c.args.watch.now in
    let new = g.W.Watch.notes c.loop-number.watch in
    let runs_old = g.T.Tally.runs c.args.tally.now in
    let runs = g.T.Tally.runs c.loop-number.tally in
    let entries_old = g.T.Tally.entries c.args.tally.now in
    let entries = g.T.Tally.entries c.loop-number.tally in
    let inv = c.loop-number.invariant in
    let begun = inv.has_begun.0 in
    let known = inv.has_begun.3 in
    let middle = c.find_stand-last.new.engine in
    let stood = c.find_stand-last.ensures in
    let last_stand = stand P c.loop-number.phase states in
    let number_is : c.loop-number.number ≡ c.args.max = omega (arith, c.loop-number-test.false, c.loop-number.auto.number-end) in
    let over : (knows : g.E.Engine.knows first ≡ true) → Over P graph c.args.max told (known knows).0 (Ok (last_end c.loop-number.number states last_stand)) [] old new runs_old runs entries_old entries =
    λ knows. let k = known knows in
    known_last P graph c.args.max told k.0 c.loop-number.number c.loop-number.phase states old new runs_old runs entries_old entries last_stand k.2 (omega arith) refl in
    let ended : c.end_after.result ≡ last_end c.args.max states last_stand =
    c.end_after.ensures ∙ ap (λ s. last_end c.args.max c.give_states-2.result s) stood.value
    ∙ ap (λ (s : List VState). last_end c.args.max s last_stand) (c.give_states-2.ensures.value ∙ stood.same_states) in
    let given = c.give_states-2.ensures in
    let last = c.give_states-2.new.self in
    let same : c.give_states-2.result ≡ states = given.value ∙ stood.same_states in
    let read_then = g.met.E.Engine.did_more first start middle P begun [] inv.has_begun.1 (stood.none_read P) in
    let read_last = g.met.E.Engine.did_more first middle last P (begun ++ []) [] read_then (given.none_read P) in
    let Did : List Begun → Type 0 = λ xs. g.E.Engine.did first last P xs in
    record {
      stays_ready = given.stays_ready P stood.stays_ready;
      same_graph = given.same_graph ∙ stood.same_graph ∙ inv.one_graph;
      same_knows = given.same_knows ∙ stood.same_knows ∙ inv.one_knows;
      still_allows = λ rules one allowed. given.still_allows rules one (stood.still_allows rules one (inv.all_allowed rules one allowed));
      went = record {
        begun = begun;
        was_read = subst Did (append-nil (begun ++ []) ∙ append-nil begun) read_last;
        was_counted = tally_whole g.T.Tally.runs g.T.Tally.entries c.args.tally.now c.loop-number.tally begun inv.has_begun.2;
        are_first = λ knows. let k = known knows in
            first_begun begun (begun_in k.0) (begun_of (run_from P graph (c.args.max - c.loop-number.number) c.loop-number.number c.loop-number.phase states)) (begun_of (run P graph c.args.max)) k.1
            (at_begun P graph c.args.max k.0 c.loop-number.number c.loop-number.phase states k.2.is_at);
        are_all = λ knows whole. (known knows).1 ∙ sym (append-nil (begun_in (known knows).0)) ∙ sym (over knows).all_begun;
      };
      same_told = inv.one_told;
      same_borrows = inv.one_borrows;
      grew = inv.grew;
      faults = (g.met.E.Engine.kept_more first middle last (g.met.E.Engine.kept_more first start middle inv.all_kept stood.none_failed) given.none_failed, inv.one_count);
      answer = λ knows. (over knows).is_answer ∙ ap (λ (n : ℕ). Ok (last_end n states last_stand)) number_is ∙ ap Ok (sym ended);
      ok_states =
          let Of : List VState → Type 0 = λ s. AreStates graph.n s in
          subst Of (sym (ap (λ (end : End). end.states) ended ∙ states-last_end c.args.max states last_stand)) inv.are_states;
      shown = λ knows. (over knows).was_shown;
      ok_tally = λ knows. record { runs_rose = (over knows).runs_grew; entries_rose = (over knows).entries_grew };
    }
