use Rattle.std.proofs.Common.{◌≡◌, ◌++◌, ◌∙◌, All, List, Option, ap, length, subst, sym, arith}
use Rattle.std.specs.Prelude.{reverse}
use Rattle.fg_image.proofs.LimitLaws.{graph_by-limits}
use Rattle.fg_cache.specs.Slips.{FaultOf}
use Rattle.fg_iter.specs.Lists.{AreBlockWeights}
use Rattle.fg_worker.specs.Desk.{image_of}
use Rattle.fg_engine.proofs.CountedLaws.{tallied-same, went-same}
use Rattle.fg_engine.proofs.RunnerLaws.{graph-n}
use Rattle.fg_engine.proofs.ShareLaws.{share-of, shares-of}
use Rattle.fg_engine.specs.Helping.{as_list, shares_in}
use Rattle.fg_engine.specs.declared.helping.LoopEnd.{LoopEnd}
use Rattle.fg_iter.proofs.StepLaws.{whole-again}
use Rattle.fg_engine.proofs.running.run_cached.Given as given
use Rattle.fg_engine.proofs.running.run_cached.Goals as goal

pub run_beside-answer-requires-clause-may : goal.run_beside-answer-requires-clause-may
run_beside-answer-requires-clause-may g c κs within = record {
  cache = c.requires.cache;
  limits = graph_by-limits _ _ _ c.requires.cache.fits c.requires.cache.bytes;
  vertices = c.requires.map ∙ sym (graph-n c.args.opened.now.layout c.args.opened.now.index (image_of c.args.cache.now.site.image));
  weighed = subst (AreBlockWeights _ _ _) (sym c.deref.ensures.value) (c.requires.outfit.weighed (image_of c.args.cache.now.site.image));
  opening = c.requires.outfit.opening (image_of c.args.cache.now.site.image);
  are_states = c.requires.outfit.are_states (image_of c.args.cache.now.site.image);
  allowed = c.requires.allowed;
}

pub run_beside-answer-requires-clause-ready : goal.run_beside-answer-requires-clause-ready
run_beside-answer-requires-clause-ready g c κs within =
    let made = c.new-own.ensures ∙ c.replace.ensures.value in
    let runs = c.hand_out-slots.ensures.runs ∙ ap g.T.Tally.runs made ∙ c.split-none.ensures.runs in
    let entries = c.hand_out-slots.ensures.entries ∙ ap g.T.Tally.entries made ∙ c.split-none.ensures.entries in
    let count = c.hand_out-slots.ensures.count ∙ c.requires.passes.0 in
    record {
      workers = (omega (arith, count, c.args.map.some_parts), omega (arith, count, c.args.map.few_parts));
      hands = c.hand_out-slots.ensures.hands c.args.cache.now.site c.args.map c.requires.passes.1 c.requires.outfit.are_outboxes;
      settled = c.hand_out-slots.ensures.settled;
      room_of_runs = omega (arith, runs, c.requires.room_of_runs);
      room_of_entries = omega (arith, entries, c.requires.room_of_entries);
    }

pub take_in-passes-requires-clause-held : goal.take_in-passes-requires-clause-held
take_in-passes-requires-clause-held g c =
    (c.args.cache.now.site, λ k d below. (c.run_beside-answer.ensures.came.hands k d below).pass_held)

pub returns-clause-passes : goal.returns-clause-passes
returns-clause-passes g c = (
  c.take_in-passes.ensures.count ∙ c.run_beside-answer.ensures.came.count ∙ c.hand_out-slots.ensures.count ∙ c.requires.passes.0,
  c.take_in-passes.ensures.passes c.args.cache.now.site (λ k d below. (c.run_beside-answer.ensures.came.hands k d below).pass_held),
)

first_runs : (g : given.Over) (c : goal.After-drop-weights g) → g.T.Tally.runs c.hand_out-slots.new.tally ≡ g.T.Tally.runs c.args.tally.now
first_runs g c = c.hand_out-slots.ensures.runs ∙ ap g.T.Tally.runs (c.new-own.ensures ∙ c.replace.ensures.value) ∙ c.split-none.ensures.runs

first_entries : (g : given.Over) (c : goal.After-drop-weights g) → g.T.Tally.entries c.hand_out-slots.new.tally ≡ g.T.Tally.entries c.args.tally.now
first_entries g c = c.hand_out-slots.ensures.entries ∙ ap g.T.Tally.entries (c.new-own.ensures ∙ c.replace.ensures.value) ∙ c.split-none.ensures.entries

last_runs : (g : given.Over) (c : goal.After-drop-weights g) → g.T.Tally.runs c.run_beside-answer.new.tally ≡ g.T.Tally.runs c.join.new.self
last_runs g c =
    let none = ap g.T.Tally.runs c.replace.ensures.after ∙ c.split-none.ensures.no_runs in
    let own = ap g.T.Tally.runs c.into_tally.ensures.value ∙ c.take_in-passes.ensures.runs in
    omega (arith, none, own, c.join.ensures.runs)

last_entries : (g : given.Over) (c : goal.After-drop-weights g) → g.T.Tally.entries c.run_beside-answer.new.tally ≡ g.T.Tally.entries c.join.new.self
last_entries g c =
    let none = ap g.T.Tally.entries c.replace.ensures.after ∙ c.split-none.ensures.no_entries in
    let own = ap g.T.Tally.entries c.into_tally.ensures.value ∙ c.take_in-passes.ensures.entries in
    omega (arith, none, own, c.join.ensures.entries)

pub returns-clause-went : goal.returns-clause-went
returns-clause-went g c =
    went-same g.T.Tally.runs g.T.Tally.entries c.hand_out-slots.new.tally c.run_beside-answer.new.tally c.args.tally.now c.join.new.self
    (first_runs g c) (last_runs g c) (first_entries g c) (last_entries g c) _ _ _ _ c.run_beside-answer.ensures.came.went

pub returns-clause-ok_tally : goal.returns-clause-ok_tally
returns-clause-ok_tally g c =
    tallied-same g.T.Tally.runs g.T.Tally.entries c.hand_out-slots.new.tally c.run_beside-answer.new.tally c.args.tally.now c.join.new.self
    (first_runs g c) (last_runs g c) (first_entries g c) (last_entries g c) _ _ _ c.run_beside-answer.ensures.came.ok_tally

pub returns-clause-shares : goal.returns-clause-shares
returns-clause-shares g c =
    let books = c.args.cache.now.site.books in
    let ran = c.run_beside-answer in
    let new = ran.new.ends in
    let old = c.args.outfit.ends in
    let long : length new ≡ old.len = omega (arith, ran.auto.ends, c.deref_mut.ensures.len) in
    let own = share-of books ran.result.answer ran.result.fault _ _ ran.ensures.came.faults in
    subst (All (λ (share : FaultOf). share.books ≡ books)) (sym c.shares_of.ensures)
    (subst (λ (ends : List (Option LoopEnd)). All (λ (share : FaultOf). share.books ≡ books) (as_list ran.result.fault ++ shares_in (reverse ends)))
    (sym (whole-again new old.items old.len long))
    (shares-of books _ ran.result.fault new own ran.ensures.ends))
