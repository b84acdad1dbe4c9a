use Rattle.std.proofs.Common.{◌≡◌, ◌-◌, ◌+◌, ℕ, ◌≤◌, true, false, List, [], length, sym, refl, ap, ◌∙◌, Some, None, arith}
use Rattle.fg_base.specs.declared.plain.VState.{VState}
use Rattle.fg_model.specs.Run.{is_some_active, stand, stand_from, least_bid_above}
use Rattle.fg_model.proofs.StandLemmas.{are_moved, stand-active, stand-rests, stand-rises, least_rises, no_bids, bids-length, bids_above}
use Rattle.fg_model.proofs.stand.find_stand.Goals as goal

pub loop-init : goal.loop-init
unfolding stand
loop-init g c =
    let P = g.P.Program.rules c.args.program.now in
    let first = c.args.engine.now in
    let states = g.E.Engine.states_of first in
    let many = ap (λ (s : List VState). length s) c.states-end.ensures in
    record {
      one_states = refl;
      is_ready = c.requires.is_ready;
      one_graph = refl;
      one_knows = refl;
      all_allowed = λ rules begun allowed. allowed;
      all_kept = g.met.E.Engine.kept_none first;
      all_read = λ rules. g.met.E.Engine.did_none first rules;
      the_end = many;
      the_stand = ap (λ (n : ℕ). stand_from n P c.args.phase states) (omega (arith, many));
      bids_left = omega (arith, many, bids-length P c.args.phase states);
    }

pub some_active-requires-clause-are_states : goal.some_active-requires-clause-are_states
some_active-requires-clause-are_states g c =
    let first = c.args.engine.now in
    are_moved (g.E.Engine.graph first) (g.E.Engine.graph c.loop.engine) (g.E.Engine.states_of first) (g.E.Engine.states_of c.loop.engine) c.loop.invariant.one_graph c.loop.invariant.one_states c.requires.are_states

pub returns-then-some_active : goal.returns-then-some_active
returns-then-some_active g c =
    let P = g.P.Program.rules c.args.program.now in
    let first = c.args.engine.now in
    let middle = c.loop.engine in
    let last = c.some_active.new.self in
    let states = g.E.Engine.states_of first in
    let inv = c.loop.invariant in
    let saw = c.some_active.ensures in
    let active : is_some_active P c.loop.risen states ≡ true = cc (c.if-some_active.true, saw.value, inv.one_states) in
    record {
      value = sym (stand-active (length c.states-end.result.now - c.loop.counter) P c.loop.risen states active) ∙ inv.the_stand;
      rests = active;
      same_states = saw.same_states ∙ inv.one_states;
      stays_ready = saw.stays_ready;
      same_graph = saw.same_graph ∙ inv.one_graph;
      same_knows = saw.same_knows ∙ inv.one_knows;
      still_allows = λ rules begun allowed. saw.still_allows rules begun (inv.all_allowed rules begun allowed);
      none_failed = g.met.E.Engine.kept_more first middle last inv.all_kept saw.none_failed;
      none_read = λ rules. g.met.E.Engine.did_more first middle last rules [] [] (inv.all_read rules) (saw.none_read rules);
    }

pub returns-in-None : goal.returns-in-None
returns-in-None g c =
    let P = g.P.Program.rules c.args.program.now in
    let first = c.args.engine.now in
    let middle = c.loop.engine in
    let last = c.some_active.new.self in
    let states = g.E.Engine.states_of first in
    let inv = c.loop.invariant in
    let saw = c.some_active.ensures in
    let idle : is_some_active P c.loop.risen states ≡ false = cc (c.if-some_active.false, saw.value, inv.one_states) in
    let none : least_bid_above P c.loop.risen states ≡ None = cc (c.in-None.ensures, c.states.ensures, saw.same_states, inv.one_states) in
    record {
      value = sym (stand-rests (length c.states-end.result.now - c.loop.counter) P c.loop.risen states idle none) ∙ inv.the_stand;
      rests = (idle, none);
      same_states = saw.same_states ∙ inv.one_states;
      stays_ready = saw.stays_ready;
      same_graph = saw.same_graph ∙ inv.one_graph;
      same_knows = saw.same_knows ∙ inv.one_knows;
      still_allows = λ rules begun allowed. saw.still_allows rules begun (inv.all_allowed rules begun allowed);
      none_failed = g.met.E.Engine.kept_more first middle last inv.all_kept saw.none_failed;
      none_read = λ rules. g.met.E.Engine.did_more first middle last rules [] [] (inv.all_read rules) (saw.none_read rules);
    }

pub loop-preserved : goal.loop-preserved
loop-preserved g c =
    let P = g.P.Program.rules c.args.program.now in
    let first = c.args.engine.now in
    let middle = c.loop.engine in
    let last = c.some_active.new.self in
    let states = g.E.Engine.states_of first in
    let end = length c.states-end.result.now in
    let inv = c.loop.invariant in
    let saw = c.some_active.ensures in
    let idle : is_some_active P c.loop.risen states ≡ false = cc (c.if-some_active.false, saw.value, inv.one_states) in
    let is_bid : least_bid_above P c.loop.risen states ≡ Some c.in-Some.bid = cc (c.in-Some.ensures, c.states.ensures, saw.same_states, inv.one_states) in
    let rises = least_rises P c.loop.risen c.in-Some.bid states is_bid in
    record {
      one_states = saw.same_states ∙ inv.one_states;
      is_ready = saw.stays_ready;
      one_graph = saw.same_graph ∙ inv.one_graph;
      one_knows = saw.same_knows ∙ inv.one_knows;
      all_allowed = λ rules begun allowed. saw.still_allows rules begun (inv.all_allowed rules begun allowed);
      all_kept = g.met.E.Engine.kept_more first middle last inv.all_kept saw.none_failed;
      all_read = λ rules. g.met.E.Engine.did_more first middle last rules [] [] (inv.all_read rules) (saw.none_read rules);
      the_end = inv.the_end;
      the_stand = sym (stand-rises (end - c.loop.counter) (end - (c.loop.counter + 1)) P c.loop.risen c.in-Some.bid states (omega arith) idle is_bid) ∙ inv.the_stand;
      bids_left = omega (arith, rises.fewer, inv.bids_left);
    }

pub some_active-requires-2-clause-are_states : goal.some_active-requires-2-clause-are_states
some_active-requires-2-clause-are_states g c =
    let first = c.args.engine.now in
    are_moved (g.E.Engine.graph first) (g.E.Engine.graph c.loop.engine) (g.E.Engine.states_of first) (g.E.Engine.states_of c.loop.engine) c.loop.invariant.one_graph c.loop.invariant.one_states c.requires.are_states

pub returns-then-some_active-2 : goal.returns-then-some_active-2
returns-then-some_active-2 g c =
    let P = g.P.Program.rules c.args.program.now in
    let first = c.args.engine.now in
    let middle = c.loop.engine in
    let last = c.some_active-2.new.self in
    let states = g.E.Engine.states_of first in
    let inv = c.loop.invariant in
    let saw = c.some_active-2.ensures in
    let active : is_some_active P c.loop.risen states ≡ true = cc (c.if-some_active-2.true, saw.value, inv.one_states) in
    record {
      value = sym (stand-active (length c.states-end.result.now - c.loop.counter) P c.loop.risen states active) ∙ inv.the_stand;
      rests = active;
      same_states = saw.same_states ∙ inv.one_states;
      stays_ready = saw.stays_ready;
      same_graph = saw.same_graph ∙ inv.one_graph;
      same_knows = saw.same_knows ∙ inv.one_knows;
      still_allows = λ rules begun allowed. saw.still_allows rules begun (inv.all_allowed rules begun allowed);
      none_failed = g.met.E.Engine.kept_more first middle last inv.all_kept saw.none_failed;
      none_read = λ rules. g.met.E.Engine.did_more first middle last rules [] [] (inv.all_read rules) (saw.none_read rules);
    }

pub returns-else-some_active-2 : goal.returns-else-some_active-2
returns-else-some_active-2 g c =
    let P = g.P.Program.rules c.args.program.now in
    let first = c.args.engine.now in
    let middle = c.loop.engine in
    let last = c.some_active-2.new.self in
    let states = g.E.Engine.states_of first in
    let inv = c.loop.invariant in
    let saw = c.some_active-2.ensures in
    let idle : is_some_active P c.loop.risen states ≡ false = cc (c.if-some_active-2.false, saw.value, inv.one_states) in
    let left : bids_above P c.loop.risen states ≤ 0 = omega (arith, inv.bids_left) in
    let none = no_bids P c.loop.risen states left in
    record {
      value = sym (stand-rests (length c.states-end.result.now - c.loop.counter) P c.loop.risen states idle none) ∙ inv.the_stand;
      rests = (idle, none);
      same_states = saw.same_states ∙ inv.one_states;
      stays_ready = saw.stays_ready;
      same_graph = saw.same_graph ∙ inv.one_graph;
      same_knows = saw.same_knows ∙ inv.one_knows;
      still_allows = λ rules begun allowed. saw.still_allows rules begun (inv.all_allowed rules begun allowed);
      none_failed = g.met.E.Engine.kept_more first middle last inv.all_kept saw.none_failed;
      none_read = λ rules. g.met.E.Engine.did_more first middle last rules [] [] (inv.all_read rules) (saw.none_read rules);
    }
