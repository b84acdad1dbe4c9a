use Rattle.std.proofs.Common.{List, map, sym, subst, arith}
use Rattle.std.proofs.lemmas.List.{length-map}
use Rattle.std.specs.List.{flat_map}
use Rattle.fg_task.specs.Spending.{Counted, SpentInAll}
use Rattle.fg_crew.specs.Claimed.{plan_of}
use Rattle.fg_crew.specs.Slots.{results_at, seat_at}
use Rattle.fg_crew.proofs.BackLaws.{at_most_once, each_few, few_all, seats_back}
use Rattle.fg_crew.proofs.ListLaws.{behind-none}
use Rattle.fg_crew.proofs.SlotLaws.{all_drawn, same_count, same_spent, still_lent, taken_all, taken_wave}
use Rattle.fg_crew.proofs.wave.run_wave.Goals as goal

pub close-requires : goal.close-requires
close-requires g c =
    let runs = g.B.RunsBlock in
    let wave = c.args.wave in
    let plan = plan_of runs.blocks wave in
    let old = c.args.slots.now in
    let worked = c.run_all.new.slots in
    let seats = c.take_back-taken.new.seats.items in
    let results = c.take_back-taken.new.results.items in
    let lends = runs.lends wave.runner.now in
    let caused = runs.caused wave.runner.now in
    let seats_are = behind-none c.run_all.new.seats.items seats (flat_map seat_at worked) c.run_all.ensures.seats c.take_back-taken.ensures.seats in
    let results_are = behind-none c.new-results.result.items results (flat_map results_at worked) c.new-results.ensures.items c.in-Ok.ensures.results in
    let back = seats_back plan wave.claims lends runs.spent caused old worked c.run_all.ensures.worked seats seats_are in
    record {
      all = omega (arith, back.count, length-map old (λ slot. runs.spent slot.kept), c.take_back-taken.new.seats.ok, c.requires.workers.0, c.requires.workers.1);
      own = back.own;
      told = (taken_all plan wave.claims lends runs.spent caused old worked seats results c.run_all.ensures.worked c.in-Ok.ensures.ended seats_are results_are).told;
    }

pub returns-in-Ok : goal.returns-in-Ok
returns-in-Ok g c =
    let runs = g.B.RunsBlock in
    let wave = c.args.wave in
    let plan = plan_of runs.blocks wave in
    let old = c.args.slots.now in
    let worked = c.run_all.new.slots in
    let new = c.take_back-taken.new.slots in
    let seats = c.take_back-taken.new.seats.items in
    let results = c.take_back-taken.new.results.items in
    let lends = runs.lends wave.runner.now in
    let caused = runs.caused wave.runner.now in
    let all = c.run_all.ensures.worked in
    let kept = c.take_back-taken.ensures.kept in
    let seats_are = behind-none c.run_all.new.seats.items seats (flat_map seat_at worked) c.run_all.ensures.seats c.take_back-taken.ensures.seats in
    let results_are = behind-none c.new-results.result.items results (flat_map results_at worked) c.new-results.ensures.items c.in-Ok.ensures.results in
    let taken = taken_all plan wave.claims lends runs.spent caused old worked seats results all c.in-Ok.ensures.ended seats_are results_are in
    let before = map (λ slot. runs.spent slot.kept) old in
    let after = map (λ slot. runs.spent slot.kept) worked in
    let same = same_spent plan wave.claims lends runs.spent caused old worked new all kept in
    let once = at_most_once plan.counts (all_drawn seats) c.close.ensures in
    record {
      ok = taken_wave plan before after seats results c.requires.dealt taken c.close.ensures;
      exact = subst (λ (news : List Counted). SpentInAll (runs.blocks wave.runner.now) before news results) (sym same) taken.spent;
      count = same_count plan wave.claims lends runs.spent caused old worked new all kept;
      lent = still_lent plan wave.claims lends runs.spent caused old worked new all kept;
      few = each_few plan wave.claims lends runs.spent caused old worked all seats seats_are c.requires.dealt once new kept;
      few_in_all = few_all plan wave.claims lends runs.spent caused old worked all seats seats_are c.requires.dealt once new kept;
      fault = tt;
    }

pub stop-requires : goal.stop-requires
stop-requires g c =
    let runs = g.B.RunsBlock in
    let wave = c.args.wave in
    let old = c.args.slots.now in
    let worked = c.run_all.new.slots in
    let seats = c.take_back-taken.new.seats.items in
    let seats_are = behind-none c.run_all.new.seats.items seats (flat_map seat_at worked) c.run_all.ensures.seats c.take_back-taken.ensures.seats in
    let back = seats_back (plan_of runs.blocks wave) wave.claims (runs.lends wave.runner.now) runs.spent (runs.caused wave.runner.now) old worked c.run_all.ensures.worked seats seats_are in
    record {
      all = omega (arith, back.count, length-map old (λ slot. runs.spent slot.kept), c.take_back-taken.new.seats.ok, c.requires.workers.0, c.requires.workers.1);
      own = back.own;
    }

pub returns-in-Err : goal.returns-in-Err
returns-in-Err g c =
    let runs = g.B.RunsBlock in
    let wave = c.args.wave in
    let plan = plan_of runs.blocks wave in
    let old = c.args.slots.now in
    let worked = c.run_all.new.slots in
    let new = c.take_back-taken.new.slots in
    let seats = c.take_back-taken.new.seats.items in
    let lends = runs.lends wave.runner.now in
    let caused = runs.caused wave.runner.now in
    let all = c.run_all.ensures.worked in
    let kept = c.take_back-taken.ensures.kept in
    let seats_are = behind-none c.run_all.new.seats.items seats (flat_map seat_at worked) c.run_all.ensures.seats c.take_back-taken.ensures.seats in
    record {
      ok = tt;
      exact = tt;
      count = same_count plan wave.claims lends runs.spent caused old worked new all kept;
      lent = still_lent plan wave.claims lends runs.spent caused old worked new all kept;
      few = each_few plan wave.claims lends runs.spent caused old worked all seats seats_are c.requires.dealt c.stop.ensures new kept;
      few_in_all = few_all plan wave.claims lends runs.spent caused old worked all seats seats_are c.requires.dealt c.stop.ensures new kept;
      fault = c.in-Err.ensures.fault;
    }
