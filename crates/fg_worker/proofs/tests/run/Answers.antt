use Rattle.std.proofs.Common.{◌≡◌, ◌∙◌, Option, sym, ap, subst, arith}
use Rattle.fg_base.specs.declared.count.Count.{Count}
use Rattle.fg_part.specs.declared.part_map.PartMap.{PartMap}
use Rattle.fg_cache.specs.Pass.{IsPassOf, Token}
use Rattle.fg_cache.specs.Site.{Site}
use Rattle.fg_worker.specs.Hand.{IsHand, IsPassHeld}
use Rattle.fg_worker.proofs.TestLaws.{small-active, small-desk, small-needed}
use Rattle.fg_worker.proofs.tests.run.Goals as goal

pub run-answer-requires-clause-lent : goal.run-answer-requires-clause-lent
run-answer-requires-clause-lent g c =
    let site : Site = c.in_ok-cache.cache.site in
    let own = subst (λ (token : Token). IsPassOf site token) (sym c.pass.view_is) c.in_ok-cache.ensures.pass in
    let is_hand = c.new-hand.ensures.is_hand site own in (
      small-desk _ (record {
        layout = c.layout.ensures;
        site_layout = c.in_ok-cache.ensures.layout;
        none_told = c.in_ok-cache.ensures.image;
        weighted = c.in_ok-index.ensures.weighted;
        outs = c.in_ok-index.ensures.each.0;
        ins = c.in_ok-index.ensures.each.1;
        sum_outs = c.in_ok-index.ensures.sums.0;
        sum_ins = c.in_ok-index.ensures.sums.1;
        vertices = c.new-map.ensures.0;
        states = c.states-states.ensures;
        asked = c.in_ok-cache.ensures.asked;
      }),
      subst (λ (pmap : PartMap). IsHand site pmap c.new-hand.result) c.in_ok-new.ensures.map is_hand,
    )

pub run-answer-requires-clause-room : goal.run-answer-requires-clause-room
run-answer-requires-clause-room g c =
    let desk = (run-answer-requires-clause-lent g c).0 in
    let no_runs : c.new-hand.result.tally.runs ≡ 0 = ap (λ (t : Count). t.runs) c.new-hand.ensures.tally ∙ c.new-2.ensures.runs in
    let no_entries : c.new-hand.result.tally.entries ≡ 0 = ap (λ (t : Count). t.entries) c.new-hand.ensures.tally ∙ c.new-2.ensures.entries in
    record {
      for_runs = omega (arith, no_runs, small-active _ desk c.new-map.ensures.0 c.args.block);
      for_entries = omega (arith, no_entries, small-needed _ desk c.new-map.ensures.0 c.args.block);
    }

pub settle-requires-clause-room_of_runs : goal.settle-requires-clause-room_of_runs
settle-requires-clause-room_of_runs g c =
    let none : c.new-hand.result.tally.runs ≡ 0 = ap (λ (t : Count). t.runs) c.new-hand.ensures.tally ∙ c.new-2.ensures.runs in
    let few = small-active _ c.run-answer.ensures.lent.0 c.new-map.ensures.0 c.args.block in
    omega (arith, c.new-tally.ensures.runs, c.run-answer.ensures.few.few_runs, none, few)

pub settle-requires-clause-room_of_entries : goal.settle-requires-clause-room_of_entries
settle-requires-clause-room_of_entries g c =
    let none : c.new-hand.result.tally.entries ≡ 0 = ap (λ (t : Count). t.entries) c.new-hand.ensures.tally ∙ c.new-2.ensures.entries in
    let few = small-needed _ c.run-answer.ensures.lent.0 c.new-map.ensures.0 c.args.block in
    omega (arith, c.new-tally.ensures.entries, c.run-answer.ensures.few.few_entries, none, few)

pub into_parts-pass-requires : goal.into_parts-pass-requires
into_parts-pass-requires g c =
    let site : Site = c.in_ok-cache.cache.site in
    record { pass = (site, subst (λ (pass : Option Token). IsPassHeld site pass) (sym c.settle.ensures.pass) c.run-answer.ensures.lent.1.pass_held) }
