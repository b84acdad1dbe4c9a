use Rattle.std.proofs.Common.{◌≡◌, ℕ, suc, ◌+◌, ◌*◌, ◌/◌, ◌%◌, ◌≤◌, length, refl, ap, ◌∙◌, arith}
use Rattle.std.proofs.Math.Nat.{suc-mul}
use Rattle.std.proofs.lemmas.Nat.{div-add-mod', mod-mul-add, pow_pos}
use Rattle.fg_gather.proofs.RunLaws.{run-ahead, run-count, run-done}
use Rattle.fg_part.specs.PartMap.{block_size}
use Rattle.fg_gather.proofs.gather.gather_run.Goals as goal

pub loop-at-init : goal.loop-at-init
loop-at-init g c =
    let size = block_size c.args.inboxes.now.map in
    record {
      count = refl;
      within = omega arith;
      block = c.args.first / size;
      begins = λ some. omega (arith, div-add-mod' c.args.first size, c.requires.begins);
      done = λ k below. absurd (omega (arith, below));
      ahead = λ k above. refl;
    }

pub gather_block-requires-clause-begins : goal.gather_block-requires-clause-begins
gather_block-requires-clause-begins g c =
    let map = c.args.inboxes.now.map in
    let kept = c.loop-at.invariant in
    let here : c.args.first + c.loop-at.at ≡ kept.block * block_size map + 0 = omega (arith, kept.begins (omega (arith, c.loop-at-test.true, kept.count))) in
    ap (λ (x : ℕ). x % block_size map) here ∙ mod-mul-add kept.block (block_size map) 0 (pow_pos map.shift)

pub loop-at-preserved : goal.loop-at-preserved
loop-at-preserved g c =
    let P = g.P.Program.rules c.args.inboxes.now.program in
    let map = c.args.inboxes.now.map in
    let parts = c.args.inboxes.now.parts in
    let marks = c.args.marks.now in
    let first = c.args.first in
    let at = c.loop-at.at in
    let end = c.min-end.result in
    let old = c.args.states.now in
    let kept = c.loop-at.invariant in
    let size : c.block_size-size.result ≡ block_size map = c.block_size-size.ensures.value ∙ ap block_size c.map.ensures in
    let on : at ≤ end = omega (arith, c.min-end.ensures, c.loop-at-test.true) in
    let inside : end ≤ length old = omega (arith, c.min-end.ensures, kept.count) in
    record {
      count = run-count P map c.args.phase parts marks first at end old c.loop-at.states c.gather_block.new.states kept.count on inside kept.done kept.ahead c.gather_block.ensures;
      within = inside;
      block = suc kept.block;
      begins = λ below.
          let now = kept.begins (omega (arith, c.loop-at-test.true, kept.count)) in
          omega (arith, now, suc-mul kept.block (block_size map), c.min-end.ensures, size, below, kept.count);
      done = run-done P map c.args.phase parts marks first at end old c.loop-at.states c.gather_block.new.states kept.count on inside kept.done kept.ahead c.gather_block.ensures;
      ahead = run-ahead P map c.args.phase parts marks first at end old c.loop-at.states c.gather_block.new.states kept.count on inside kept.done kept.ahead c.gather_block.ensures;
    }
