use Rattle.std.proofs.Common.{◌≡◌, ◌*◌, ◌-◌, ◌<◌, ◌∙◌, true, false, length, sym, arith}
use Rattle.std.proofs.lemmas.List.{get_or_read, length-set}
use Rattle.fg_set.specs.Clock.{is_taken}
use Rattle.fg_set.proofs.ClockLemmas.{look_takes, look_passes, turn-none}
use Rattle.fg_set.proofs.lookup.turn.Goals as goal

pub returns-then-is_taken-clause-end : goal.returns-then-is_taken-clause-end
returns-then-is_taken-clause-end c =
    let read = c.index-entries-looked in
    let again = c.index-entries-looked-then-is_taken in
    let within : c.loop-look.at < length c.loop-look.entries = omega arith in
    let one : again.result ≡ read.result = get_or_read c.loop-look.entries c.loop-look.at again.result within again.is read.result ∙ sym read.is in
    let taken : is_taken read.result ≡ true = cc in
    let step = look_takes (2 * length c.args.entries.now) c.loop-look._look c.args.page c.loop-look.entries c.loop-look.at read.result (omega arith) within read.is taken in
    sym c.loop-look.invariant.same ∙ rw (c.start.ensures, one, ← read.is, c.hand_after-at.ensures.next) step

pub loop-look-preserved : goal.loop-look-preserved
loop-look-preserved c =
    let read = c.index-entries-looked in
    let again = c.index-entries-looked-in-loop-look in
    let within : c.loop-look.at < length c.loop-look.entries = omega arith in
    let one : again.result ≡ read.result = get_or_read c.loop-look.entries c.loop-look.at again.result within again.is read.result ∙ sym read.is in
    let passes : is_taken read.result ≡ false = cc in
    let step = look_passes (2 * length c.args.entries.now) c.loop-look._look c.args.page c.loop-look.entries c.loop-look.at read.result (omega arith) within read.is passes in
    record {
      within = omega (arith, c.hand_after-at.ensures.within, length-set c.loop-look.entries c.loop-look.at c.pass.new.self);
      same = rw (c.pass.ensures, one, ← read.is, c.hand_after-at.ensures.next) (sym step) ∙ c.loop-look.invariant.same;
    }

pub returns-clause-end : goal.returns-clause-end
returns-clause-end c =
    let over : 2 * length c.args.entries.now - c.loop-look._look ≡ 0 = omega arith in
    sym c.loop-look.invariant.same ∙ rw over (turn-none c.args.page c.loop-look.entries c.loop-look.at)
