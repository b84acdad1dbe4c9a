use Rattle.std.proofs.Common.{◌≡◌, ℕ, ◌+◌, ◌*◌, ◌/◌, ◌<◌, ◌≤◌, false, length, get_or, get_or-set_same, get_or-set_other, length-set, inl, inr, refl, sym, ◌∙◌, arith}
use Rattle.std.proofs.lemmas.Bool.{cases_eq, cases_lt}
use Rattle.std.proofs.lemmas.List.{get_or_default, get_or_past}
use Rattle.fg_batch.proofs.BitsLaws.{flagged-wiped}
use Rattle.std.specs.Int.{div_ceil}
use Rattle.fg_batch.specs.Bits.{is_in}
use Rattle.fg_batch.proofs.bits.wipe_flagged.Goals.{else-index, then-index}
use Rattle.fg_batch.proofs.bits.wipe_flagged.Goals as goal

pub loop-block-init : goal.loop-block-init
loop-block-init c = record {
  word_count = refl;
  flag_count = refl;
  flagged = c.requires.flagged;
  gone = λ b below. absurd (omega (arith, below));
}

pub loop-block-preserved : goal.loop-block-preserved
loop-block-preserved c =
    let flags = c.loop-block.flags.items in
    let words = c.loop-block.words.items in
    let block = c.loop-block.block in
    let kept = c.loop-block.invariant in
    let below : block < length flags = omega (arith, c.loop-block-test.true, c.len-block-end.ensures, kept.flag_count) in
    elim c.if-index.branch [
      | then-index w ↦
          let inside : (k : ℕ) → block * c.args.size / 64 ≤ k / 64 → k / 64 < div_ceil (block * c.args.size + c.args.size) 64 → is_in w.wipe.new.words.items k ≡ false =
          λ k from before. w.wipe.ensures.inside k from (omega (arith, before, w.div_ceil.ensures)) in
          rw (w.words-is, w.flags-is) (record {
            word_count = w.wipe.ensures.length ∙ kept.word_count;
            flag_count = length-set flags block false ∙ kept.flag_count;
            flagged = flagged-wiped c.args.size block flags words w.wipe.new.words.items c.requires.size.0 kept.flagged inside w.wipe.ensures.less;
            gone = λ b before.
                elim (cases_eq b block) [
                  | inl same ↦ rw same (get_or-set_same flags block false false below)
                  | inr other ↦ get_or-set_other flags block b false false other ∙ kept.gone b (omega (arith, before, other))
                ];
          })
      | else-index w ↦
          let bare : get_or flags block false ≡ false =
          get_or_default flags block false c.index.result.now below ∙ sym c.index.ensures ∙ w.if-index.false in
          rw (w.words-is, w.flags-is) (record {
            word_count = kept.word_count;
            flag_count = kept.flag_count;
            flagged = kept.flagged;
            gone = λ b before.
                elim (cases_eq b block) [
                  | inl same ↦ rw same bare
                  | inr other ↦ kept.gone b (omega (arith, before, other))
                ];
          })
    ]

pub returns-clause-none : goal.returns-clause-none
returns-clause-none c k =
    let flags = c.loop-block.flags.items in
    c.loop-block.invariant.flagged k
    (elim (cases_lt (k / c.args.size) (length flags)) [
      | inl within ↦ c.loop-block.invariant.gone (k / c.args.size) (omega (arith, within, c.loop-block.invariant.flag_count, c.loop-block-test.false))
      | inr past ↦ get_or_past flags (k / c.args.size) false past
    ])
