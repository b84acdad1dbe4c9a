use Rattle.std.proofs.Common.{◌≡◌, ℕ, ◌+◌, ◌*◌, ◌<◌, Bool, List, [], ◌∷◌, ◌++◌, length, map, take, get_or, refl, ap, sym, ◌∙◌, arith}
use Rattle.std.proofs.lemmas.Grind.{take-set_at}
use Rattle.std.proofs.lemmas.List.{length-set, map-append}
use Rattle.fg_base.specs.declared.plain.Entry.{Entry}
use Rattle.fg_image.specs.Lists.{entries_at, entry_at}
use Rattle.fg_image.specs.Turned.{has_weights, key_of, numbers}
use Rattle.fg_image.proofs.EntryLaws.{entries_at-more}
use Rattle.fg_image.proofs.TargetLaws.{entry-read}
use Rattle.fg_index.specs.ImageIndex.{entry_bytes}
use Rattle.fg_image.proofs.mirror.read_list.Goals as goal

pub loop-i-preserved : goal.loop-i-preserved
loop-i-preserved c =
    let index = c.args.index.now in
    let w = index.weighted in
    let image = c.args.image.now in
    let begin = c.args.begin in
    let i = c.loop-i.i in
    let keys = numbers c.loop-i.keys in
    let entry = c.entry_at-entry.result in
    let read = entries_at w image begin i in
    let size = c.entry_bytes-size.ensures.size ∙ ap entry_bytes c.weighted.ensures in
    let is = entry-read w c.weighted-in-loop-i.result image begin i c.entry_bytes-size.result entry c.entry_at-entry.ensures c.weighted-in-loop-i.ensures size in
    let within : i < length keys = omega (arith, c.loop-i-test.true, c.degree-i-end.ensures, c.loop-i.invariant.count, c.requires.room) in
    record {
      read =
          ap (take (i + 1)) c.set.ensures.set
          ∙ take-set_at keys i (i + 1) (key_of (has_weights c.loop-i.keys) entry) refl within
          ∙ ap (λ (l : List ℕ). l ++ key_of (has_weights c.loop-i.keys) entry ∷ []) c.loop-i.invariant.read
          ∙ ap (λ (b : Bool). map (key_of w) read ++ key_of b entry ∷ []) c.loop-i.invariant.weights
          ∙ ap (λ (e : Entry). map (key_of w) read ++ key_of w e ∷ []) is
          ∙ sym (ap (map (key_of w)) (entries_at-more w image begin i) ∙ map-append (key_of w) read (entry_at w image (begin + i * entry_bytes w) ∷ []));
      count = ap length c.set.ensures.set ∙ length-set keys i (key_of (has_weights c.loop-i.keys) entry) ∙ c.loop-i.invariant.count;
      weights = c.set.ensures.weights ∙ c.loop-i.invariant.weights;
    }

pub returns-clause-read : goal.returns-clause-read
returns-clause-read c =
    let index = c.args.index.now in
    let w = index.weighted in
    let image = c.args.image.now in
    let degree = get_or index.ins c.args.v 0 in
    let all : c.loop-i.i ≡ degree = omega (arith, c.loop-i-test.false, c.loop-i.auto.i-end, c.degree-i-end.ensures) in
    ap (λ (k : ℕ). take k (numbers c.loop-i.keys)) (sym all)
    ∙ c.loop-i.invariant.read
    ∙ ap (λ (k : ℕ). map (key_of w) (entries_at w image c.args.begin k)) all
    ∙ ap (λ (at : ℕ). map (key_of w) (entries_at w image at degree)) c.requires.begin
