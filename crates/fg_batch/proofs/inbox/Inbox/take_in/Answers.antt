use Rattle.std.proofs.Common.{◌≡◌, ℕ, ◌/◌, ◌^◌, ◌<◌, Bool, true, List, length, length-set, get_or, set, refl, ap, ◌∙◌, arith}
use Rattle.std.specs.Prelude.{if◌then◌else◌}
use Rattle.std.proofs.lemmas.Grind.{get_or_default_zero}
use Rattle.fg_batch.proofs.BitsLaws.{flagged-put}
use Rattle.fg_batch.proofs.BlockLaws.{block_within}
use Rattle.fg_batch.specs.Bits.{is_in}
use Rattle.fg_part.specs.PartMap.{block_size}
use Rattle.fg_batch.specs.Inbox.{held_by, with_mail}
use Rattle.fg_batch.proofs.InboxLaws.{took}
use Rattle.fg_batch.proofs.inbox.Inbox.take_in.Goals as goal

pub returns : goal.returns
returns g c =
    let P = g.P.Program.rules c.self.inside.program.now in
    let numbers = c.self.inside.numbers.items in
    let came = c.self.inside.came.items in
    let at = c.place_of-place.result in
    let own = rw (← c.self.view_is) at c.requires.own in
    let within = rw own at c.place_of-place.ensures.within in
    let below : at < length numbers = omega (arith, within, c.self.invariant.count) in
    let has : c.has-came.result ≡ is_in came at = c.has-came.ensures ∙ ap (λ (words : List ℕ). is_in words at) c.deref.ensures.value in
    let old : c.index.result.now ≡ get_or numbers at 0 = c.index.ensures ∙ get_or_default_zero numbers at c.index.result.now below in
    let number : c.joined-number.result ≡ (if is_in came at then P.combine (get_or numbers at 0) c.args.mail.message else c.args.mail.message) =
    c.joined-number.ensures ∙ ap (λ (b : Bool). if b then P.combine c.index.result.now c.args.mail.message else c.args.mail.message) has
    ∙ ap (λ (x : ℕ). if is_in came at then P.combine x c.args.mail.message else c.args.mail.message) old in
    let took_in : held_by (set numbers at c.joined-number.result) c.put.new.words.items ≡ with_mail P c.self.inside.map (held_by numbers came) c.args.mail =
    took P c.self.inside.map numbers came c.put.new.words.items c.args.mail at c.joined-number.result c.place_of-place.ensures.value below number c.put.ensures.more in
    rw (← c.self.view_is) (rw took_in refl)

pub index_mut-requires-2 : goal.index_mut-requires-2
index_mut-requires-2 g c =
    let own = rw (← c.self.view_is) at c.requires.own in
    let within = rw own at c.place_of-place.ensures.within in
    let inside = block_within c.self.inside.map c.self.inside.part c.place_of-place.result c.self.inside.flags.items within c.self.invariant.flag_count in
    omega (arith, inside, c.self.inside.flags.ok.0)

pub invariant_of-self : goal.invariant_of-self
invariant_of-self g c =
    let before = c.self.invariant in
    let at = c.place_of-place.result in
    let own = rw (← c.self.view_is) at c.requires.own in
    let within = rw own at c.place_of-place.ensures.within in
    let inside = block_within c.self.inside.map c.self.inside.part at c.self.inside.flags.items within before.flag_count in
    record {
      own = before.own;
      count = length-set c.self.inside.numbers.items at c.joined-number.result ∙ before.count;
      enough = omega (arith, length-set c.self.inside.numbers.items at c.joined-number.result, c.put.ensures.length, before.enough);
      few = omega (arith, c.put.ensures.length, before.few);
      flag_count = length-set c.self.inside.flags.items (at / 2 ^ c.self.inside.map.shift) true ∙ before.flag_count;
      flagged = flagged-put (block_size c.self.inside.map) at c.self.inside.flags.items c.self.inside.came.items c.put.new.words.items inside before.flagged c.put.ensures.more;
    }
