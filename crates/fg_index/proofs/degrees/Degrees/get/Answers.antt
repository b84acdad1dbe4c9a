use Rattle.std.proofs.Common.{◌≡◌, length, ap, sym, get_or, ◌∙◌, ◌<◌, arith}
use Rattle.std.proofs.lemmas.List.{get_or_read}
use Rattle.fg_index.proofs.JoinedLemmas.{joined-length}
use Rattle.fg_index.proofs.WalkLemmas.{short_get, long_get, long_there}
use Rattle.fg_index.proofs.degrees.Degrees.get.Goals as goal

pub index-byte-requires : goal.index-byte-requires
index-byte-requires c =
    let inside = c.self.inside in
    omega (arith, inside.low.ok, joined-length inside.low.items inside.long.items, ap length c.self.view_is, c.requires.within)

pub below_of-below-requires-clause-few : goal.below_of-below-requires-clause-few
below_of-below-requires-clause-few c =
    let inside = c.self.inside in
    rw c.deref.ensures.value (omega (arith, joined-length inside.low.items inside.long.items, ap length c.self.view_is, c.requires.few))

pub below_of-below-requires-clause-within : goal.below_of-below-requires-clause-within
below_of-below-requires-clause-within c =
    let inside = c.self.inside in
    rw c.deref.ensures.value (omega (arith, joined-length inside.low.items inside.long.items, ap length c.self.view_is, c.requires.within))

pub returns-then-byte : goal.returns-then-byte
returns-then-byte c =
    let low = c.self.inside.low in
    let long = c.self.inside.long in
    let within : c.args.v < length low.items = omega (arith, joined-length low.items long.items, ap length c.self.view_is, c.requires.within) in
    let byte = get_or_read low.items c.args.v c.index-byte.result.now within c.index-byte.ensures 0 in
    let short : get_or low.items c.args.v 0 ≡ 255 → ⊥ = λ e. c.if-byte.true (byte ∙ e) in
    c.from.ensures ∙ byte ∙ sym (short_get low.items long.items c.args.v within short) ∙ ap (λ ds. get_or ds c.args.v 0) c.self.view_is

pub index-requires : goal.index-requires
index-requires c =
    let low = c.self.inside.low in
    let long = c.self.inside.long in
    let within : c.args.v < length low.items = omega (arith, joined-length low.items long.items, ap length c.self.view_is, c.requires.within) in
    let byte = get_or_read low.items c.args.v c.index-byte.result.now within c.index-byte.ensures 0 in
    let is : get_or low.items c.args.v 0 ≡ 255 = sym byte ∙ c.if-byte.false in
    let below = rw (c.deref.ensures.value, c.deref-2.ensures.value) at c.below_of-below.ensures in
    omega (arith, below.longs, long_there low.items c.args.v within is, c.self.invariant.each_long, long.ok)

pub returns : goal.returns
returns c =
    let low = c.self.inside.low in
    let long = c.self.inside.long in
    let within : c.args.v < length low.items = omega (arith, joined-length low.items long.items, ap length c.self.view_is, c.requires.within) in
    let byte = get_or_read low.items c.args.v c.index-byte.result.now within c.index-byte.ensures 0 in
    let is : get_or low.items c.args.v 0 ≡ 255 = sym byte ∙ c.if-byte.false in
    let below = rw (c.deref.ensures.value, c.deref-2.ensures.value) at c.below_of-below.ensures in
    let there : c.below_of-below.result.longs < length long.items = omega (arith, below.longs, long_there low.items c.args.v within is, c.self.invariant.each_long) in
    let read = get_or_read long.items c.below_of-below.result.longs c.index.result.now there c.index.ensures 0 in
    read ∙ ap (λ n. get_or long.items n 0) below.longs ∙ sym (long_get low.items long.items c.args.v within is) ∙ ap (λ ds. get_or ds c.args.v 0) c.self.view_is
