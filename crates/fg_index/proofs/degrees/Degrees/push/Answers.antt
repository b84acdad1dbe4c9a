use Rattle.std.proofs.Common.{◌≡◌, ◌<◌, ◌^◌, length, ap, arith}
use Rattle.fg_index.proofs.JoinedLemmas.{joined-length}
use Rattle.fg_index.proofs.PushLemmas.{push_made, joined-push}
use Rattle.fg_index.proofs.degrees.Degrees.push.Goals as goal

pub overflow_add-result : goal.overflow_add-result
overflow_add-result c =
    let inside = c.self.inside in
    let few : length inside.low.items < 2 ^ 24 = omega (arith, joined-length inside.low.items inside.long.items, ap length c.self.view_is, c.requires) in
    omega (arith, c.self.invariant.bounded, few, c.from.ensures, c.ranges.degree.fits)

pub invariant_of-result : goal.invariant_of-result
invariant_of-result c =
    let inside = c.self.inside in
    let longs : c.len.result ≡ length inside.long.items = omega (arith, c.len.ensures, inside.long.ok) in
    let next : c.len-2.result ≡ length inside.low.items = omega (arith, c.len-2.ensures, inside.low.ok) in
    push_made inside.low.items inside.long.items c.in_ok-low.low.items c.in_ok-long.long.items inside.starts.items c.in_ok-starts.starts.items
    inside.total c.args.degree c.byte_of.result c.len-2.result c.len.result c.from.result (omega arith) c.self.invariant
    c.byte_of.ensures next longs c.from.ensures c.in_ok-low.ensures c.in_ok-long.ensures c.in_ok-starts.ensures

pub returns : goal.returns
returns c =
    let inside = c.self.inside in
    rw (c.in_ok-low.ensures, c.in_ok-long.ensures, c.byte_of.ensures, ← c.self.view_is)
    (joined-push inside.low.items inside.long.items c.args.degree c.self.invariant.each_long)
