use Rattle.std.proofs.Common.{◌+◌, ◌*◌, ◌/◌, ◌<◌, length, arith}
use Rattle.fg_batch.proofs.LaneLaws.{at_within, lane-read, outbox-sent, room-less}
use Rattle.fg_batch.proofs.outbox.Outbox.send.Goals as goal

pub index_mut-requires : goal.index_mut-requires
index_mut-requires c =
    let vertex = rw (← c.self.view_is) at c.requires.vertex in
    let within = at_within c.self.inside.map c.self.inside.lanes.items c.self.inside.lanes_of_part c.args.target c.part_of.result c.place_of.result
    c.self.invariant vertex c.part_of.ensures.value c.place_of.ensures.value in
    omega (arith, within, c.self.inside.lanes.ok)

pub push-requires-clause-room : goal.push-requires-clause-room
push-requires-clause-room c =
    let lanes = c.self.inside.lanes.items in
    let at = c.part_of.result * c.self.inside.lanes_of_part + c.place_of.result / 65536 in
    let vertex = rw (← c.self.view_is) at c.requires.vertex in
    let room = rw (← c.self.view_is) at c.requires.room in
    let within : at < length lanes = at_within c.self.inside.map lanes c.self.inside.lanes_of_part c.args.target c.part_of.result c.place_of.result
    c.self.invariant vertex c.part_of.ensures.value c.place_of.ensures.value in
    let is = lane-read lanes at c.index_mut.result.now within c.index_mut.ensures.value in
    rw is (room at within)

pub invariant_of-self : goal.invariant_of-self
invariant_of-self c =
    let lanes = c.self.inside.lanes.items in
    let at = c.part_of.result * c.self.inside.lanes_of_part + c.place_of.result / 65536 in
    let vertex = rw (← c.self.view_is) at c.requires.vertex in
    let within : at < length lanes = at_within c.self.inside.map lanes c.self.inside.lanes_of_part c.args.target c.part_of.result c.place_of.result
    c.self.invariant vertex c.part_of.ensures.value c.place_of.ensures.value in
    outbox-sent c.self.inside.map lanes c.self.inside.lanes_of_part c.args.target c.part_of.result c.place_of.result
    c.self.invariant vertex c.part_of.ensures.value c.place_of.ensures.value c.args.message c.index_mut.result.now c.push.new.self
    (lane-read lanes at c.index_mut.result.now within c.index_mut.ensures.value) c.push.ensures.items

pub returns-clause-room : goal.returns-clause-room
returns-clause-room c =
    let lanes = c.self.inside.lanes.items in
    let at = c.part_of.result * c.self.inside.lanes_of_part + c.place_of.result / 65536 in
    let vertex = rw (← c.self.view_is) at c.requires.vertex in
    let within : at < length lanes = at_within c.self.inside.map lanes c.self.inside.lanes_of_part c.args.target c.part_of.result c.place_of.result
    c.self.invariant vertex c.part_of.ensures.value c.place_of.ensures.value in
    λ k has. room-less lanes at k c.index_mut.result.now c.push.new.self within
    (lane-read lanes at c.index_mut.result.now within c.index_mut.ensures.value) c.push.ensures.room (rw (← c.self.view_is) at has)
