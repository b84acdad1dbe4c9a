use Rattle.std.proofs.Common.{◌≡◌, ◌∙◌, sym, arith}
use Rattle.std.proofs.lemmas.List.{take_rest}
use Rattle.fg_index.specs.Direction.{summed, direction_at}
use Rattle.fg_index.proofs.DirectionLemmas.{no_bytes, no_count, miscounted, counted_of}
use Rattle.fg_index.proofs.direction.read_direction.Goals as goal

pub returns-then-bytes-vertices-clause-fault : goal.returns-then-bytes-vertices-clause-fault
returns-then-bytes-vertices-clause-fault c = no_bytes c.args.n c.args.entries c.args.bytes.now (omega arith)

pub returns-then-bytes-vertices-2-clause-fault : goal.returns-then-bytes-vertices-2-clause-fault
returns-then-bytes-vertices-2-clause-fault c = no_count c.args.n c.args.entries c.args.bytes.now (omega arith) (omega arith)

pub returns-then-longs-count-clause-fault : goal.returns-then-longs-count-clause-fault
returns-then-longs-count-clause-fault c =
    let count = rw take_rest at c.number_in-count.ensures in
    miscounted c.args.n c.args.entries c.args.bytes.now (omega arith) (λ e. c.if-longs-count.true (c.in-Ok.ensures.longs ∙ e ∙ sym count))

pub returns-clause-found : goal.returns-clause-found
returns-clause-found c =
    let count = rw take_rest at c.number_in-count.ensures in
    let pairs = rw take_rest at c.pairs_in-pairs.ensures in
    let same : direction_at c.args.n c.args.entries c.args.bytes.now ≡ summed c.args.n c.args.entries c.in-Ok.read.degrees =
    counted_of c.args.n c.args.entries c.number_in-count.result c.in-Ok.read.longs c.args.bytes.now c.pairs_in-pairs.result.now c.in-Ok.read.degrees
    (omega arith) count pairs c.in-Ok.ensures.longs c.if-longs-count.false c.in-Ok.ensures.degrees in
    rw same c.summed.ensures.found

pub returns-clause-fault : goal.returns-clause-fault
returns-clause-fault c =
    let count = rw take_rest at c.number_in-count.ensures in
    let pairs = rw take_rest at c.pairs_in-pairs.ensures in
    let same : direction_at c.args.n c.args.entries c.args.bytes.now ≡ summed c.args.n c.args.entries c.in-Ok.read.degrees =
    counted_of c.args.n c.args.entries c.number_in-count.result c.in-Ok.read.longs c.args.bytes.now c.pairs_in-pairs.result.now c.in-Ok.read.degrees
    (omega arith) count pairs c.in-Ok.ensures.longs c.if-longs-count.false c.in-Ok.ensures.degrees in
    rw same c.summed.ensures.fault
