use Rattle.std.proofs.lemmas.List.{take_rest}
use Rattle.fg_index.proofs.IndexLemmas.{out_fault, in_fault, left_over, whole}
use Rattle.fg_index.proofs.index.Index.read.Goals as goal

pub returns-in-Err-clause-fault : goal.returns-in-Err-clause-fault
returns-in-Err-clause-fault c =
    rw c.placed.ensures (out_fault c.args.n c.args.out_entries c.args.in_entries c.args.bytes.now c.in-Err.fault c.in-Err.ensures.fault)

pub returns-in-Err-read_direction-clause-fault : goal.returns-in-Err-read_direction-clause-fault
returns-in-Err-read_direction-clause-fault c =
    let first = c.in-Ok.ensures in
    let second = rw take_rest at c.in-Err-read_direction.ensures.fault in
    rw c.placed-in-Err-read_direction.ensures
    (in_fault c.args.n c.args.out_entries c.args.in_entries c.in-Ok.outs.len c.args.bytes.now c.in-Ok.outs.degrees c.in-Err-read_direction.fault first.found first.len second)

pub returns-then-end-bytes-clause-fault : goal.returns-then-end-bytes-clause-fault
returns-then-end-bytes-clause-fault c =
    let first = c.in-Ok.ensures in
    let found = rw take_rest at c.in-Ok-read_direction.ensures.found in
    let len = rw take_rest at c.in-Ok-read_direction.ensures.len in
    left_over c.args.n c.args.out_entries c.args.in_entries c.in-Ok.outs.len c.in-Ok-read_direction.ins.len c.args.bytes.now
    c.in-Ok.outs.degrees c.in-Ok-read_direction.ins.degrees first.found first.len found len c.if-end-bytes.true

pub returns-clause-found : goal.returns-clause-found
returns-clause-found c =
    let first = c.in-Ok.ensures in
    let found = rw take_rest at c.in-Ok-read_direction.ensures.found in
    let len = rw take_rest at c.in-Ok-read_direction.ensures.len in
    whole c.args.n c.args.out_entries c.args.in_entries c.in-Ok.outs.len c.in-Ok-read_direction.ins.len c.args.bytes.now
    c.in-Ok.outs.degrees c.in-Ok-read_direction.ins.degrees first.found first.len found len c.if-end-bytes.false
