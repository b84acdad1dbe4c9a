use Rattle.std.proofs.Common.{◌≡◌, ap, ◌∙◌, arith}
use Rattle.fg_base.specs.declared.plain.VState.{VState}
use Rattle.fg_gather.proofs.RunLaws.{chunk-gathered, multiple}
use Rattle.fg_part.specs.PartMap.{block_size}
use Rattle.std.proofs.lemmas.Nat.{pow_pos}
use Rattle.fg_gather.proofs.gather.gather_all.Goals as goal

pub for_each_chunk_mut-requires-clause-accepts :
    goal.for_each_chunk_mut-requires-clause-accepts
for_each_chunk_mut-requires-clause-accepts g c κs within = λ start p chunk.
    let map = c.args.inboxes.now.map in
    let size : c.block_size-size.result ≡ block_size map = c.block_size-size.ensures.value ∙ ap block_size c.map.ensures in
    let begins = multiple start c.max.result c.block_size-size.result (block_size map) size (pow_pos map.shift) chunk.start_is_multiple in
    (begins, omega (arith, chunk.in_bounds, c.requires.states), c.requires.marks)

pub returns : goal.returns
returns g c =
    let blank : VState = record { a = 0; b = 0; c = 0 } in
    record {
      count = c.for_each_chunk_mut.auto.s;
      each = λ k below.
          let change = (c.for_each_chunk_mut.ensures.by_index k blank below).1 in
          chunk-gathered (g.P.Program.rules c.args.inboxes.now.program) c.args.inboxes.now.map c.args.phase c.args.inboxes.now.parts c.args.marks.now change.start change.offset k
          change.argument.now change.after_call.now c.args.states.now c.for_each_chunk_mut.new.s change.call change.start_plus_offset change.offset_in_chunk change.old_element change.new_element;
    }
