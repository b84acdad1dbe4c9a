use Rattle.std.proofs.Common.{◌≡◌, length, map, false}
use Rattle.std.specs.Prelude.{filter, slice_index, slice_index_or}
use Rattle.std.specs.List.{range_with_len}
use Rattle.fg_iter.proofs.listing.list_marked.Given as goal

abbrev pub invariant-loop-block : goal.invariant-loop-block
invariant-loop-block l = record {
  the_end : l.block-end ≡ length l.marks;
  blocks : l.listed.blocks.items ≡ filter (λ block. slice_index_or l.marks block false) (range_with_len 0 l.block);
  weights : l.listed.weights.items ≡ map (slice_index l.weights) (filter (λ block. slice_index_or l.marks block false) (range_with_len 0 l.block));
}
