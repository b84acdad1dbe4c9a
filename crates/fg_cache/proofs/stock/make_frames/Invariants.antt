use Rattle.std.proofs.Common.{◌≡◌, ◌≤◌, All, length, vec_len, vec_capacity}
use Rattle.fg_cache.proofs.stock.make_frames.Given as goal

abbrev pub invariant-loop-frame : goal.invariant-loop-frame
invariant-loop-frame l = record {
  count : length l.frames.items ≡ l._frame;
  long : vec_len l.frames ≡ l._frame;
  room : l.fn.count ≤ vec_capacity l.frames;
  image : All (λ frame. frame ≡ l.fn.image.pages) l.frames.items;
}
