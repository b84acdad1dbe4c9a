-- What a run leaves behind the lock of a queue.
use Rattle.std.proofs.Common.{◌≡◌, ◌++◌, ◌∙◌, ◌+◌, List, length, All, arith, pos, ◌-ℤ◌}
use Rattle.std.specs.Prelude.{IsPermutation}
use Rattle.std.proofs.lemmas.Int.{ints}
use Rattle.std.proofs.lemmas.List.{length-append, get_or_append_left, get_or-append-add}
use Rattle.std.proofs.lemmas.List.Sorted.{All-permutation, length_permutation}
use Rattle.fg_queue.specs.LoadQueue.{LoadQueue}
use Rattle.fg_queue.specs.declared.load.Load.{Load}
use Rattle.fg_cache.specs.Load.{IsLoad}
use Rattle.fg_cache.specs.Names.{LockOf}
use Rattle.fg_cache.specs.QueueDesk.{IsQueueDesk}
use Rattle.fg_cache.specs.declared.queue_desk.QueueDesk.{QueueDesk}

pub All-parts : {X : Type 0} (P : X → Type 0) (xs ys : List X) → All P (xs ++ ys) → All P xs × All P ys
All-parts P xs ys all = (
  (λ k d h. rw (← get_or_append_left xs ys d k h) (all k d (omega (arith, h, length-append xs ys)))),
  (λ k d h. rw (← get_or-append-add xs ys k d) (all (length xs + k) d (omega (arith, h, length-append xs ys)))),
)

pub run_loads : (name : LockOf) (old : QueueDesk) (left run : List Load) → IsQueueDesk name old → IsPermutation old.queue.loads (run ++ left) →
    All (IsLoad name.site name.number) run × All (IsLoad name.site name.number) left
run_loads name old left run fits all = All-parts (IsLoad name.site name.number) run left
    (All-permutation (IsLoad name.site name.number) old.queue.loads (run ++ left) all fits.loads)

pub keeps_taken : (name : LockOf) (old : QueueDesk) (queue : LoadQueue) (run : List Load) → IsQueueDesk name old → IsPermutation old.queue.loads (run ++ queue.loads) →
    queue.depth ≡ old.queue.depth →
    IsQueueDesk name (record { queue = queue; share = record old.share { takes = old.share.takes -ℤ pos (length run) } })
keeps_taken name old queue run fits all depth =
    let long = length_permutation old.queue.loads (run ++ queue.loads) all in
    let parts = length-append run queue.loads in
    let waits = fits.waits in
    record {
      depth = depth ∙ fits.depth;
      loads = (run_loads name old queue.loads run fits all).1;
      books = fits.books;
      parts = fits.parts;
      waits = omega (arith, ints, waits, long, parts);
      entries = fits.entries;
      repairs = fits.repairs;
    }
