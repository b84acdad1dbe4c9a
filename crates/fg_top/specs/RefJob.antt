-- What a run over the whole graph in memory promises.
use Rattle.std.specs.Prelude.{None}
use Rattle.fg_outside.specs.Drives.{LogsGrew, LogsGrewByFirst}
use Rattle.fg_top.specs.declared.wish.Wish.{Wish}
use Rattle.fg_top.specs.Calls.{told_by}
use Rattle.fg_top.specs.Meaning.{MeansWish}
use Rattle.fg_top.specs.Outcome.{WishComesTo, held_graph}
use Rattle.fg_top.specs.Promise.{OfReads, Promise, alone}
use Rattle.fg_top.specs.Reads.{ref_reads}
use Rattle.fg_top.specs.RunJob.{opens}

-- the whole opening, and then the whole image
abbrev pub reads_whole : {D : Type 0} → Wish → OfReads D
reads_whole wish = record {
  reads = λ helds call. LogsGrewByFirst call.tells.log (ref_reads wish helds) call.olds call.news;
  all_reads = λ helds call. LogsGrew call.tells.log (ref_reads wish helds) call.olds call.news;
  keeps_logs = λ call. Unit {0};
}

-- the promise
abbrev pub ref_promise : {D : Type 0} → Wish → Promise D
ref_promise {D} wish =
    let other : Promise D = alone (λ call. WishComesTo wish None (told_by call)) in
    record other {
      of_drives = opens;
      of_reads = reads_whole wish;
      means = λ helds. MeansWish wish (held_graph helds);
    }
