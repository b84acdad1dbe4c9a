use Rattle.std.proofs.Common.{◌∙◌, ◌*◌, drop, arith}
use Rattle.std.proofs.lemmas.List.{length-take-le}
use Rattle.std.proofs.lemmas.Result.{on_ok_weaker}
use Rattle.fg_cache.proofs.BufferLemmas.{front_pages}
use Rattle.fg_cache.proofs.buffer.read_front.Goals as goal

pub returns-clause-pages : goal.returns-clause-pages
returns-clause-pages g c =
    let room = length-take-le (c.args.count * 4096) c.args.into.now (omega (arith, c.requires.room_for, c.requires.few)) in
    on_ok_weaker c.read_run.result
    (front_pages (g.D.Drive.held c.args.drive.now) c.args.first c.args.count c.read_run.new.into (drop (c.args.count * 4096) c.args.into.now) (c.read_run.auto.into ∙ room))
    c.read_run.ensures.bytes
