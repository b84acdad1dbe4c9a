use denote.Param.Send.{sendable}
use Rattle.std.proofs.Crossing.{crosses}
use Rattle.fg_books.proofs.lot.Lot.TheSendSync.{the_send}
use Rattle.fg_cache.proofs.tests.threads.both_served.Goals as goal

pub join-requires-send-A : goal.join-requires-send-A
join-requires-send-A g c κs within = search (sendable, crosses, the_send) depth 30 fits 20000
