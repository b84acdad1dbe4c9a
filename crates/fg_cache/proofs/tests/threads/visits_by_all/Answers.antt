use denote.Param.Send.{sendable}
use Rattle.std.proofs.Crossing.{crosses}
use Rattle.fg_cache.proofs.share.Share.TheSendSync.{the_send}
use Rattle.fg_cache.proofs.tests.threads.visits_by_all.Goals as goal

pub map_vec-requires-send-J : goal.map_vec-requires-send-J
map_vec-requires-send-J g c κs within = search (sendable, crosses, the_send) depth 30 fits 20000
