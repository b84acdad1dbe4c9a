use Rattle.std.proofs.Crossing.{crosses}
use denote.Param.Send.{IsSend, sendable}
use Rattle.fg_base.specs.contracts.count.Count as Count
use Rattle.fg_worker.proofs.SendLaws.{hand_send}
use Rattle.fg_worker.proofs.tests.are_for_threads.Goals as goal

count_send : IsSend Count.the_row
count_send = search (sendable, crosses) depth 30 fits 20000

pub is_sent-requires-send-T : goal.is_sent-requires-send-T
is_sent-requires-send-T c κs = search (sendable, hand_send, count_send) depth 30 fits 20000
