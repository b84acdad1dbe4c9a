use denote.RattleType.{RattleType}
use denote.Param.Send.{IsSend, IsSync, part_keyless}
use Rattle.fg_cell.specs.contracts.veiled.Veiled.{the_row}
use Rattle.fg_cell.proofs.veiled.Veiled.TheSendSync.Send.{send}

-- a shared value shows nothing: what is shared is a borrow of the whole, which the last owner may send on
pub sync : (X : RattleType) → IsSend X → IsSync (the_row X)
sync X s = record { shared = λ d b o ν q. part_keyless (the_row X) (send X s) q d b o }
