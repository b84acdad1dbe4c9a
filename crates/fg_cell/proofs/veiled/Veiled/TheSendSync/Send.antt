use mathlib.Core.List.{[]}
use denote.RattleType.{RattleType, Denots}
use denote.Struct.Values.{intos}
use denote.Param.Send.{IsSend}
use Rattle.fg_cell.specs.contracts.veiled.Veiled.{the_row, struct}
use Rattle.fg_cell.proofs.Alone.{veil_quiet}

pub send : (X : RattleType) → IsSend X → IsSend (the_row X)
send X s = record {
  owned = λ d vs. ((λ vss. (tt, (s.owned d.value vss.0, tt))), tt);
  leaving = λ k. veil_quiet {Y = Denots []} (λ d. intos (struct X).parts ((struct X).as_values d)) (X.exit k) (s.leaving k);
}
