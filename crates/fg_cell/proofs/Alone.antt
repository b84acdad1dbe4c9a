-- For walks by hand over a type parameter: its one machine value, and an owner that is used up. Assumes `Logic`.
use Rattle.atomic_table.proofs.Names.{◌≡◌, ℕ, List, [], ◌∷◌, refl}
use lib.Dec.{T}
use seplogic.Ra.Ura.{Ura}
use base.Logic.{via}
use mir.Val.{Val, has_ty, WT}
use contract.Lifetimes.{Lfts}
use types.Logic.{Logic}
use denote.RattleType.{RattleType}
use denote.Exit.{Kept, Exit, unchanged, leaves, Last, left, pair, under, hidden}
use denote.Laws.{Typed, Lawful}
use denote.Param.{layout, param}
use denote.Param.Laws.{Laws, param_laws}
use denote.Param.Mute.{blank, had}
use denote.Param.Send.{Quiet}
use denote.Signature.{Slot}
use denote.Triple.Walked.{Goes, stay_dropped}

module _ (X : RattleType) (L : Laws X) where
  abbrev pub lawful : {M : Type 1} {𝓤 : Ura M} (𝓛 : Logic 𝓤) → Lawful 𝓛 (param 0 X)
  lawful 𝓛 = (param_laws 0 X L).lawful 𝓛

  abbrev pub Good : Val → Type 0
  Good v = T (has_ty (layout X) v) × WT v

  pub one : (vs : List Val) → Typed (layout X ∷ []) vs → (v : Val) × (vs ≡ v ∷ []) × Good v
  one [] t = absurd t
  one (v ∷ []) t = (v, refl, t.0)
  one (v ∷ w ∷ vs) t = absurd t.1

pub Goes-blank : {M : Type 1} {𝓤 : Ura M} (𝓛 : Logic 𝓤) (n : ℕ) (s : Slot n) (k : Kept)
    → ((κs : Lfts n) (x : (s.row κs).Denot) (f : Last ((s.row κs).exit k) x) → T (blank (left ((s.row κs).exit k) x f))) → Goes 𝓛 n s k (stay_dropped s k)
Goes-blank {𝓤 = 𝓤} 𝓛 n s k is κs x f vs ok = via 𝓤 _ (had 𝓛 (left ((s.row κs).exit k) x f) (is κs x f)) (𝓛.laws.⇛_intro _)

-- what leaves with a value names no thread, where the same holds of the one value in it
pub veil_quiet : {D X Y : Type 0} (to : D → X × Y) (e : Exit X) → Quiet e → Quiet (hidden (under to (pair e unchanged)))
veil_quiet to unchanged q = λ x w. tt
veil_quiet to (leaves L l S s r₀) q = λ d w. (q (to d).0 w.0, tt)
