-- What was sent has no bytes and owns nothing, so it may be the number that the caller picked.
use mathlib.Core.Path.{refl}
use seplogic.Ra.Ura.{Ura}
use base.Logic.{ent}
use types.Logic.{Logic, sem}
use mir.Val.{vstruct, vcons, vnil}
use denote.Shadow.{makes_shadow}
use denote.Struct.Struct.{Struct}
use denote.Struct.Owning.{shape}
use Rattle.atomic_table.proofs.Names.{◌≡◌, [], ◌∷◌, a_type, dcons, dnil, Val, inst_fn, SProp, emp, ‵, raw, ◌⊛◌, ◌$◌, ◌∵◌, !, qed, by, keep, split, fjoin, use0, no_more, and_then, returns, enter, alloc_all, pass_all, free_all, look_at, get, sets, agg, tables, RattleType, owns, types_at, nothing, bounded, alive, Stays, walk_of, fact, fact_i}
use Rattle.atomic_table.proofs.Walks.{proved, leaves}
use Rattle.fg_task.specs.contracts.spent.Sent as sent
use Rattle.fg_task.specs.contracts.spent.Sent.of.{ended, clauses}
use Rattle.fg_task.specs.contracts.spent.Sent.of.Key.{name as #self}
use Rattle.fg_task.proofs.spent.Sent.of.Statement.{statement}
use Rattle.fg_task.proofs.spent.Sent.of.Code as code

abbrev mark_val : Val
mark_val = vstruct (vcons (vstruct vnil) vnil)

abbrev Mark : RattleType
Mark = Struct (shape sent.the_type)

mark_made : {M : Type 1} {𝓤 : Ura M} (𝓛 : Logic 𝓤) → ent 𝓤 (emp 𝓤) (sem 𝓛 (Mark.own_val (tt, tt) (mark_val ∷ [])))
mark_made 𝓛 = makes_shadow 𝓛 (Mark.own_val (tt, tt) (mark_val ∷ [])) (λ vss. (tt, ((λ uss. (tt, tt)), tt))) ((vstruct vnil ∷ [], tt), (refl, ((tt, (refl, tt)), tt)))

pub of_spec : {M : Type 1} → statement M
of_spec 𝓤 𝓛 𝓜 𝓡 wired I L g d _ =
    let H = 𝓛.H in let 𝓣 = tables 𝓤 H 𝓜 𝓡 𝓡.env in let En = ended I g d in let c = clauses I g d 𝓛 𝓜.mem 𝓡.returns in
    let inst = bounded (a_type ∷ []) (I, tt) (dcons d dnil) in let fn = inst_fn inst code.function in let closed = code.unfolded 𝓤 H 𝓜 𝓡 wired (I, tt) d in let Row : RattleType = sent.the_row in
    let hs : Stays En.signature.params En.kept = tt in
    proved 𝓛 En hs c 𝓜 𝓡 tt (#self inst) fn closed (λ κs. tt) (λ κs. tt) (λ κs qs bounds a gh are.
    let r : Row.Denot = record { marker = record {}; messages = g.messages } in
    let Told : Type 0 = r.messages ≡ g.messages in let y : (walk_of 𝓛 En hs c).Ghost = ((κs, qs, bounds, a, tt), gh) in let Post : Val → SProp 𝓤 = (walk_of 𝓛 En hs c).post y in
    qed 𝓛 ((raw (alive 𝓛 En.signature κs qs) ⊛ ‵ (owns (types_at En.signature.params κs) a y.0.4)) ∷ raw ((c κs a).requires gh) ∷ []) ∵
    split ! $ keep ! (0 ∷ []) $ nothing ! $ use0 𝓛 (‵ (Mark.own_val (tt, tt) (mark_val ∷ []))) (mark_made 𝓛) $ fjoin ! $
    enter ! 𝓣.C 𝓣.Λ fn [] Post $ alloc_all ! (λ l. pass_all ! refl tt $
    sets ! (agg ! (no_more !)) refl (tt, tt) $ sets ! (agg ! (and_then ! (get ! refl) (no_more !))) refl (tt, (tt, tt)) $
    use0 𝓛 (raw (fact 𝓤 Told)) (fact_i 𝓤 Told (emp 𝓤) refl) $ nothing ! $
    returns ! (look_at ! 0 refl) $ free_all ! refl $ keep ! (3 ∷ 0 ∷ 2 ∷ 1 ∷ []) $ by ! (leaves 𝓛 En hs c y mark_val r tt tt)))
