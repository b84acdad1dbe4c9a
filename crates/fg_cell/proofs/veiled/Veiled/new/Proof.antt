-- The value goes into the struct.
use Rattle.std.proofs.Common.{◌&&◌, true, subst}
use Rattle.std.proofs.ResultValues.{and_tt}
use lib.Dec.{T}
use mir.Val.{vstruct, vcons, vnil, of_list, has_ty, WT}
use base.Logic.{ent, id⊢}
use prog.Wp.{WpFn}
use types.Kit.{suffices}
use denote.Param.{layout}
use Rattle.atomic_table.proofs.Names.{◌≡◌, List, [], ◌∷◌, ◌++◌, sym, refl, a_type, Val, inst_fn, SProp, emp, fsep, ‵, raw, ◌⊛◌, ◌$◌, ◌∵◌, !, qed, by, move, keep, split, fsplit, fjoin, fpack, use0, feq_i, rewrite, of_opd, no_more, and_then, returns, enter, alloc_all, pass_all, free_all, look_at, get, sets, agg, tables, no, RattleType, owns, Valss, types_at, plain, nothing, param, layouts, alive, Stays, stay_dropped, walk_of, Goes-dropped, fact, fact_i}
use Rattle.atomic_table.proofs.Walks.{proved_at, leaves}
use Rattle.fg_cell.specs.contracts.veiled.Veiled as veil
use Rattle.fg_cell.proofs.Alone.{lawful, Good, one}
use Rattle.fg_cell.specs.contracts.veiled.Veiled.new.{ended, clauses}
use Rattle.fg_cell.specs.contracts.veiled.Veiled.new.Key.{name as #self}
use Rattle.fg_cell.proofs.veiled.Veiled.new.Statement.{statement}
use Rattle.fg_cell.proofs.veiled.Veiled.new.Code as code

pub new_spec : {M : Type 1} → statement M
new_spec 𝓤 𝓛 𝓜 𝓡 wired X L =
    let H = 𝓛.H in let 𝓣 = tables 𝓤 H 𝓜 𝓡 𝓡.env in let R : RattleType = param 0 X in let En = ended X in let c = clauses X 𝓛 𝓜.mem 𝓡.returns in
    let inst = layouts (a_type ∷ []) (X, tt) in let fn = inst_fn inst code.function in let Row : RattleType = veil.the_row R in
    let item = plain (λ _. R) in let hs : Stays En.signature.params En.kept = (stay_dropped item no, tt) in
    proved_at 𝓛 En hs c 𝓜 𝓡 (Goes-dropped 𝓛 1 item no (λ κs x f. refl), tt) (#self inst) fn (code.unfolded 𝓤 H 𝓜 𝓡 wired (X, tt)) (λ z are.
    let x : X.Denot = z.0.3.0 in let got = one X L z.0.4.0 ((lawful X L 𝓛).typed x z.0.4.0 are.0) in let vy : Val = got.0 in let fy : Good X L vy = got.2 in let v : Val = vstruct (vcons vy vnil) in
    let r : Row.Denot = record { value = x } in let Post : Val → SProp 𝓤 = (walk_of 𝓛 En hs c).post z in let Run : List Val → SProp 𝓤 = λ ws. WpFn 𝓤 H 𝓣.C 𝓣.Λ fn ws Post in
    let typed : T (has_ty (layout X) vy && true) × WT v = (and_tt (has_ty (layout X) vy) fy.0, (fy.1, tt)) in
    qed 𝓛 ((raw (alive 𝓛 En.signature z.0.0 z.0.1) ⊛ ‵ (owns (types_at En.signature.params z.0.0) z.0.3 z.0.4)) ∷ raw ((c z.0.0 z.0.3).requires z.1) ∷ []) ∵
    split ! $ move ! (1 ∷ []) $ fsplit ! $ rewrite ! 0 (λ (ws : List Val). ‵ (R.own_val x ws)) got.1 refl $ keep ! (0 ∷ 2 ∷ []) $
    nothing ! $ move ! (1 ∷ 0 ∷ []) $ fjoin ! $ feq_i ! (List Val) (v ∷ []) (v ∷ []) refl $ fjoin ! $
    fpack ! (Valss (R ∷ [])) (λ vss. fsep (base.Fml.feq (List Val) (v ∷ []) (vstruct (of_list (vss.0 ++ [])) ∷ [])) (owns (R ∷ []) (x, tt) vss)) (vy ∷ [], tt) $ nothing ! $ move ! (1 ∷ 0 ∷ []) $ fjoin ! $
    suffices ! (Run (vy ∷ [])) (subst (λ (ws : List Val). ent 𝓤 (Run (vy ∷ [])) (Run ws)) (sym (λ i. got.1 i ++ [])) (id⊢ 𝓤 (Run (vy ∷ [])))) $
    enter ! 𝓣.C 𝓣.Λ fn (vy ∷ []) Post $ alloc_all ! (λ l. pass_all ! refl (fy, tt) $
    sets ! (of_opd ! (get ! refl)) refl fy $ sets ! (agg ! (and_then ! (get ! refl) (no_more !))) refl typed $
    use0 𝓛 (raw (fact 𝓤 (x ≡ x))) (fact_i 𝓤 (x ≡ x) (emp 𝓤) refl) $ nothing ! $ nothing ! $ fjoin ! $
    returns ! (look_at ! 0 refl) $ free_all ! refl $ keep ! (3 ∷ 0 ∷ 2 ∷ 1 ∷ []) $ by ! (leaves 𝓛 En hs c z v r (tt, tt) (tt, tt))))
