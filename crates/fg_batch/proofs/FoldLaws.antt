-- Numbers that messages combine to are folded as the messages one by one.
use Rattle.std.proofs.Common.{◌≡◌, ℕ, suc, ◌<◌, ◌^◌, List, [], ◌∷◌, Option, Some, None, length, refl, subst, sym, ap, ap₂, ◌∙◌, arith, eq-eqb, inl, inr, get_or-set_same, get_or-set_other, length-set}
use Rattle.std.proofs.lemmas.Bool.{cases_eq, ne_eqb}
use Rattle.std.specs.Prelude.{All, IfSome, fold}
use Rattle.fg_base.specs.declared.plain.VState.{VState}
use Rattle.fg_batch.specs.Inbox.{FoldsEach, held_at, joined, received, with_all, with_mail}
use Rattle.fg_batch.specs.Lanes.{IsFor}
use Rattle.fg_model.specs.declared.mail.Mail.{Mail}
use Rattle.fg_model.specs.Iteration.{sent_to, state_at}
use Rattle.fg_model.specs.Program.{IsInRange, IsLawful, Rules}
use Rattle.fg_part.specs.declared.part_map.PartMap.{PartMap}
use Rattle.fg_part.specs.PartMap.{part_of, place_of, places_in, vertex_at}
use Rattle.fg_part.proofs.PartMapLaws.{place_back, place_within}

abbrev pub Fits : Option ℕ → Type 0
Fits held = IfSome held (λ (number : ℕ). number < 2 ^ 64)

-- what goes to one vertex of the part
module _ (P : Rules) (lawful : IsLawful P) (map : PartMap) (part v : ℕ) (vertex : v < map.n) (mine : part_of map v ≡ part) (s : VState) (s_fits : IsInRange s) where
  joined-fits : (held : Option ℕ) (message : ℕ) → Fits held → message < 2 ^ 64 → joined P held message < 2 ^ 64
  joined-fits None message held_fits fits = fits
  joined-fits (Some number) message held_fits fits = lawful.combine_fits number message held_fits fits

  joined-received : (held : Option ℕ) (message : ℕ) → Fits held → message < 2 ^ 64 → received P (Some (joined P held message)) s ≡ P.receive (received P held s) message
  joined-received None message held_fits fits = refl
  joined-received (Some number) message held_fits fits = sym (lawful.joins s number message s_fits held_fits fits)

  within : (held : List (Option ℕ)) → length held ≡ places_in map part → place_of map v < length held
  within held count =
      let below : place_of map v < places_in map part = subst (λ p. place_of map v < places_in map p) mine (place_within map map.some_parts v vertex) in
      omega (arith, below, count)

  held-same : (held : List (Option ℕ)) (one : Mail) → length held ≡ places_in map part → one.target ≡ v
      → held_at map (with_mail P map held one) v ≡ Some (joined P (held_at map held v) one.message)
  held-same held one count same =
      ap (λ (t : ℕ). held_at map (with_mail P map held (record { target = t; message = one.message })) v) same
      ∙ get_or-set_same held (place_of map v) (Some (joined P (held_at map held v) one.message)) None (within held count)

  held-other : (held : List (Option ℕ)) (one : Mail) → part_of map one.target ≡ part → (one.target ≡ v → ⊥) → held_at map (with_mail P map held one) v ≡ held_at map held v
  held-other held one own other =
      get_or-set_other held (place_of map one.target) (place_of map v) (Some (joined P (held_at map held one.target) one.message)) None
      (λ same. other (sym (place_back map one.target) ∙ ap₂ (vertex_at map) (own ∙ sym mine) (sym same) ∙ place_back map v))

  -- numbers stay below 2^64
  pub folds-fit : (mail : List Mail) (held : List (Option ℕ)) → length held ≡ places_in map part → All (IsFor map part) mail
      → All (λ (one : Mail). one.message < 2 ^ 64) mail → Fits (held_at map held v) → Fits (held_at map (with_all P map held mail) v)
  folds-fit [] held count own fits held_fits = held_fits
  folds-fit (one ∷ mail) held count own fits held_fits =
      folds-fit mail (with_mail P map held one) (length-set held (place_of map one.target) _ ∙ count)
      (λ k d below. own (suc k) d (omega (arith, below))) (λ k d below. fits (suc k) d (omega (arith, below)))
      (elim (cases_eq one.target v) [
        | inl same ↦ subst Fits (sym (held-same held one count same)) (joined-fits (held_at map held v) one.message held_fits (fits 0 one (omega arith)))
        | inr other ↦ subst Fits (sym (held-other held one (own 0 one (omega arith)).own other)) held_fits
      ])

  pub folds : (mail : List Mail) (held : List (Option ℕ)) → length held ≡ places_in map part → All (IsFor map part) mail
      → All (λ (one : Mail). one.message < 2 ^ 64) mail → Fits (held_at map held v)
      → received P (held_at map (with_all P map held mail) v) s ≡ fold P.receive (received P (held_at map held v) s) (sent_to v mail)
  folds [] held count own fits held_fits = refl
  folds (one ∷ mail) held count own fits held_fits =
      let one_fits : one.message < 2 ^ 64 = fits 0 one (omega arith) in
      let at = held_at map held v in
      let rest = folds mail (with_mail P map held one) (length-set held (place_of map one.target) _ ∙ count)
      (λ k d below. own (suc k) d (omega (arith, below))) (λ k d below. fits (suc k) d (omega (arith, below))) in
      elim (cases_eq one.target v) [
        | inl same ↦
            let now : held_at map (with_mail P map held one) v ≡ Some (joined P at one.message) = held-same held one count same in
            let sent : sent_to v (one ∷ mail) ≡ one.message ∷ sent_to v mail = rw (eq-eqb one.target v same) refl in
            rest (subst Fits (sym now) (joined-fits at one.message held_fits one_fits))
            ∙ ap (λ (o : Option ℕ). fold P.receive (received P o s) (sent_to v mail)) now
            ∙ ap (λ (t : VState). fold P.receive t (sent_to v mail)) (joined-received at one.message held_fits one_fits)
            ∙ sym (ap (fold P.receive (received P at s)) sent)
        | inr other ↦
            let now : held_at map (with_mail P map held one) v ≡ at = held-other held one (own 0 one (omega arith)).own other in
            let sent : sent_to v (one ∷ mail) ≡ sent_to v mail = rw (ne_eqb one.target v other) refl in
            rest (subst Fits (sym now) held_fits)
            ∙ ap (λ (o : Option ℕ). fold P.receive (received P o s) (sent_to v mail)) now
            ∙ sym (ap (fold P.receive (received P at s)) sent)
      ]

pub folds_each : (P : Rules) → IsLawful P → (map : PartMap) (part : ℕ) → FoldsEach P map part
folds_each P lawful map part = λ mail held old new are empty states folded.
    record {
      count = folded.count;
      own = λ v vertex mine.
          let s_fits : IsInRange (state_at old v) = states.all_fit v (record { a = 0; b = 0; c = 0 }) (omega (arith, vertex, states.state_count)) in
          let below : place_of map v < length held = within P lawful map part v vertex mine (state_at old v) s_fits held empty.count in
          let none : held_at map held v ≡ None = empty.none (place_of map v) None below in
          folded.own v vertex mine
          ∙ folds P lawful map part v vertex mine (state_at old v) s_fits mail held empty.count are.all_own are.all_fit (subst Fits (sym none) tt)
          ∙ ap (λ (o : Option ℕ). fold P.receive (received P o (state_at old v)) (sent_to v mail)) none;
      other = folded.other;
    }
