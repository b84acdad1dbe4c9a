-- What came to a part, and its fold.
use Rattle.std.proofs.Common.{◌≡◌, ◌≢◌, ℕ, ◌+◌, ◌<◌, ◌≤◌, ◌==◌, ◌||◌, Bool, true, false, List, Option, Some, None, length, get_or, set, refl, subst, sym, ap, ap₂, ◌∙◌, inl, inr, arith}
use Rattle.std.proofs.lemmas.Bool.{cases_lt}
use Rattle.std.specs.Prelude.{if◌then◌else◌}
use Rattle.fg_batch.proofs.HeldLaws.{held-get, held-set}
use Rattle.fg_batch.specs.Bits.{is_in}
use Rattle.fg_batch.specs.Inbox.{IsFoldedInto, held_at, held_by, joined, received, with_mail}
use Rattle.fg_base.specs.declared.plain.VState.{VState}
use Rattle.fg_model.specs.Iteration.{state_at}
use Rattle.fg_model.specs.declared.mail.Mail.{Mail}
use Rattle.fg_model.specs.Program.{Rules}
use Rattle.fg_part.specs.declared.part_map.PartMap.{PartMap}
use Rattle.fg_part.specs.PartMap.{part_of, place_of, places_in, vertex_at}
use Rattle.fg_part.proofs.PartMapLaws.{place_back, place_within, vertex_back, vertex_in_part}

joined-is : (P : Rules) (b : Bool) (number message : ℕ) → (if b then P.combine number message else message) ≡ joined P (if b then Some number else None) message
joined-is P true number message = refl
joined-is P false number message = refl

-- one message more
pub took : (P : Rules) (map : PartMap) (numbers came now : List ℕ) (mail : Mail) (at number : ℕ) → at ≡ place_of map mail.target → at < length numbers
    → number ≡ (if is_in came at then P.combine (get_or numbers at 0) mail.message else mail.message)
    → ((k : ℕ) → is_in now k ≡ ((k == at) || is_in came k))
    → held_by (set numbers at number) now ≡ with_mail P map (held_by numbers came) mail
took P map numbers came now mail at number there below is more =
    let told : number ≡ joined P (get_or (held_by numbers came) at None) mail.message =
    is ∙ joined-is P (is_in came at) (get_or numbers at 0) mail.message
    ∙ sym (ap (λ (o : Option ℕ). joined P o mail.message) (held-get numbers came at below)) in
    held-set numbers came now at number below more
    ∙ ap (λ (x : ℕ). set (held_by numbers came) at (Some x)) told
    ∙ ap (λ (k : ℕ). set (held_by numbers came) k (Some (joined P (get_or (held_by numbers came) k None) mail.message))) there

-- the states of the part's vertices at the places below this one have what came folded in, and all others are as they were
pub record IsFoldedBelow (P : Rules) (map : PartMap) (part at : ℕ) (held : List (Option ℕ)) (old now : List VState) : Type 0 where
  pub count : length now ≡ length old
  pub own : (v : ℕ) → v < map.n → part_of map v ≡ part → place_of map v < at → state_at now v ≡ received P (held_at map held v) (state_at old v)
  pub ahead : (v : ℕ) → v < map.n → part_of map v ≡ part → at ≤ place_of map v → state_at now v ≡ state_at old v
  pub other : (v : ℕ) → v < map.n → (part_of map v ≡ part → ⊥) → state_at now v ≡ state_at old v

module _ (P : Rules) (map : PartMap) (part : ℕ) (held : List (Option ℕ)) (old : List VState) where
  pub folded-none : IsFoldedBelow P map part 0 held old old
  folded-none = record {
    count = refl;
    own = λ v vertex mine below. absurd (omega (arith, below));
    ahead = λ v vertex mine above. refl;
    other = λ v vertex theirs. refl;
  }

  -- places that hold nothing are passed over
  pub folded-skip : (at next : ℕ) (now : List VState) → ((k : ℕ) → at ≤ k → k < next → get_or held k None ≡ None)
      → at ≤ next → IsFoldedBelow P map part at held old now → IsFoldedBelow P map part next held old now
  folded-skip at next now none on folded = record {
    count = folded.count;
    own = λ v vertex mine below.
        elim (cases_lt (place_of map v) at) [
          | inl before ↦ folded.own v vertex mine before
          | inr here ↦ folded.ahead v vertex mine here ∙ sym (ap (λ (o : Option ℕ). received P o (state_at old v)) (none (place_of map v) here below))
        ];
    ahead = λ v vertex mine above. folded.ahead v vertex mine (omega (arith, on, above));
    other = folded.other;
  }

  -- the vertex at the place gets its number
  pub folded-more : (at number v : ℕ) (now next : List VState) → IsFoldedBelow P map part at held old now
      → v ≡ vertex_at map part at → length old ≡ map.n → part < map.parts → get_or held at None ≡ Some number
      → length next ≡ length now → (v < length now → state_at next v ≡ P.receive (state_at now v) number)
      → ((u : ℕ) → u ≢ v → state_at next u ≡ state_at now u) → IsFoldedBelow P map part (at + 1) held old next
  folded-more at number v now next folded is many inside holds long there kept = record {
    count = long ∙ folded.count;
    own = λ u vertex mine below.
        elim (cases_lt (place_of map u) at) [
          | inl before ↦ kept u (λ same. omega (arith, at_v u mine same, before)) ∙ folded.own u vertex mine before
          | inr here ↦
              let last : place_of map u ≡ at = omega (arith, here, below) in
              let same : u ≡ v = u_is u mine last in
              let within : v < length now = omega (arith, same, vertex, folded.count, many) in
              ap (state_at next) same ∙ there within
              ∙ ap (λ (s : VState). P.receive s number) (ap (state_at now) (sym same) ∙ folded.ahead u vertex mine here)
              ∙ sym (ap (λ (o : Option ℕ). received P o (state_at old u)) (ap (λ (k : ℕ). get_or held k None) last ∙ holds))
        ];
    ahead = λ u vertex mine above.
        kept u (λ same. omega (arith, at_v u mine same, above)) ∙ folded.ahead u vertex mine (omega (arith, above));
    other = λ u vertex theirs. kept u (λ same. theirs (ap (part_of map) (same ∙ is) ∙ vertex_in_part map part at inside)) ∙ folded.other u vertex theirs;
  }
    where
      u_is : (u : ℕ) → part_of map u ≡ part → place_of map u ≡ at → u ≡ v
      u_is u mine last = sym (place_back map u) ∙ ap₂ (vertex_at map) mine last ∙ sym is

      at_v : (u : ℕ) → part_of map u ≡ part → u ≡ v → place_of map u ≡ at
      at_v u mine same = ap (place_of map) (same ∙ is) ∙ vertex_back map part at inside

  -- behind the last place all of the part are done
  pub folded-all : (at : ℕ) (now : List VState) → IsFoldedBelow P map part at held old now → places_in map part ≤ at → 0 < map.parts
      → IsFoldedInto P map part held old now
  folded-all at now folded last some = record {
    count = folded.count;
    own = λ v vertex mine.
        let within : place_of map v < places_in map part = subst (λ p. place_of map v < places_in map p) mine (place_within map some v vertex) in
        folded.own v vertex mine (omega (arith, within, last));
    other = folded.other;
  }
