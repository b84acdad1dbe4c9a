-- What was gathered are the states after the iteration.
use Rattle.std.proofs.Common.{◌≡◌, ℕ, ◌+◌, ◌<◌, ◌^◌, Bool, true, false, List, Option, length, get_or, refl, subst, sym, ap, ◌∙◌, arith}
use Rattle.std.proofs.lemmas.List.{ext_get_or, get_or_default}
use Rattle.std.specs.Prelude.{IsPermutation, fold, if◌then◌else◌}
use Rattle.fg_base.specs.declared.plain.VState.{VState}
use Rattle.fg_batch.specs.Inbox.{received}
use Rattle.fg_gather.proofs.ArrivalsLaws.{fold-fits, sent-fit}
use Rattle.fg_gather.specs.Arrivals.{HasCome, came_to}
use Rattle.fg_gather.specs.Gather.{AreGathered, IsIterated, run_state}
use Rattle.fg_gather.specs.Marks.{AreMarks}
use Rattle.fg_model.proofs.AfterLemmas.{after_at, length-after}
use Rattle.fg_model.proofs.MailLemmas.{vertex_in_any_order}
use Rattle.fg_model.specs.declared.graph.Graph.{Graph}
use Rattle.fg_model.specs.declared.mail.Mail.{Mail}
use Rattle.fg_model.specs.Iteration.{AreStates, after, mail, own_state, sent_to, state_at}
use Rattle.fg_model.specs.Program.{IsInRange, IsLawful, Rules}
use Rattle.fg_part.proofs.PartMapLaws.{block_below, in_its_block}
use Rattle.fg_part.specs.declared.part_map.PartMap.{PartMap}
use Rattle.fg_part.specs.PartMap.{block_of}
use Rattle.std.proofs.lemmas.List.Sorted.{IsPermutation-sym}

-- a vertex that is asleep keeps its state
own-asleep : (P : Rules) (phase v : ℕ) (s : VState) → P.wake phase s ≡ false → own_state P phase v s ≡ s
own-asleep P phase v s asleep = rw asleep refl

module _ (P : Rules) (lawful : IsLawful P) (map : PartMap) (phase : ℕ) (parts : List (List (Option ℕ))) (marks : List Bool) (old new : List VState)
    (phase_fits : phase < 2 ^ 64) (states : AreStates map.n old) (right : AreMarks P map phase old marks) (gathered : AreGathered P map phase parts marks 0 old new) where
  abbrev own : ℕ → VState
  own v = own_state P phase v (state_at old v)

  -- a block without a mark has nobody to run
  own_by_mark : (v : ℕ) → v < map.n → run_state P map phase marks v (state_at old v) ≡ own v
  own_by_mark v vertex = by_mark (get_or marks (block_of map v) false) refl
    where
      by_mark : (mark : Bool) → get_or marks (block_of map v) false ≡ mark → (if mark then own_state P phase v (state_at old v) else state_at old v) ≡ own v
      by_mark true is = refl
      by_mark false is = sym (own-asleep P phase v (state_at old v) ((right.each (block_of map v) (block_below map v vertex)).clear is v (in_its_block map v vertex)))

  in_old : (v : ℕ) → v < map.n → v < length old
  in_old v vertex = omega (arith, vertex, states.state_count)

  new_at : (v : ℕ) → v < map.n → state_at new v ≡ received P (came_to map parts v) (own v)
  new_at v vertex =
      let from : 0 + v ≡ v = omega arith in
      gathered.each v (in_old v vertex)
      ∙ ap (λ (u : ℕ). received P (came_to map parts u) (run_state P map phase marks u (state_at old v))) from
      ∙ ap (received P (came_to map parts v)) (own_by_mark v vertex)

  old_fits : (v : ℕ) → v < map.n → IsInRange (state_at old v)
  old_fits v vertex = states.all_fit v (record { a = 0; b = 0; c = 0 }) (in_old v vertex)

  own_fits : (v : ℕ) → v < map.n → IsInRange (own v)
  own_fits v vertex = by_wake (P.wake phase (state_at old v)) refl
    where
      small : v < 2 ^ 32
      small = omega (arith, vertex, map.few_vertices)

      by_wake : (awake : Bool) → P.wake phase (state_at old v) ≡ awake → IsInRange (if awake then (P.begin phase v (state_at old v)).0 else state_at old v)
      by_wake true is = lawful.begin_fits phase v (state_at old v) phase_fits small (old_fits v vertex) is
      by_wake false is = old_fits v vertex

  module _ (came : List Mail) (has : HasCome P map parts came) where
    folded_at : (v : ℕ) → v < map.n → state_at new v ≡ fold P.receive (own v) (sent_to v came)
    folded_at v vertex = new_at v vertex ∙ has.folds v (own v) vertex (own_fits v vertex)

    new_states : AreStates map.n new
    new_states = record {
      state_count = gathered.count ∙ states.state_count;
      all_fit = λ v d below.
          let vertex : v < map.n = omega (arith, below, gathered.count, states.state_count) in
          subst IsInRange (sym (get_or_default new v d (record { a = 0; b = 0; c = 0 }) below ∙ folded_at v vertex))
          (fold-fits P lawful (sent_to v came) (own v) (sent-fit v came has.all_fit) (own_fits v vertex));
    }

    new_after : (graph : Graph) → IsPermutation (mail P graph phase old) came → new ≡ after P graph phase old
    new_after graph same =
        ext_get_or (record { a = 0; b = 0; c = 0 }) new (after P graph phase old) (gathered.count ∙ sym (length-after P graph phase old)) (λ v below.
        let inside : v < length old = omega (arith, below, gathered.count) in
        let vertex : v < map.n = omega (arith, inside, states.state_count) in
        folded_at v vertex
        ∙ vertex_in_any_order P lawful v came (mail P graph phase old) (IsPermutation-sym (mail P graph phase old) came same) has.all_fit (own v) (own_fits v vertex)
        ∙ sym (after_at P graph phase v old inside))

  pub is_iterated : IsIterated P map phase parts old new
  is_iterated = record {
    states = new_states;
    is_after = λ graph came same has. new_after came has graph same;
    others = λ v vertex asleep none.
        new_at v vertex ∙ ap (λ (o : Option ℕ). received P o (own v)) none ∙ own-asleep P phase v (state_at old v) asleep;
  }
