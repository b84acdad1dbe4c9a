-- What goes to a vertex goes along its lane, in order.
use Rattle.std.proofs.Common.{◌≡◌, ◌≢◌, ℕ, ◌==◌, Bool, true, false, List, [], ◌∷◌, ◌++◌, refl, sym, ap, ◌∙◌, arith, eq-eqb, inl, inr}
use Rattle.std.proofs.lemmas.Bool.{cases_eq, eqb-true, ne_eqb}
use Rattle.std.proofs.lemmas.List.{append_assoc}
use Rattle.std.proofs.lemmas.List.Elements.{filter-append}
use Rattle.std.specs.Prelude.{filter}
use Rattle.fg_batch.specs.Lanes.{lane_of}
use Rattle.fg_batch.specs.Outbox.{Sending, Sends, goes_along, lane_at}
use Rattle.fg_model.specs.declared.mail.Mail.{Mail}
use Rattle.fg_model.specs.Iteration.{sent_to}
use Rattle.fg_part.specs.declared.part_map.PartMap.{PartMap}

module _ (map : PartMap) (v : ℕ) where
  -- a vertex's lane has all that was sent to the vertex
  pub sent-along_its_lane : (mails : List Mail) → sent_to v (filter (goes_along map (lane_of map v)) mails) ≡ sent_to v mails
  sent-along_its_lane [] = refl
  sent-along_its_lane (mail ∷ mails) = by_case (sent-along_its_lane mails)
    where
      by_case : sent_to v (filter (goes_along map (lane_of map v)) mails) ≡ sent_to v mails
          → sent_to v (filter (goes_along map (lane_of map v)) (mail ∷ mails)) ≡ sent_to v (mail ∷ mails)
      by_case rest =
          elim (cases_eq mail.target v) [
            | inl same ↦
                let along : goes_along map (lane_of map v) mail ≡ true = eq-eqb _ _ (ap (lane_of map) same) in
                rw (along, eq-eqb mail.target v same) (ap (λ (sent : List ℕ). mail.message ∷ sent) rest)
            | inr other ↦ by_lane (goes_along map (lane_of map v) mail) refl (ne_eqb mail.target v other)
          ]
        where
          by_lane : (along : Bool) → goes_along map (lane_of map v) mail ≡ along → (mail.target == v) ≡ false
              → sent_to v (filter (goes_along map (lane_of map v)) (mail ∷ mails)) ≡ sent_to v (mail ∷ mails)
          by_lane true along test = rw (along, test) rest
          by_lane false along test = rw (along, test) rest

  -- and no other lane has any of it
  pub sent-along_another : (l : ℕ) → l ≢ lane_of map v → (mails : List Mail) → sent_to v (filter (goes_along map l) mails) ≡ []
  sent-along_another l other [] = refl
  sent-along_another l other (mail ∷ mails) = by_lane (goes_along map l mail) refl (sent-along_another l other mails)
    where
      by_lane : (along : Bool) → goes_along map l mail ≡ along → sent_to v (filter (goes_along map l) mails) ≡ []
          → sent_to v (filter (goes_along map l) (mail ∷ mails)) ≡ []
      by_lane false along rest = rw along rest
      by_lane true along rest =
          let away : mail.target ≢ v = λ same. other (sym (eqb-true (lane_of map mail.target) l along) ∙ ap (lane_of map) same) in
          rw (along, ne_eqb mail.target v away) rest

-- what was sent one after the other
pub sends-more : (first next last : Sending) (one two : List Mail) → Sends first next one → Sends next last two → Sends first last (one ++ two)
sends-more first next last one two early late = record {
  same_map = late.same_map ∙ early.same_map;
  same_count = late.same_count ∙ early.same_count;
  more = λ l below.
      late.more l (omega (arith, below, early.same_count))
      ∙ ap (λ (map : PartMap). (lane_at next.lanes l).items ++ filter (goes_along map l) two) early.same_map
      ∙ ap (λ (mails : List Mail). mails ++ filter (goes_along first.map l) two) (early.more l below)
      ∙ append_assoc (lane_at first.lanes l).items (filter (goes_along first.map l) one) (filter (goes_along first.map l) two)
      ∙ sym (ap (λ (mails : List Mail). (lane_at first.lanes l).items ++ mails) (filter-append (goes_along first.map l) one two));
}
