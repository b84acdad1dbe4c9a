-- What the answers of `ready` and `fail` tell.
use Rattle.std.proofs.Common.{◌≡◌, ◌↔◌, ℕ, true, refl, inl, inr}
use Rattle.std.proofs.lemmas.Bool.{cases_Bool, both_ways, eq-eqb}
use Rattle.fg_set.specs.Change.{PlacedTells}
use Rattle.fg_set.specs.DirectoryStep.{ended}
use Rattle.fg_set.specs.Entry.{is_loading, is_state_loading}
use Rattle.fg_set.specs.PageSet.{PageSet, entry_at, with_entry}
use Rattle.fg_set.specs.declared.entry.Entry.{Entry}
use Rattle.fg_set.specs.declared.answers.Placed.TheVariants as placed
use Rattle.fg_set.specs.declared.entry.EntryState.{EntryState}
use Rattle.fg_set.specs.declared.entry.EntryState.TheVariants.{Loading}
use Rattle.fg_set.proofs.EntryLemmas.{loading_state}

is_coming : (page : ℕ) (s : EntryState) → s ≡ Loading page → is_state_loading page s ≡ true
is_coming page s e = rw e (eq-eqb page page refl)

pub done_exactly : (frame page : ℕ) (set changed : PageSet) → ((ended frame page set changed).answer ≡ placed.Done) ↔ ((entry_at set frame).state ≡ Loading page)
done_exactly frame page set changed =
    elim (cases_Bool (is_loading page (entry_at set frame))) [
      | inl coming ↦ rw coming (λ _. loading_state page (entry_at set frame).state coming, λ _. refl)
      | inr other ↦ rw other (
        λ e. absurd (let no_way : ⊥ = cc in no_way),
        λ e. absurd (both_ways (is_loading page (entry_at set frame)) other (is_coming page (entry_at set frame).state e)),
      )
    ]

pub placed_tells : (frame page : ℕ) (becomes : Entry → Entry) (set : PageSet) →
    let end = ended frame page set (with_entry set frame (becomes (entry_at set frame))) in PlacedTells frame page becomes set end.after end.answer
placed_tells frame page becomes set =
    elim (cases_Bool (is_loading page (entry_at set frame))) [
      | inl coming ↦ rw coming (loading_state page (entry_at set frame).state coming, refl)
      | inr other ↦ rw other (refl, (λ e. both_ways (is_loading page (entry_at set frame)) other (is_coming page (entry_at set frame).state e)), refl)
    ]
