-- Each answer of `want` comes exactly where its cause holds: the causes rule each other out.
use Rattle.std.proofs.Common.{◌≡◌, ◌∙◌, ◌↔◌, ◌&&◌, ◌||◌, ℕ, ◌<◌, Bool, true, false, not, refl, sym, ap}
use Rattle.std.proofs.lemmas.Bool.{false≢true}
use Rattle.std.proofs.lemmas.List.{get_or_default}
use Rattle.fg_set.specs.Change.{AnswerTells, IsReady}
use Rattle.fg_set.specs.Entry.{blank, page_in, is_pinned, is_state_empty, is_state_filled}
use Rattle.fg_set.specs.PageSet.{PageSet, IsSound, ways_of, entry_at}
use Rattle.fg_set.specs.Slips.{is_held, is_open, is_state_coming, IsListed, IsUnderWay, IsAllHeld, HasRoom}
use Rattle.fg_set.specs.Want.{is_hit, is_start}
use Rattle.fg_set.specs.declared.answers.WantSeen.{WantSeen}
use Rattle.fg_set.specs.declared.answers.WantSeen.TheVariants as seen
use Rattle.fg_set.specs.declared.entry.Entry.{Entry}
use Rattle.fg_set.specs.declared.entry.EntryState.{EntryState}
use Rattle.fg_set.specs.declared.entry.EntryState.TheVariants.{Empty, Loading, Ready}

-- a page that is ready or under way is listed
listed_ready : (s : PageSet) (page : ℕ) → IsReady s page → IsListed s page
listed_ready s page (k, e, h, at, is) = (k, e, h, at, ap page_in is)

listed_coming : (s : PageSet) (page : ℕ) → IsUnderWay s page → IsListed s page
listed_coming s page (k, e, h, at, is) = (k, e, h, at, ap page_in is)

-- it isn't both, since it is in one entry only
one_way : (s : PageSet) (page : ℕ) → IsSound s → IsReady s page → IsUnderWay s page → ⊥
one_way s page sound (k, e, h, at, is) (k', e', h', at', is') =
    let here : entry_at s k ≡ e = get_or_default s.entries k blank e h ∙ at in
    let there : entry_at s k' ≡ e' = get_or_default s.entries k' blank e' h' ∙ at' in
    let same : k ≡ k' = sound.apart k k' page (rw (here, is) refl) (rw (there, is') refl) in
    let states : Ready page ≡ Loading page = sym is ∙ ap (λ (x : Entry). x.state) (sym here ∙ ap (entry_at s) same ∙ there) ∙ is' in
    cc

-- an entry that is pinned or loading is neither empty nor free
shut : (s : EntryState) (pinned : Bool) → (pinned ≡ true → is_state_filled s ≡ true) → (pinned || is_state_coming s) ≡ true → (is_state_empty s || (is_state_filled s && not pinned)) ≡ true → ⊥
shut Empty true filled held open' = false≢true (filled refl)
shut Empty false filled held open' = false≢true held
shut (Loading p) pinned filled held open' = false≢true open'
shut (Ready p) true filled held open' = false≢true open'
shut (Ready p) false filled held open' = false≢true held

no_room : (s : PageSet) (page : ℕ) → IsSound s → IsAllHeld s page → HasRoom s page → ⊥
no_room s page sound all_held room =
    let k = room.room.0 in
    let e = room.room.1 in
    let here : entry_at s k ≡ e = get_or_default s.entries k blank e room.room.2 ∙ room.room.3 in
    let held : is_held e ≡ true = rw here at (all_held.held k blank room.room.2) in
    let pinned_ready : is_pinned e ≡ true → is_state_filled e.state ≡ true = rw here at (sound.pinned_ready k) in
    shut e.state (is_pinned e) pinned_ready held room.room.4

hit_is_ready : (s : PageSet) (page frame : ℕ) → frame < ways_of s → (entry_at s frame).state ≡ Ready page → IsReady s page
hit_is_ready s page frame h is = (frame, entry_at s frame, h, get_or_default s.entries frame (entry_at s frame) blank h, is)

open_is_room : (s : PageSet) (page frame : ℕ) → ¬ IsListed s page → frame < ways_of s → is_open (entry_at s frame) ≡ true → HasRoom s page
open_is_room s page frame unlisted h is = record { unlisted = unlisted; room = (frame, entry_at s frame, h, get_or_default s.entries frame (entry_at s frame) blank h, is) }

pub hit_exactly : (worker page : ℕ) (old new : PageSet) (answer : WantSeen) → IsSound old → AnswerTells worker page old new answer → (is_hit answer ≡ true) ↔ IsReady old page
hit_exactly worker page old new (seen.Hit frame) sound tells = (λ _. hit_is_ready old page frame tells.within tells.was_ready, λ _. refl)
hit_exactly worker page old new (seen.Start frame) sound tells = (λ no'. absurd (false≢true no'), λ is. absurd (tells.unlisted (listed_ready old page is)))
hit_exactly worker page old new seen.Loading sound tells = (λ no'. absurd (false≢true no'), λ is. absurd (one_way old page sound is tells.0))
hit_exactly worker page old new seen.Again sound tells = (λ no'. absurd (false≢true no'), λ is. absurd (tells.0.unlisted (listed_ready old page is)))

pub start_exactly : (worker page : ℕ) (old new : PageSet) (answer : WantSeen) → IsSound old → AnswerTells worker page old new answer → (is_start answer ≡ true) ↔ HasRoom old page
start_exactly worker page old new (seen.Hit frame) sound tells = (λ no'. absurd (false≢true no'), λ is. absurd (is.unlisted (listed_ready old page (hit_is_ready old page frame tells.within tells.was_ready))))
start_exactly worker page old new (seen.Start frame) sound tells = (λ _. open_is_room old page frame tells.unlisted tells.within tells.was_open, λ _. refl)
start_exactly worker page old new seen.Loading sound tells = (λ no'. absurd (false≢true no'), λ is. absurd (is.unlisted (listed_coming old page tells.0)))
start_exactly worker page old new seen.Again sound tells = (λ no'. absurd (false≢true no'), λ is. absurd (no_room old page sound tells.0 is))

pub loading_exactly : (worker page : ℕ) (old new : PageSet) (answer : WantSeen) → IsSound old → AnswerTells worker page old new answer → (answer ≡ seen.Loading) ↔ IsUnderWay old page
loading_exactly worker page old new (seen.Hit frame) sound tells = (λ e. absurd (let no' : ⊥ = cc in no'), λ is. absurd (one_way old page sound (hit_is_ready old page frame tells.within tells.was_ready) is))
loading_exactly worker page old new (seen.Start frame) sound tells = (λ e. absurd (let no' : ⊥ = cc in no'), λ is. absurd (tells.unlisted (listed_coming old page is)))
loading_exactly worker page old new seen.Loading sound tells = (λ _. tells.0, λ _. refl)
loading_exactly worker page old new seen.Again sound tells = (λ e. absurd (let no' : ⊥ = cc in no'), λ is. absurd (tells.0.unlisted (listed_coming old page is)))

pub again_exactly : (worker page : ℕ) (old new : PageSet) (answer : WantSeen) → IsSound old → AnswerTells worker page old new answer → (answer ≡ seen.Again) ↔ IsAllHeld old page
again_exactly worker page old new (seen.Hit frame) sound tells = (λ e. absurd (let no' : ⊥ = cc in no'), λ is. absurd (is.unlisted (listed_ready old page (hit_is_ready old page frame tells.within tells.was_ready))))
again_exactly worker page old new (seen.Start frame) sound tells = (λ e. absurd (let no' : ⊥ = cc in no'), λ is. absurd (no_room old page sound is (open_is_room old page frame tells.unlisted tells.within tells.was_open)))
again_exactly worker page old new seen.Loading sound tells = (λ e. absurd (let no' : ⊥ = cc in no'), λ is. absurd (is.unlisted (listed_coming old page tells.0)))
again_exactly worker page old new seen.Again sound tells = (λ _. tells.0, λ _. refl)
