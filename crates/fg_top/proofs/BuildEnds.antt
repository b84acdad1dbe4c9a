-- How a build ends, by what looking at its drives, reading its text and building did.
use Rattle.std.proofs.Common.{◌≡◌, ◌≢◌, ℕ, zero, suc, ◌<◌, Bool, Option, None, Some, IfSome, Err, List, [], ◌∷◌, ◌⊎◌, ⊎_elim, length, refl, sym, ap, subst, inl, inr, arith}
use Rattle.std.proofs.lemmas.Bool.{cases_lt}
use Rattle.fg_base.specs.Faults.{Rose}
use Rattle.fg_base.specs.Refusal.{status_of}
use Rattle.fg_base.specs.declared.refusal.Refusal.{Refusal}
use Rattle.fg_build.specs.Building.{AreEmpty, EmptyCounts, IsFirstFull, SaysEmpty}
use Rattle.fg_model.specs.Edges.{EdgeList}
use Rattle.fg_outside.specs.Drives.{NoneRose, all_told}
use Rattle.fg_report.specs.Refusals.{refusal_line}
use Rattle.fg_text.specs.Read.{ReadRefused}
use Rattle.fg_text.specs.Text.{read_text}
use Rattle.fg_top.specs.BuildOutcome.{BuildComesTo, built_line, ClosesByDrives, ClosesByText, MayCloseText, close_of_text}
use Rattle.fg_top.specs.Built.{AreOfText, MayBuild}
use Rattle.fg_top.specs.Calls.{Input, input_over}
use Rattle.fg_top.specs.Ends.{IsCause, IsCutShort, IsOutcome}
use Rattle.fg_top.specs.Outcome.{Close, Done, Refuses, at_once}

-- some drive is the first that holds a whole page
abbrev HasFirstFull : List (List ℕ) → Type 0
HasFirstFull helds = (drive : ℕ) × (drive < length helds) × IsFirstFull drive helds

-- some drive is, or none holds one
full_or_empty : (helds : List (List ℕ)) → HasFirstFull helds ⊎ AreEmpty helds
full_or_empty [] = inr tt
full_or_empty (held ∷ helds) = ⊎_elim
    (λ short. ⊎_elim (λ (first : HasFirstFull helds). inl (suc first.0, omega (arith, first.1), (short, first.2))) (λ empty. inr (short, empty)) (full_or_empty helds))
    (λ full. inl (zero, omega arith, full))
    (cases_lt (length held) 4096)

-- how a build closes whose source's count stood: by its text, and by its drives
some_text : (drives : ℕ) (undirected : Bool) (left : Option (List ℕ)) → (close : Close) × ClosesByText drives undirected left close
some_text drives undirected None = (Refuses Refusal.TextTooLong, tt)
some_text drives undirected (Some bytes) = (close_of_text drives (read_text undirected bytes), refl)

some_close : (drives : ℕ) (undirected : Bool) (told : Option (List (List ℕ))) (input : Input) → IfSome told (λ helds. length helds ≡ drives) →
    input.new_faults ≡ input.old_faults → (close : Close) × ClosesByDrives drives undirected told input close
some_close drives undirected None input many stood =
    let text = some_text drives undirected input.old_left in
    (text.0, inr (tt, inr (stood, text.1)))
some_close drives undirected (Some helds) input many stood =
    let text = some_text drives undirected input.old_left in
    ⊎_elim
    (λ (first : HasFirstFull helds). (Refuses (Refusal.NotEmpty first.0), inl (first.0, omega (arith, many, first.1), first.2, refl)))
    (λ empty. (text.0, inr (empty, inr (stood, text.1))))
    (full_or_empty helds)

-- a build that is cut short while its source's count stood
pub cut_build : (drives : ℕ) (undirected : Bool) (told : Option (List (List ℕ))) (input : Input) (last : List ℕ) →
    IfSome told (λ helds. length helds ≡ drives) → input.new_faults ≡ input.old_faults → IsCutShort (BuildComesTo drives undirected told input) last last
cut_build drives undirected told input last many stood =
    let some = some_close drives undirected told input many stood in
    record { outcome = at_once some.0; is_one = (refl, some.1); count = 0; text_is = refl }

-- a build that closes so
closes_so : (drives : ℕ) (undirected : Bool) (told : Option (List (List ℕ))) (input : Input) (close : Close) (last : List ℕ) →
    ClosesByDrives drives undirected told input close → IsOutcome (BuildComesTo drives undirected told input) close last last
closes_so drives undirected told input close last closes = record { outcome = at_once close; is_one = (refl, closes); closes = refl; text_is = refl }

-- why drives that were looked at are refused
pub cause_of_looking : {D : Type 0} (faults : D → ℕ) (olds news : List D) (undirected : Bool) (told : Option (List (List ℕ))) (input : Input) (refusal : Refusal) →
    IfSome told (λ helds. length helds ≡ length olds) → input.new_faults ≡ input.old_faults → EmptyCounts faults olds news (Err refusal) → IfSome told (λ helds. SaysEmpty (Err refusal) helds) →
    IsCause faults olds news (BuildComesTo (length olds) undirected told input) (Some refusal) (refusal_line refusal)
cause_of_looking faults olds news undirected told input Refusal.Memory many stood counts says = absurd counts
cause_of_looking faults olds news undirected told input (Refusal.DriveFault drive) many stood counts says =
    (counts, cut_build (length olds) undirected told input (refusal_line (Refusal.DriveFault drive)) many stood)
cause_of_looking faults olds news undirected told input (Refusal.NotEmpty drive) many stood counts says =
    (counts.1, closes_so (length olds) undirected told input (Refuses (Refusal.NotEmpty drive)) (refusal_line (Refusal.NotEmpty drive)) (inl (drive, counts.0, says, refl)))
cause_of_looking faults olds news undirected told input refusal many stood counts says = absurd counts

-- a text that is refused so
closes_text : (drives : ℕ) (undirected : Bool) (left : Option (List ℕ)) (refusal : Refusal) → MayCloseText drives (Refuses refusal) →
    IfSome left (λ bytes. read_text undirected bytes ≡ Err refusal) → ClosesByText drives undirected left (Refuses refusal)
closes_text drives undirected None refusal may says = may
closes_text drives undirected (Some bytes) refusal may says = sym (ap (close_of_text drives) says)

text_refused : {D : Type 0} (faults : D → ℕ) (olds news : List D) (drives : ℕ) (undirected : Bool) (told : Option (List (List ℕ))) (input : Input) (refusal : Refusal) →
    NoneRose faults olds news → IfSome told AreEmpty → MayCloseText drives (Refuses refusal) → input.new_faults ≡ input.old_faults →
    IfSome input.old_left (λ bytes. read_text undirected bytes ≡ Err refusal) →
    NoneRose faults olds news × IsOutcome (BuildComesTo drives undirected told input) (Refuses refusal) (refusal_line refusal) (refusal_line refusal)
text_refused faults olds news drives undirected told input refusal kept empty may stood says = (
  kept,
  closes_so drives undirected told input (Refuses refusal) (refusal_line refusal) (inr (empty, inr (stood, closes_text drives undirected input.old_left refusal may says))),
)

-- why a text wasn't read
pub cause_of_text : {D : Type 0} (faults : D → ℕ) (olds news : List D) (drives : ℕ) (undirected : Bool) (told : Option (List (List ℕ))) (old new : Option (List ℕ)) (before after : ℕ)
    (refusal : Refusal) → IfSome told (λ helds. length helds ≡ drives) → NoneRose faults olds news → IfSome told AreEmpty → ReadRefused undirected old new before after refusal →
    IsCause faults olds news (BuildComesTo drives undirected told (input_over old new before after)) (Some refusal) (refusal_line refusal)
cause_of_text faults olds news drives undirected told old new before after Refusal.Memory many kept empty why =
    (kept, cut_build drives undirected told (input_over old new before after) (refusal_line Refusal.Memory) many why)
cause_of_text faults olds news drives undirected told old new before after Refusal.InputFault many kept empty why = (
  kept,
  closes_so drives undirected told (input_over old new before after) (Refuses Refusal.InputFault) (refusal_line Refusal.InputFault) (inr (empty, inl (why.1, refl))),
)
cause_of_text faults olds news drives undirected told old new before after (Refusal.BadLine line) many kept empty why =
    text_refused faults olds news drives undirected told (input_over old new before after) (Refusal.BadLine line) kept empty tt why.0 why.1.says
cause_of_text faults olds news drives undirected told old new before after (Refusal.IdTooLarge line) many kept empty why =
    text_refused faults olds news drives undirected told (input_over old new before after) (Refusal.IdTooLarge line) kept empty tt why.0 why.1.says
cause_of_text faults olds news drives undirected told old new before after (Refusal.TooManyEdges line) many kept empty why =
    text_refused faults olds news drives undirected told (input_over old new before after) (Refusal.TooManyEdges line) kept empty tt why.0 why.1.says
cause_of_text faults olds news drives undirected told old new before after Refusal.TextTooLong many kept empty why =
    text_refused faults olds news drives undirected told (input_over old new before after) Refusal.TextTooLong kept empty tt why.0 why.1
cause_of_text faults olds news drives undirected told old new before after refusal many kept empty why = absurd why

-- neither answers for the output
pub looking_not_output : {D : Type 0} (faults : D → ℕ) (olds news : List D) (refusal : Refusal) →
    EmptyCounts faults olds news (Err refusal) → refusal ≢ Refusal.OutputFault
looking_not_output faults olds news refusal counts is =
    let P : Refusal → Type 0 = λ refusal. EmptyCounts faults olds news (Err refusal) in subst P is counts

pub text_not_output : (undirected : Bool) (old new : Option (List ℕ)) (before after : ℕ) (refusal : Refusal) →
    ReadRefused undirected old new before after refusal → refusal ≢ Refusal.OutputFault
text_not_output undirected old new before after refusal why is =
    let P : Refusal → Type 0 = λ refusal. ReadRefused undirected old new before after refusal in subst P is why

pub looking_not_text : {D : Type 0} (faults : D → ℕ) (olds news : List D) (refusal : Refusal) → EmptyCounts faults olds news (Err refusal) → status_of refusal ≢ 6
looking_not_text faults olds news (Refusal.NotEmpty drive) counts is = cc
looking_not_text faults olds news (Refusal.DriveFault drive) counts is = cc
looking_not_text faults olds news refusal counts is = absurd counts

-- nor reading for what the drives hold
pub text_not_held : (undirected : Bool) (old new : Option (List ℕ)) (before after : ℕ) (refusal : Refusal) →
    ReadRefused undirected old new before after refusal → status_of refusal ≢ 7
text_not_held undirected old new before after Refusal.Memory why is = cc
text_not_held undirected old new before after Refusal.InputFault why is = cc
text_not_held undirected old new before after (Refusal.BadLine line) why is = cc
text_not_held undirected old new before after (Refusal.IdTooLarge line) why is = cc
text_not_held undirected old new before after (Refusal.TooManyEdges line) why is = cc
text_not_held undirected old new before after Refusal.TextTooLong why is = cc
text_not_held undirected old new before after refusal why is = absurd why

-- the source's count stood, or it rose and the input is named
pub input_counts : (undirected : Bool) (old new : Option (List ℕ)) (before after : ℕ) (refusal : Refusal) →
    ReadRefused undirected old new before after refusal → (after ≡ before) ⊎ (Rose before after × (refusal ≡ Refusal.InputFault))
input_counts undirected old new before after Refusal.Memory why = inl why
input_counts undirected old new before after Refusal.InputFault why = inr (why.1, refl)
input_counts undirected old new before after (Refusal.BadLine line) why = inl why.0
input_counts undirected old new before after (Refusal.IdTooLarge line) why = inl why.0
input_counts undirected old new before after (Refusal.TooManyEdges line) why = inl why.0
input_counts undirected old new before after Refusal.TextTooLong why = inl why.0
input_counts undirected old new before after refusal why = absurd why

-- edges that were read and built
closes_built : (drives : ℕ) (undirected : Bool) (left : Option (List ℕ)) (edges : EdgeList) → AreOfText undirected left edges →
    ClosesByText drives undirected left (Done (built_line drives edges))
closes_built drives undirected None edges of_text = record { edges = edges; are_edges = of_text.are_edges; is_line = refl }
closes_built drives undirected (Some bytes) edges of_text = sym (ap (close_of_text drives) of_text.says)

pub comes_built : {D : Type 0} (held : D → Option (List ℕ)) (drives : ℕ) (undirected : Bool) (input : Input) (olds : List D) (edges : EdgeList) →
    MayBuild held undirected input olds edges → BuildComesTo drives undirected (all_told held olds) input (at_once (Done (built_line drives edges)))
comes_built held drives undirected input olds edges may = (refl, inr (may.empty, inr (may.stood, closes_built drives undirected input.old_left edges may.of_text)))
