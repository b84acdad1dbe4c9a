-- A run on generated edges, by the drives in memory that their image is built on.
use Rattle.std.proofs.Common.{◌≡◌, ◌≢◌, ◌∙◌, ◌≤◌, ◌<◌, ◌+◌, ◌/◌, ℕ, Bool, zero, suc, Option, None, Some, IfSome, IsSome, Result, Ok, Err, List, [], ◌∷◌, ◌++◌, length, map, refl, sym, ap, subst, arith}
use Rattle.std.specs.List.{range_with_len}
use Rattle.fg_base.specs.Faults.{Rose}
use Rattle.fg_base.specs.Told.{grown}
use Rattle.fg_base.specs.Refusal.{status_of}
use Rattle.fg_base.specs.declared.refusal.Refusal.{Refusal}
use Rattle.fg_build.specs.Answers.{ReadCounts}
use Rattle.fg_build.specs.Building.{HoldImage, RoomyKeptForImage}
use Rattle.fg_build.specs.Layouts.{Plan, all_drive_bytes, drive_bytes}
use Rattle.fg_build.specs.Opening.{graph_on}
use Rattle.fg_engine.specs.Tallies.{RoseWithin, Tallied}
use Rattle.fg_image.specs.Made.{image_bytes}
use Rattle.fg_image.proofs.MakingLaws.{made_image}
use Rattle.fg_model.specs.declared.graph.Graph.{Graph}
use Rattle.fg_model.specs.Edges.{AreEdges, EdgeList}
use Rattle.fg_outside.specs.Drives.{EachDriveFrom, HasEach, HasEachFrom, NoneRose, RoomyKept, RoseFirst, all_told, told_before}
use Rattle.fg_outside.specs.Pages.{HasRoom}
use Rattle.fg_outside.proofs.DriveLemmas.{EachDrive-numbered, EachDrive-weaker, EachDriveFrom-length, HasEachFrom-after}
use Rattle.fg_report.specs.Refusals.{refusal_line}
use Rattle.fg_stripe.specs.declared.layout.Layout.{Layout}
use Rattle.fg_stripe.specs.Striping.{pages_on}
use Rattle.fg_text.specs.Generator.{generated_text}
use Rattle.fg_text.specs.Made.{MadeRefused}
use Rattle.fg_words.specs.declared.jobs.Recipe.{Recipe}
use Rattle.fg_top.specs.declared.wish.Wish.{Wish}
use Rattle.fg_top.specs.Calls.{Output}
use Rattle.fg_top.specs.Ends.{Ends, EndsAlone, IsCause, IsCutShort, IsOutcome}
use Rattle.fg_top.specs.LargeJob.{HasMirror, LargeComesTo, MeansGenerated, edges_graph, generated_graph}
use Rattle.fg_top.specs.Meaning.{MeansWish}
use Rattle.fg_top.specs.MadeDrives.{AreEmptyFor, HoldEdges, HoldGenerated, IsEmptyFor, OpenToEdges}
use Rattle.fg_top.specs.Outcome.{Close, Counted, Outcome, Refuses, WishComesTo, at_once, held_graph, opened_graph, outcome_of, outcome_on}
use Rattle.fg_top.specs.Tallies.{RoseByWish, begins_of}
use Rattle.fg_top.proofs.MadeLaws.{drive_pages}

-- one drive more
HasEachFrom-next : {D : Type 0} (first : ℕ) (P : ℕ → D → Type 0) (drives : List D) (new : D) (number : ℕ) → number ≡ first + length drives →
    HasEachFrom first P drives → P number new → HasEachFrom first P (drives ++ (new ∷ []))
HasEachFrom-next first P [] new number at has holds =
    let here : number ≡ first = omega (arith, at) in
    let Q : ℕ → Type 0 = λ k. P k new in (subst Q here holds, tt)
HasEachFrom-next first P (drive ∷ drives) new number at has holds =
    (has.0, HasEachFrom-next (suc first) P drives new number (omega (arith, at)) has.1 holds)

pub HasEach-next : {D : Type 0} (P : ℕ → D → Type 0) (drives : List D) (new : D) (number : ℕ) → number ≡ length drives →
    HasEach P drives → P number new → HasEach P (drives ++ (new ∷ []))
HasEach-next P drives new number at has holds = HasEachFrom-next 0 P drives new number (omega (arith, at)) has holds

-- what drives that held nothing tell, after something was appended to each
told_from : {D : Type 0} (first : ℕ) (held : D → Option (List ℕ)) (bytes : ℕ → List ℕ) (olds news : List D) →
    HasEachFrom first (λ _ one. held one ≡ Some []) olds → EachDriveFrom first (λ drive old new. held new ≡ grown (held old) (bytes drive)) olds news →
    all_told held news ≡ Some (map bytes (range_with_len first (length olds)))
told_from first held bytes [] [] nothing holds = refl
told_from first held bytes [] (new ∷ news) nothing holds = absurd holds
told_from first held bytes (old ∷ olds) [] nothing holds = absurd holds
told_from first held bytes (old ∷ olds) (new ∷ news) nothing holds =
    let own : held new ≡ Some (bytes first) = holds.0 ∙ ap (λ told. grown told (bytes first)) nothing.0 in
    let next : suc first ≡ first + 1 = omega arith in
    let Others : ℕ → Type 0 = λ number. all_told held news ≡ Some (map bytes (range_with_len number (length olds))) in
    let others = subst Others next (told_from (suc first) held bytes olds news nothing.1 holds.1) in
    ap (λ told. told_before told (all_told held news)) own ∙ ap (told_before (Some (bytes first))) others

-- empty drives on which the image was built
pub edges_held : {D : Type 0} (held : D → Option (List ℕ)) (room : D → Option ℕ) (faults : D → ℕ) (layout : Layout) (number : ℕ) (edges : EdgeList) (olds news : List D) →
    AreEdges edges → AreEmptyFor held room faults layout olds →
    HoldImage held (record { drives = length olds; unit = layout.unit; number = number }) edges olds news → NoneRose faults olds news →
    HoldEdges held faults (record { drives = layout.drives; unit = layout.unit; number = number }) edges news
edges_held {D} held room faults layout number edges olds news are empty holds kept =
    let plan : ℕ → Plan = λ count. record { drives = count; unit = layout.unit; number = number } in
    let bytes : ℕ → List ℕ = drive_bytes (plan (length olds)) edges in
    let grew : ℕ → D → D → Type 0 = λ drive old new. held new ≡ grown (held old) (bytes drive) in
    let same : D → D → Type 0 = λ old new. faults new ≡ faults old in
    let P : ℕ → Type 0 = λ count. HoldEdges held faults (plan count) edges news in
    subst P empty.many (record {
      are_edges = are;
      many = EachDriveFrom-length 0 grew olds news holds;
      told = told_from 0 held bytes olds news (nothing_held 0 olds empty.each) holds;
      unfailed = HasEachFrom-after 0 (IsEmptyFor held room faults layout) (λ _ one. faults one ≡ 0) (λ _. same) (λ drive old new is has. is ∙ has.unfailed) olds news
          (EachDrive-numbered 0 same olds news kept) empty.each;
    })
  where
    nothing_held : (first : ℕ) (drives : List D) → HasEachFrom first (IsEmptyFor held room faults layout) drives → HasEachFrom first (λ _ one. held one ≡ Some []) drives
    nothing_held first [] has = tt
    nothing_held first (drive ∷ drives) has = (has.0.nothing, nothing_held (suc first) drives has.1)

-- empty drives have room for the image, and so none of them failed when it was built
pub empty_kept : {D : Type 0} (held : D → Option (List ℕ)) (room : D → Option ℕ) (faults : D → ℕ) (layout : Layout) (number : ℕ) (edges : EdgeList) (olds news : List D) →
    layout.pages ≡ length (image_bytes edges) / 4096 → AreEmptyFor held room faults layout olds →
    RoomyKeptForImage room faults (record { drives = length olds; unit = layout.unit; number = number }) edges olds news → NoneRose faults olds news
empty_kept {D} held room faults layout number edges olds news pages empty kept =
    let P : ℕ → Type 0 = λ count. RoomyKeptForImage room faults (record { drives = count; unit = layout.unit; number = number }) edges olds news in
    none 0 olds news empty.each (subst P empty.many kept)
  where
    plan : Plan
    plan = record { drives = layout.drives; unit = layout.unit; number = number }

    needed : ℕ → ℕ
    needed drive = length (drive_bytes plan edges drive) / 4096

    roomy : (drive : ℕ) (one : D) → IsEmptyFor held room faults layout drive one → HasRoom (room one) (needed drive)
    roomy drive one empty =
        let given = 1 + length (pages_on drive layout.drives layout.unit layout.pages) in
        let same : needed drive ≡ given = drive_pages plan edges drive ∙ ap (λ count. 1 + length (pages_on drive layout.drives layout.unit count)) (sym pages) in
        let enough : needed drive ≤ given = omega (arith, same) in
        let Has : Option ℕ → Type 0 = λ told. HasRoom told (needed drive) in
        subst Has (sym empty.roomy) enough

    none : (first : ℕ) (olds news : List D) → HasEachFrom first (IsEmptyFor held room faults layout) olds →
        EachDriveFrom first (λ drive old new. HasRoom (room old) (needed drive) → faults new ≡ faults old) olds news → NoneRose faults olds news
    none first [] [] each kept = tt
    none first [] (new ∷ news) each kept = absurd kept
    none first (old ∷ olds) [] each kept = absurd kept
    none first (old ∷ olds) (new ∷ news) each kept = (kept.0 (roomy first old each.0), none (suc first) olds news each.1 kept.1)

-- a drive that never failed and whose count stood isn't the first that failed
never_first : {D : Type 0} (first : ℕ) (faults : D → ℕ) (number : ℕ) (olds news : List D) → HasEachFrom first (λ _ one. faults one ≡ 0) olds → NoneRose faults olds news →
    RoseFirst faults number olds news → ⊥
never_first first faults zero [] news unfailed kept rose = rose
never_first first faults (suc number) [] news unfailed kept rose = rose
never_first first faults zero (old ∷ olds) [] unfailed kept rose = rose
never_first first faults (suc number) (old ∷ olds) [] unfailed kept rose = rose
never_first first faults zero (old ∷ olds) (new ∷ news) unfailed kept rose =
    let From : ℕ → Type 0 = λ count. Rose count (faults new) in
    let rise : 0 < faults new = subst From unfailed.0 rose (omega arith) in
    omega (arith, rise, kept.0, unfailed.0)
never_first first faults (suc number) (old ∷ olds) (new ∷ news) unfailed kept rose =
    never_first (suc first) faults number olds news unfailed.1 kept.1 rose.1

-- empty drives never failed
pub empty_unfailed : {D : Type 0} (held : D → Option (List ℕ)) (room : D → Option ℕ) (faults : D → ℕ) (layout : Layout) (drives : List D) →
    AreEmptyFor held room faults layout drives → HasEach (λ _ one. faults one ≡ 0) drives
empty_unfailed {D} held room faults layout drives empty = unfailed 0 drives empty.each where
  unfailed : (first : ℕ) (drives : List D) → HasEachFrom first (IsEmptyFor held room faults layout) drives → HasEachFrom first (λ _ one. faults one ≡ 0) drives
  unfailed first [] has = tt
  unfailed first (drive ∷ drives) has = (has.0.unfailed, unfailed (suc first) drives has.1)

-- building over drives with room is refused for want of memory alone
pub building_refused : {D : Type 0} (faults : D → ℕ) (olds news : List D) (undirected : Bool) (text : List ℕ) (refusal : Refusal) →
    HasEach (λ _ one. faults one ≡ 0) olds → NoneRose faults olds news → ReadCounts {A = ℕ} faults olds news (Err refusal) → MadeRefused undirected text refusal
building_refused faults olds news undirected text Refusal.Memory unfailed kept counts = tt
building_refused faults olds news undirected text (Refusal.DriveFault drive) unfailed kept counts = absurd (never_first 0 faults drive olds news unfailed kept counts)
building_refused faults olds news undirected text refusal unfailed kept counts = absurd counts

-- drives that tell their room don't fail
pub none_fails : {D : Type 0} (room : D → Option ℕ) (faults : D → ℕ) (olds news : List D) → ((drive : D) → IsSome (room drive)) → RoomyKept room faults olds news → NoneRose faults olds news
none_fails {D} room faults olds news roomy kept =
    let R : D → D → Type 0 = λ old new. IsSome (room old) → faults new ≡ faults old in
    let S : D → D → Type 0 = λ old new. faults new ≡ faults old in
    EachDrive-weaker R S (λ old new same. same (roomy old)) olds news kept

-- drives that open to the edges give their graph, with their counts
opens_graph : (helds : List (List ℕ)) (edges : EdgeList) → OpenToEdges helds edges → held_graph helds ≡ edges_graph (Ok edges)
opens_graph helds edges opens =
    let opened = opens.opened in
    let given : ℕ → ℕ → ℕ → Graph → Result Counted Refusal = λ vertices outs ins graph. Ok (record { vertices = vertices; outs = outs; ins = ins; graph = graph }) in
    ap (opened_graph helds) opens.opening
    ∙ ap (λ vertices. given vertices opened.header.out_entries opened.header.in_entries (graph_on opened helds)) opens.vertices
    ∙ ap (λ outs. given edges.n outs opened.header.in_entries (graph_on opened helds)) opens.outs
    ∙ ap (λ ins. given edges.n (length edges.pairs) ins (graph_on opened helds)) opens.ins
    ∙ ap (given edges.n (length edges.pairs) (length edges.pairs)) opens.graph

-- drives that hold the generated edges tell their bytes, which give the generated graph
record GiveGenerated {D : Type 0} (held : D → Option (List ℕ)) (recipe : Recipe) (drives : List D) : Type 0 where
  helds : List (List ℕ)
  told : all_told held drives ≡ Some helds
  graph : held_graph helds ≡ generated_graph recipe

gives_generated : {D : Type 0} (held : D → Option (List ℕ)) (faults : D → ℕ) (plan : Plan) (recipe : Recipe) (drives : List D) →
    ((edges : EdgeList) → AreEdges edges → OpenToEdges (all_drive_bytes plan edges) edges) → HoldGenerated held faults plan recipe drives → GiveGenerated held recipe drives
gives_generated held faults plan recipe drives opens holds =
    let edges = holds.edges in
    let helds = all_drive_bytes plan edges in
    record { helds = helds; told = holds.hold.told; graph = opens_graph helds edges (opens edges holds.hold.are_edges) ∙ ap edges_graph (sym holds.made) }

-- what the wish comes to on drives that hold the generated edges
comes_generated : {D : Type 0} (held : D → Option (List ℕ)) (wish : Wish) (recipe : Recipe) (drives : List D) → GiveGenerated held recipe drives →
    (outcome : Outcome) → WishComesTo wish None (all_told held drives) outcome → LargeComesTo wish recipe outcome
unfolding outcome_of
comes_generated held wish recipe drives gives outcome comes =
    let P : Option (List (List ℕ)) → Type 0 = λ told. WishComesTo wish None told outcome in
    subst P gives.told comes ∙ ap (outcome_on wish None) gives.graph

outcome_so : (comes other : Outcome → Type 0) → ((outcome : Outcome) → comes outcome → other outcome) → (close : Close) (last text : List ℕ) →
    IsOutcome comes close last text → IsOutcome other close last text
outcome_so comes other more close last text is = record { outcome = is.outcome; is_one = more is.outcome is.is_one; closes = is.closes; text_is = is.text_is }

cut_so : (comes other : Outcome → Type 0) → ((outcome : Outcome) → comes outcome → other outcome) → (last text : List ℕ) → IsCutShort comes last text → IsCutShort other last text
cut_so comes other more last text is = record { outcome = is.outcome; is_one = more is.outcome is.is_one; count = is.count; text_is = is.text_is }

-- a cause on drives of which none can have failed is one without drives
cause_undriven : {D : Type 0} (faults : D → ℕ) (olds news : List D) (comes other : Outcome → Type 0) → ((outcome : Outcome) → comes outcome → other outcome) →
    ((number : ℕ) → RoseFirst faults number olds news → ⊥) → (end : Option Refusal) (text : List ℕ) → IsCause faults olds news comes end text →
    IsCause {D = ℕ} (λ drive. drive) [] [] other end text
cause_undriven faults olds news comes other more never None text cause =
    (tt, record { last = cause.1.last; is_outcome = outcome_so comes other more _ cause.1.last text cause.1.is_outcome })
cause_undriven faults olds news comes other more never (Some Refusal.Memory) text cause =
    (tt, cut_so comes other more (refusal_line Refusal.Memory) text cause.1)
cause_undriven faults olds news comes other more never (Some Refusal.OutputFault) text cause = cause
cause_undriven faults olds news comes other more never (Some (Refusal.DriveFault drive)) text cause = absurd (never drive cause.0)
cause_undriven faults olds news comes other more never (Some refusal) text cause = (tt, outcome_so comes other more _ (refusal_line refusal) text cause.1)

-- the end of the run on the drives is the job's end
pub ends_generated : {D : Type 0} (held : D → Option (List ℕ)) (faults : D → ℕ) (plan : Plan) (recipe : Recipe) (wish : Wish) (olds news : List D) (leaves : Option Refusal → Type 0) (output : Output) (status : ℕ) →
    ((edges : EdgeList) → AreEdges edges → OpenToEdges (all_drive_bytes plan edges) edges) → HoldGenerated held faults plan recipe olds → NoneRose faults olds news →
    Ends faults olds news (WishComesTo wish None (all_told held olds)) leaves output status → EndsAlone (LargeComesTo wish recipe) output status
ends_generated held faults plan recipe wish olds news leaves output status opens holds kept ends =
    record {
      end = ends.end;
      text = ends.text;
      cause = cause_undriven faults olds news (WishComesTo wish None (all_told held olds)) (LargeComesTo wish recipe)
          (comes_generated held wish recipe olds (gives_generated held faults plan recipe olds opens holds))
          (λ number rose. never_first 0 faults number olds news holds.hold.unfailed kept rose) ends.end ends.text ends.cause;
      left = tt;
      written = ends.written;
    }

-- what is known of the graph that the drives give is known of the generated graph
known_generated : {D : Type 0} (held : D → Option (List ℕ)) (recipe : Recipe) (drives : List D) (P : Result Counted Refusal → Type 0) → GiveGenerated held recipe drives →
    IfSome (all_told held drives) (λ helds. P (held_graph helds)) → P (generated_graph recipe)
known_generated held recipe drives P gives known =
    let Told : Option (List (List ℕ)) → Type 0 = λ told. IfSome told (λ helds. P (held_graph helds)) in
    subst P gives.graph (subst Told gives.told known)

-- the tally rose by the run on the drives
pub tally_generated : {D : Type 0} (held : D → Option (List ℕ)) (faults : D → ℕ) (plan : Plan) (recipe : Recipe) (wish : Wish) (olds : List D) (tally : Tallied) →
    ((edges : EdgeList) → AreEdges edges → OpenToEdges (all_drive_bytes plan edges) edges) → HoldGenerated held faults plan recipe olds →
    IfSome (all_told held olds) (λ helds. RoseByWish wish (held_graph helds) tally) → RoseByWish wish (generated_graph recipe) tally
tally_generated held faults plan recipe wish olds tally opens holds rose =
    known_generated held recipe olds (λ given. RoseByWish wish given tally) (gives_generated held faults plan recipe olds opens holds) rose

pub went_generated : {D : Type 0} (held : D → Option (List ℕ)) (faults : D → ℕ) (plan : Plan) (recipe : Recipe) (wish : Wish) (olds : List D) (whole : Type 0) (tally : Tallied) →
    ((edges : EdgeList) → AreEdges edges → OpenToEdges (all_drive_bytes plan edges) edges) → HoldGenerated held faults plan recipe olds →
    IfSome (all_told held olds) (λ helds. RoseWithin whole (begins_of wish (held_graph helds)) tally) → RoseWithin whole (begins_of wish (generated_graph recipe)) tally
went_generated held faults plan recipe wish olds whole tally opens holds rose =
    known_generated held recipe olds (λ given. RoseWithin whole (begins_of wish given) tally) (gives_generated held faults plan recipe olds opens holds) rose

-- what the values mean of a run on drives that hold the generated edges
pub means_generated : {D : Type 0} (held : D → Option (List ℕ)) (faults : D → ℕ) (plan : Plan) (recipe : Recipe) (wish : Wish) (olds : List D) →
    ((edges : EdgeList) → AreEdges edges → OpenToEdges (all_drive_bytes plan edges) edges) → HoldGenerated held faults plan recipe olds →
    IfSome (all_told held olds) (λ helds. MeansWish wish (held_graph helds)) → MeansGenerated wish recipe
means_generated held faults plan recipe wish olds opens holds means =
    let Mirror : Result EdgeList Refusal → Type 0 = λ says. HasMirror (edges_graph says) in (
      known_generated held recipe olds (MeansWish wish) (gives_generated held faults plan recipe olds opens holds) means,
      subst Mirror (sym holds.made) (made_image holds.edges holds.hold.are_edges).1.mirror,
    )

-- why edges weren't generated
pub cause_of_generating : (wish : Wish) (recipe : Recipe) (refusal : Refusal) → MadeRefused recipe.undirected (generated_text recipe.start recipe.nodes recipe.edges) refusal →
    IsCause {D = ℕ} (λ drive. drive) [] [] (LargeComesTo wish recipe) (Some refusal) (refusal_line refusal)
cause_of_generating wish recipe Refusal.Memory why =
    (tt, record { outcome = outcome_on wish None (generated_graph recipe); is_one = refl; count = 0; text_is = refl })
cause_of_generating wish recipe (Refusal.TooManyEdges line) why =
    (tt, record { outcome = at_once (Refuses (Refusal.TooManyEdges line)); is_one = sym (ap (λ says. outcome_on wish None (edges_graph says)) why); closes = refl; text_is = refl })
cause_of_generating wish recipe refusal why = absurd why

pub generating_not_output : (undirected : Bool) (text : List ℕ) (refusal : Refusal) → MadeRefused undirected text refusal → refusal ≢ Refusal.OutputFault
generating_not_output undirected text refusal why is =
    let P : Refusal → Type 0 = λ refusal. MadeRefused undirected text refusal in subst P is why

pub generating_not_graph : (undirected : Bool) (text : List ℕ) (refusal : Refusal) → MadeRefused undirected text refusal → status_of refusal ≢ 8
generating_not_graph undirected text Refusal.Memory why is = cc
generating_not_graph undirected text (Refusal.TooManyEdges line) why is = cc
generating_not_graph undirected text refusal why is = absurd why
