use Rattle.std.proofs.Common.{◌≡◌, ◌≢◌, ◌⊎◌, ℕ, ◌/◌, List, length, refl, ap, sym, subst, ◌∙◌, inr}
use Rattle.std.specs.Prelude.{Ok}
use Rattle.fg_base.specs.declared.refusal.Refusal.{Refusal}
use Rattle.fg_image.specs.Checking.{IsFaultless, IsFirstFault}
use Rattle.fg_image.specs.Image.{AreParts, Parts, graph_in, parts_in}
use Rattle.fg_image.proofs.CheckingLaws.{fault-of, faultless-of, mirror-of, no-fault-of, only-fault}
use Rattle.fg_model.specs.Mirror.{IsMirror}
use Rattle.fg_image.proofs.checking.check_image.Goals as goal

-- the parts that were read are those that the image says
read-are : (image now : List ℕ) (len : ℕ) (read : Parts) → now ≡ image → length image ≡ len → parts_in (len / 4096) now ≡ Ok read → AreParts image read
read-are image now len read same long are =
    ap (λ (n : ℕ). parts_in (n / 4096) image) long ∙ ap (parts_in (len / 4096)) (sym same) ∙ are

-- what was found is the first fault, or want of memory
found-or : (image : List ℕ) (read : Parts) → AreParts image read → (found : Refusal) → (found ≢ Refusal.Memory → IsFirstFault read image found) →
    (parts : Parts) → AreParts image parts → (fault : Refusal) → IsFirstFault parts image fault → (found ≡ fault) ⊎ (found ≡ Refusal.Memory)
found-or image read are Refusal.Memory first parts others fault one = inr refl
found-or image read are (Refusal.BadEdge edge) first parts others fault one = only-fault image read are (Refusal.BadEdge edge) (first (λ is. cc)) parts others fault one
found-or image read are (Refusal.BadPadding page) first parts others fault one = only-fault image read are (Refusal.BadPadding page) (first (λ is. cc)) parts others fault one
found-or image read are (Refusal.NotMirror v) first parts others fault one = only-fault image read are (Refusal.NotMirror v) (first (λ is. cc)) parts others fault one
found-or image read are found first parts others fault one = absurd (first (λ is. cc))

pub returns-in-Ok-check_sections-clause-ok : goal.returns-in-Ok-check_sections-clause-ok
returns-in-Ok-check_sections-clause-ok c =
    let image = c.args.image.now.items in
    let now = c.as_slice-bytes.result.now in
    let same = c.as_slice-bytes.ensures.value in
    let read : Parts = record { header = c.in-Ok.parts.header; layout = c.in-Ok.parts.layout; index = c.in-Ok.parts.index } in
    let are = read-are image now (length now) read same (ap length (sym same)) c.in-Ok.ensures.parts in
    let Of : List ℕ → Type 0 = λ bytes. IsFaultless read bytes in
    faultless-of image read are (subst Of same c.in-Ok-check_sections.ensures.ok)

pub returns-in-Ok-check_sections-clause-mirror : goal.returns-in-Ok-check_sections-clause-mirror
returns-in-Ok-check_sections-clause-mirror c =
    let image = c.args.image.now.items in
    let now = c.as_slice-bytes.result.now in
    let same = c.as_slice-bytes.ensures.value in
    let read : Parts = record { header = c.in-Ok.parts.header; layout = c.in-Ok.parts.layout; index = c.in-Ok.parts.index } in
    let are = read-are image now (length now) read same (ap length (sym same)) c.in-Ok.ensures.parts in
    let Of : List ℕ → Type 0 = λ bytes. IsMirror (graph_in read bytes) in
    mirror-of image read are (subst Of same c.in-Ok-check_sections.ensures.mirror)

pub returns-in-Ok-check_sections-clause-only : goal.returns-in-Ok-check_sections-clause-only
returns-in-Ok-check_sections-clause-only c =
    let image = c.args.image.now.items in
    let now = c.as_slice-bytes.result.now in
    let same = c.as_slice-bytes.ensures.value in
    let read : Parts = record { header = c.in-Ok.parts.header; layout = c.in-Ok.parts.layout; index = c.in-Ok.parts.index } in
    let are = read-are image now (length now) read same (ap length (sym same)) c.in-Ok.ensures.parts in
    let Of : List ℕ → Type 0 = λ bytes. IsFaultless read bytes in
    no-fault-of image read are (subst Of same c.in-Ok-check_sections.ensures.ok)

pub returns-clause-refusal : goal.returns-clause-refusal
returns-clause-refusal c =
    let image = c.args.image.now.items in
    let now = c.as_slice-bytes.result.now in
    let same = c.as_slice-bytes.ensures.value in
    let read : Parts = record { header = c.in-Ok.parts.header; layout = c.in-Ok.parts.layout; index = c.in-Ok.parts.index } in
    let are = read-are image now (length now) read same (ap length (sym same)) c.in-Ok.ensures.parts in
    let found = c.in-Err-check_sections.refusal in
    let Of : List ℕ → Type 0 = λ bytes. found ≢ Refusal.Memory → IsFirstFault read bytes found in
    let first = subst Of same c.in-Err-check_sections.ensures.refusal in
    λ known. fault-of image read are found (first known)

pub returns-clause-only : goal.returns-clause-only
returns-clause-only c =
    let image = c.args.image.now.items in
    let now = c.as_slice-bytes.result.now in
    let same = c.as_slice-bytes.ensures.value in
    let read : Parts = record { header = c.in-Ok.parts.header; layout = c.in-Ok.parts.layout; index = c.in-Ok.parts.index } in
    let are = read-are image now (length now) read same (ap length (sym same)) c.in-Ok.ensures.parts in
    let found = c.in-Err-check_sections.refusal in
    let Of : List ℕ → Type 0 = λ bytes. found ≢ Refusal.Memory → IsFirstFault read bytes found in
    let first = subst Of same c.in-Err-check_sections.ensures.refusal in
    found-or image read are found first
