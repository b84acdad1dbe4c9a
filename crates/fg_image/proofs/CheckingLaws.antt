-- Paddings one behind the other, and that an image has no more than one first fault.
use Rattle.std.proofs.Common.{◌≡◌, ℕ, ◌*◌, ◌^◌, ◌≤◌, Bool, true, false, List, length, refl, sym, ap, subst, ◌∙◌, ◌⊎◌, arith, inl, inr}
use Rattle.std.specs.Prelude.{Option, Some, None, Ok}
use Rattle.std.specs.Option.{option_or}
use Rattle.std.proofs.lemmas.Bool.{cases_order}
use Rattle.fg_base.specs.declared.refusal.Refusal.{Refusal}
use Rattle.fg_base.specs.declared.refusal.Refusal.TheVariants.{BadEdge as IsBadEdge, BadPadding, Memory, NotMirror}
use Rattle.fg_base.specs.declared.plain.BadEdge.{BadEdge}
use Rattle.fg_image.specs.Checking.{IsFaultless, IsFirstFault, IsFirstUnlike, IsSectionOf, IsUnlikeAt, bad_edge_in, bad_page, bad_page_in, sections_in}
use Rattle.fg_image.specs.Front.{HeaderFits}
use Rattle.fg_image.specs.Header.{is_weighted, size_of}
use Rattle.fg_image.specs.declared.header.Header.{Header}
use Rattle.fg_image.specs.Image.{AreParts, Parts, graph_in}
use Rattle.fg_index.specs.ImageIndex.{entry_bytes}
use Rattle.fg_model.specs.declared.graph.Graph.{Graph}
use Rattle.fg_model.specs.Graph.{IsSound}
use Rattle.fg_model.specs.Mirror.{IsMirror}
use Rattle.fg_stripe.specs.declared.layout.Layout.{Layout}

few-bytes : (weighted : Bool) (entries : ℕ) → entries ≤ 2 ^ 26 → entries * entry_bytes weighted ≤ 2 ^ 30
few-bytes true entries few = omega arith
few-bytes false entries few = omega arith

-- the sections of an accepted header are in the image
pub record AreSections (image : List ℕ) (header : Header) (layout : Layout) : Type 0 where
  pub outs : IsSectionOf image (record { first = layout.out_first; bytes = header.out_entries * size_of header })
  pub ins : IsSectionOf image (record { first = layout.in_first; bytes = header.in_entries * size_of header })
  pub index : IsSectionOf image (record { first = header.index_first; bytes = header.index_bytes })

pub sections-fit : (image : List ℕ) (header : Header) (layout : Layout) → HeaderFits header layout → layout.pages * 4096 ≤ length image → AreSections image header layout
sections-fit image header layout fits whole =
    let outs = few-bytes (is_weighted header) header.out_entries fits.few_outs in
    let ins = few-bytes (is_weighted header) header.in_entries fits.few_ins in
    record {
      outs = record { few = omega (arith, outs); few_pages = omega (arith, fits.outs_first, fits.ins_behind, fits.index_behind, fits.index_last, fits.few_pages); within = omega (arith, fits.outs_first, fits.ins_behind, fits.index_behind, fits.index_last, whole) };
      ins = record { few = omega (arith, ins); few_pages = omega (arith, fits.index_behind, fits.index_last, fits.few_pages); within = omega (arith, fits.index_behind, fits.index_last, whole) };
      index = record { few = omega (arith, fits.few_bytes); few_pages = omega (arith, fits.index_last, fits.few_pages); within = omega (arith, fits.index_last, whole) };
    }

-- the first of three
pub first-of : {X : Type 0} (one two three : Option X) → option_or (option_or one two) three ≡ option_or one (option_or two (option_or three None))
first-of (Some x) two three = refl
first-of None (Some y) three = refl
first-of None None (Some z) = refl
first-of None None None = refl

-- an image with no fault has a mirror as its graph
pub mirror-by : (graph : Graph) → IsSound graph → IsUnlikeAt graph None → IsMirror graph
mirror-by graph sound mirrored = record { sound = sound; in_lists = mirrored }

one-unlike : (graph : Graph) (v w : ℕ) → IsFirstUnlike graph v → IsFirstUnlike graph w → v ≡ w
one-unlike graph v w one other = elim (cases_order v w) [
  | inl same ↦ same
  | inr (inl less) ↦ absurd (one.unlike (other.mirrored v less))
  | inr (inr more) ↦ absurd (other.unlike (one.mirrored w more))
]

some-none : {X : Type 0} (o : Option X) (x : X) → o ≡ Some x → o ≡ None → ⊥
some-none o x some none = cc

some-same : {X : Type 0} (o : Option X) (x y : X) → o ≡ Some x → o ≡ Some y → x ≡ y
some-same o x y one other = cc

-- no two first faults
pub one-fault : (parts : Parts) (image : List ℕ) (found fault : Refusal) → IsFirstFault parts image found → IsFirstFault parts image fault → found ≡ fault
one-fault parts image (IsBadEdge edge) (IsBadEdge other) one two = ap (λ (e : BadEdge). IsBadEdge e) (some-same (bad_edge_in (graph_in parts image)) edge other one two)
one-fault parts image (IsBadEdge edge) (BadPadding page) one two = absurd (some-none (bad_edge_in (graph_in parts image)) edge one two.0)
one-fault parts image (IsBadEdge edge) (NotMirror v) one two = absurd (some-none (bad_edge_in (graph_in parts image)) edge one two.0)
one-fault parts image (BadPadding page) (IsBadEdge edge) one two = absurd (some-none (bad_edge_in (graph_in parts image)) edge two one.0)
one-fault parts image (BadPadding page) (BadPadding other) one two = ap (λ (p : ℕ). BadPadding p) (some-same (bad_page_in image (sections_in parts.header parts.layout)) page other one.1 two.1)
one-fault parts image (BadPadding page) (NotMirror v) one two = absurd (some-none (bad_page_in image (sections_in parts.header parts.layout)) page one.1 two.1)
one-fault parts image (NotMirror v) (IsBadEdge edge) one two = absurd (some-none (bad_edge_in (graph_in parts image)) edge two one.0)
one-fault parts image (NotMirror v) (BadPadding page) one two = absurd (some-none (bad_page_in image (sections_in parts.header parts.layout)) page two.1 one.1)
one-fault parts image (NotMirror v) (NotMirror w) one two = ap (λ (u : ℕ). NotMirror u) (one-unlike (graph_in parts image) v w one.2 two.2)
one-fault parts image (IsBadEdge edge) fault one two = absurd two
one-fault parts image (BadPadding page) fault one two = absurd two
one-fault parts image (NotMirror v) fault one two = absurd two
one-fault parts image found fault one two = absurd one

-- and none where there is no fault
pub no-fault : (parts : Parts) (image : List ℕ) (fault : Refusal) → IsFaultless parts image → IsFirstFault parts image fault → ⊥
no-fault parts image (IsBadEdge edge) none one = some-none (bad_edge_in (graph_in parts image)) edge one none.leads
no-fault parts image (BadPadding page) none one = some-none (bad_page_in image (sections_in parts.header parts.layout)) page one.1 none.padded
no-fault parts image (NotMirror v) none one = one.2.unlike (none.mirrored v one.2.below)
no-fault parts image fault none one = absurd one

-- what holds of the parts that were read holds of all parts that the image says
module _ (image : List ℕ) (read : Parts) (are : AreParts image read) where
  same-parts : (parts : Parts) → AreParts image parts → parts ≡ read
  same-parts parts others = let both : Ok parts ≡ Ok read = sym others ∙ are in cc

  pub fault-of : (found : Refusal) → IsFirstFault read image found → (parts : Parts) → AreParts image parts → IsFirstFault parts image found
  fault-of found is parts others = let P : Parts → Type 0 = λ p. IsFirstFault p image found in subst P (sym (same-parts parts others)) is

  pub only-fault : (found : Refusal) → IsFirstFault read image found → (parts : Parts) → AreParts image parts → (fault : Refusal) → IsFirstFault parts image fault
      → (found ≡ fault) ⊎ (found ≡ Memory)
  only-fault found is parts others fault one = inl (one-fault parts image found fault (fault-of found is parts others) one)

  pub faultless-of : IsFaultless read image → (parts : Parts) → AreParts image parts → IsFaultless parts image
  faultless-of none parts others = let P : Parts → Type 0 = λ p. IsFaultless p image in subst P (sym (same-parts parts others)) none

  pub no-fault-of : IsFaultless read image → (parts : Parts) → AreParts image parts → (fault : Refusal) → IsFirstFault parts image fault → ⊥
  no-fault-of none parts others fault one = no-fault parts image fault (faultless-of none parts others) one

  pub mirror-of : IsMirror (graph_in read image) → (parts : Parts) → AreParts image parts → IsMirror (graph_in parts image)
  mirror-of mirror parts others = let P : Parts → Type 0 = λ p. IsMirror (graph_in p image) in subst P (sym (same-parts parts others)) mirror

-- the pages of the three sections, looked at one by one
pub three-pages : (image : List ℕ) (header : Header) (layout : Layout) (size : ℕ) (outs ins index : Option ℕ) → size ≡ size_of header
    → outs ≡ bad_page image (record { first = layout.out_first; bytes = header.out_entries * size })
    → ins ≡ bad_page image (record { first = layout.in_first; bytes = header.in_entries * size })
    → index ≡ bad_page image (record { first = header.index_first; bytes = header.index_bytes })
    → option_or (option_or outs ins) index ≡ bad_page_in image (sections_in header layout)
three-pages image header layout size outs ins index same of_outs of_ins of_index =
    let page : ℕ → ℕ → Option ℕ = λ first bytes. bad_page image (record { first = first; bytes = bytes }) in
    first-of outs ins index
    ∙ ap (λ (o : Option ℕ). option_or o (option_or ins (option_or index None))) (of_outs ∙ ap (λ (k : ℕ). page layout.out_first (header.out_entries * k)) same)
    ∙ ap (λ (o : Option ℕ). option_or (page layout.out_first (header.out_entries * size_of header)) (option_or o (option_or index None)))
    (of_ins ∙ ap (λ (k : ℕ). page layout.in_first (header.in_entries * k)) same)
    ∙ ap (λ (o : Option ℕ). option_or (page layout.out_first (header.out_entries * size_of header)) (option_or (page layout.in_first (header.in_entries * size_of header)) (option_or o None))) of_index
