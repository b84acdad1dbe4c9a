-- What drives open to, stage by stage, and which reads come with each.
use Rattle.std.proofs.Common.{◌≡◌, ◌∙◌, ℕ, ◌<◌, Option, None, Some, IfSome, Result, Ok, Err, List, [], ◌∷◌, ◌++◌, length, take, sym, ap, subst, arith, append_assoc}
use Rattle.fg_base.specs.declared.refusal.Refusal.{Refusal}
use Rattle.fg_build.specs.declared.opened.Opened.{Opened}
use Rattle.fg_build.specs.Calls.{AllRead, ReadUntil, SaysOf}
use Rattle.fg_build.specs.Labelled.{IsAllLabelled, LabelFits, striping_of}
use Rattle.fg_build.specs.Labels.{drives_refusal, first_label}
use Rattle.fg_build.specs.Opening.{opened_by, opening_of}
use Rattle.fg_build.specs.OpeningReads.{index_reads, label_reads, opening_reads, page_read, page_reads, reads_behind}
use Rattle.fg_build.specs.Pages.{IsStriped, pages_at}
use Rattle.fg_build.proofs.CallLaws.{IfSome-all, IfSome-both, ReadUntil-before, SaysOf-weaker}
use Rattle.fg_build.proofs.ImageLaws.{image_behind}
use Rattle.fg_build.proofs.RefusalLaws.{opening_by}
use Rattle.fg_image.specs.declared.header.Header.{Header}
use Rattle.fg_image.specs.Front.{Front, HeaderFits, front_at}
use Rattle.fg_image.specs.Header.{pages_for}
use Rattle.fg_image.specs.Image.{index_of, parts_in, with_front, with_index}
use Rattle.fg_index.specs.ImageIndex.{ImageIndex}
use Rattle.fg_outside.specs.declared.drive.Read.{Read}
use Rattle.fg_outside.specs.Drives.{DriveRead, all_told}
use Rattle.fg_outside.proofs.DriveLemmas.{all_told-length}
use Rattle.fg_stripe.specs.declared.label.Label.{Label}
use Rattle.fg_stripe.specs.declared.layout.Layout.{Layout}
use Rattle.fg_stripe.proofs.HeldLaws.{page_of-image_on}
use Rattle.fg_stripe.specs.Held.{image_on, page_on}

-- the pages of the index, of an image with this header
abbrev index_pages : Label → Header → List (List ℕ) → List ℕ
index_pages label header helds = take header.index_bytes (pages_at label.unit helds header.index_first (pages_for header.index_bytes))

module _ (label : Label) (helds : List (List ℕ)) (was : IsAllLabelled helds (Ok label)) (some : 0 < label.pages)
    (whole : (page : ℕ) → page < label.pages → length (page_on label.unit helds page) ≡ 4096) where
  -- behind the labels the header page decides
  with_labels : (found : Result Front Refusal) → front_at label.pages (page_on label.unit helds 0) ≡ found
      → opening_of helds ≡ opened_by label (with_front (image_on label.unit label.pages helds) found)
  unfolding parts_in
  with_labels found is =
      let image = image_on label.unit label.pages helds in
      opening_by helds (Some label) None was.0 was.1
      ∙ ap (λ (front : Result Front Refusal). opened_by label (with_front image front)) (ap (front_at label.pages) (page_of-image_on label.unit label.pages helds 0 whole some) ∙ is)

  -- and behind the header the index
  with_header : (header : Header) (layout : Layout) → HeaderFits header layout → layout.pages ≡ label.pages
      → front_at label.pages (page_on label.unit helds 0) ≡ Ok (record { header = header; layout = layout }) → (found : Result ImageIndex Refusal) → index_of header (index_pages label header helds) ≡ found
      → opening_of helds ≡ opened_by label (with_index (record { header = header; layout = layout }) found)
  with_header header layout fits same front found is =
      let F : Front = record { header = header; layout = layout } in
      with_labels (Ok F) front
      ∙ ap (λ (behind : List ℕ). opened_by label (with_index F (index_of header (take header.index_bytes behind))))
      (image_behind label.unit label.pages helds whole header.index_first (pages_for header.index_bytes) (sym same ∙ fits.index_last))
      ∙ ap (λ (index : Result ImageIndex Refusal). opened_by label (with_index F index)) is

module _ (told : Option (List (List ℕ))) (label : Label) (was : IfSome told (λ helds. IsAllLabelled helds (Ok label))) (some : 0 < label.pages)
    (whole : IfSome told (λ helds. (page : ℕ) → page < label.pages → length (page_on label.unit helds page) ≡ 4096)) where
  pub front_stops : (refusal : Refusal) → IfSome told (λ helds. SaysOf refusal (front_at label.pages (page_on label.unit helds 0) ≡ Err refusal))
      → IfSome told (λ helds. SaysOf refusal (opening_of helds ≡ Err refusal))
  front_stops refusal says =
      IfSome-all told _ _ _ _ _
      (λ helds is pages said again. SaysOf-weaker refusal _ _ (λ (refused : front_at label.pages (page_on label.unit helds 0) ≡ Err refusal). with_labels label helds is some pages (Err refusal) refused) said)
      was whole says was

  module _ (header : Header) (layout : Layout) (fits : HeaderFits header layout) (same : layout.pages ≡ label.pages)
      (found : IfSome told (λ helds. front_at label.pages (page_on label.unit helds 0) ≡ Ok (record { header = header; layout = layout }))) where
    pub index_stops : (refusal : Refusal) → IfSome told (λ helds. SaysOf refusal (index_of header (index_pages label header helds) ≡ Err refusal))
        → IfSome told (λ helds. SaysOf refusal (opening_of helds ≡ Err refusal))
    index_stops refusal says =
        IfSome-all told _ _ _ _ _
        (λ helds is pages said front.
        SaysOf-weaker refusal _ _
        (λ (refused : index_of header (index_pages label header helds) ≡ Err refusal). with_header label helds is some pages header layout fits same front (Err refusal) refused) said)
        was whole says found

    pub all_opened : (index : ImageIndex) → IfSome told (λ helds. index_of header (index_pages label header helds) ≡ Ok index)
        → IfSome told (λ helds. opening_of helds ≡ Ok (record {
          layout = record { drives = label.drives; unit = label.unit; pages = label.pages; out_first = layout.out_first; in_first = layout.in_first };
          header = header;
          index = index;
        }))
    all_opened index is =
        let opened : ℕ → Opened = λ pages. record {
          layout = record { drives = label.drives; unit = label.unit; pages = pages; out_first = layout.out_first; in_first = layout.in_first };
          header = header;
          index = index;
        } in
        let O : ℕ → Result Opened Refusal = λ pages. Ok (opened pages) in
        IfSome-all told _ _ _ _ _
        (λ helds labelled pages here front. with_header label helds labelled some pages header layout fits same front (Ok index) here ∙ ap O same)
        was whole is found

-- the reads of the labels, and what is read behind them
labels_first : (helds : List (List ℕ)) (count : ℕ) → length helds ≡ count
    → opening_reads helds ≡ label_reads count ++ reads_behind helds (first_label helds) (drives_refusal helds (first_label helds))
unfolding opening_reads
labels_first helds count many =
    ap (λ (n : ℕ). label_reads n ++ reads_behind helds (first_label helds) (drives_refusal helds (first_label helds))) many

front_next : (helds : List (List ℕ)) (count : ℕ) (label : Label) → length helds ≡ count → IsAllLabelled helds (Ok label)
    → opening_reads helds ≡ (label_reads count ++ page_read label.drives label.unit 0 ∷ []) ++ index_reads label (front_at label.pages (page_on label.unit helds 0))
front_next helds count label many is =
    let first = page_read label.drives label.unit 0 in
    labels_first helds count many
    ∙ ap (λ (l : Option Label). label_reads count ++ reads_behind helds l (drives_refusal helds l)) is.0
    ∙ ap (λ (r : Option Refusal). label_reads count ++ reads_behind helds (Some label) r) is.1
    ∙ sym (append_assoc (label_reads count) (first ∷ []) (index_reads label (front_at label.pages (page_on label.unit helds 0))))

module _ {D : Type 0} (held : D → Option (List ℕ)) (faults : D → ℕ) (log : D → Option (List Read)) (olds news : List D) where
  by_first : (some rest all : List DriveRead) (refusal : Refusal) → all ≡ some ++ rest → ReadUntil faults log some refusal olds news → ReadUntil faults log all refusal olds news
  by_first some rest all refusal is until =
      let P : List DriveRead → Type 0 = λ reads. ReadUntil faults log reads refusal olds news in
      subst P (sym is) (ReadUntil-before faults log some rest refusal olds news until)

  pub reads_of_labels : (refusal : Refusal) → ReadUntil faults log (label_reads (length olds)) refusal olds news
      → IfSome (all_told held olds) (λ helds. ReadUntil faults log (opening_reads helds) refusal olds news)
  reads_of_labels refusal until =
      IfSome-both (all_told held olds) _ _ _
      (λ helds many again. by_first (label_reads (length olds)) _ (opening_reads helds) refusal (labels_first helds (length olds) many) until)
      (all_told-length held olds) (all_told-length held olds)

  module _ (label : Label) (was : IfSome (all_told held olds) (λ helds. IsAllLabelled helds (Ok label))) where
    abbrev pub front_reads : List DriveRead
    front_reads = label_reads (length olds) ++ page_read label.drives label.unit 0 ∷ []

    pub reads_of_front : (refusal : Refusal) → ReadUntil faults log front_reads refusal olds news
        → IfSome (all_told held olds) (λ helds. ReadUntil faults log (opening_reads helds) refusal olds news)
    reads_of_front refusal until =
        IfSome-both (all_told held olds) _ _ _
        (λ helds many is. by_first front_reads _ (opening_reads helds) refusal (front_next helds (length olds) label many is) until)
        (all_told-length held olds) was

    module _ (header : Header) (layout : Layout)
        (found : IfSome (all_told held olds) (λ helds. front_at label.pages (page_on label.unit helds 0) ≡ Ok (record { header = header; layout = layout }))) where
      abbrev pub all_reads : List DriveRead
      all_reads = front_reads ++ page_reads label.drives label.unit header.index_first (pages_for header.index_bytes)

      all_next : IfSome (all_told held olds) (λ helds. opening_reads helds ≡ all_reads)
      all_next =
          IfSome-all (all_told held olds) _ _ _ _ _
          (λ helds many is front again. front_next helds (length olds) label many is ∙ ap (λ (f : Result Front Refusal). front_reads ++ index_reads label f) front)
          (all_told-length held olds) was found was

      pub reads_of_index : (refusal : Refusal) → ReadUntil faults log all_reads refusal olds news
          → IfSome (all_told held olds) (λ helds. ReadUntil faults log (opening_reads helds) refusal olds news)
      reads_of_index refusal until =
          let P : List DriveRead → Type 0 = λ reads. ReadUntil faults log reads refusal olds news in
          IfSome-both (all_told held olds) _ _ _ (λ helds is again. subst P (sym is) until) all_next all_next

      pub reads_of_all : AllRead faults log all_reads olds news → IfSome (all_told held olds) (λ helds. AllRead faults log (opening_reads helds) olds news)
      reads_of_all all =
          let P : List DriveRead → Type 0 = λ reads. AllRead faults log reads olds news in
          IfSome-both (all_told held olds) _ _ _ (λ helds is again. subst P (sym is) all) all_next all_next

-- a label's image is striped
pub label_striped : (label : Label) → LabelFits label → IsStriped (striping_of label)
label_striped label fits = record { some_drives = omega (arith, fits.own); some_unit = fits.some_unit; few_pages = fits.few_pages }
