-- What drives hold that are opened together: an image, or the first thing that refuses it. The labels of all drives come
-- first, each drive's own before the next drive's, then the header, the sections, the index.
use Rattle.std.specs.Prelude.{ℕ, Option, None, Some, Result, Ok, Err, List}
use Rattle.fg_base.specs.declared.refusal.Refusal.{Refusal}
use Rattle.fg_base.specs.declared.refusal.Refusal.TheVariants.{NoLabel}
use Rattle.fg_build.specs.declared.opened.Opened.{Opened}
use Rattle.fg_build.specs.Labels.{drives_refusal, first_label}
use Rattle.fg_image.specs.Image.{Parts, parts_in}
use Rattle.fg_image.specs.Lists.{graph_by}
use Rattle.fg_model.specs.declared.graph.Graph.{Graph}
use Rattle.fg_stripe.specs.declared.label.Label.{Label}
use Rattle.fg_stripe.specs.declared.layout.Layout.{Layout}
use Rattle.fg_stripe.specs.Held.{image_on}

-- where the sections stand, over the drives and in the units of this label
abbrev pub striped : Label → Layout → Layout
striped label layout = record {
  drives = label.drives;
  unit = label.unit;
  pages = layout.pages;
  out_first = layout.out_first;
  in_first = layout.in_first;
}

-- the image of this label, as it is opened
abbrev pub opened_by : Label → Result Parts Refusal → Result Opened Refusal
opened_by label (Err refusal) = Err refusal
opened_by label (Ok parts) = Ok (record { layout = striped label parts.layout; header = parts.header; index = parts.index })

-- what drives with this first label hold, where this refuses their labels or nothing does
abbrev pub opened_with : List (List ℕ) → Option Label → Option Refusal → Result Opened Refusal
opened_with helds first (Some refusal) = Err refusal
opened_with helds None None = Err (NoLabel 0)
opened_with helds (Some label) None = opened_by label (parts_in label.pages (image_on label.unit label.pages helds))

-- what drives that hold these bytes open to
unfoldable pub opening_of : List (List ℕ) → Result Opened Refusal
opening_of helds = opened_with helds (first_label helds) (drives_refusal helds (first_label helds))

-- the image that was opened on drives that hold these bytes
abbrev pub image_of : Opened → List (List ℕ) → List ℕ
image_of opened helds = image_on opened.layout.unit opened.layout.pages helds

-- its graph
abbrev pub graph_on : Opened → List (List ℕ) → Graph
graph_on opened helds = graph_by opened.layout opened.index (image_of opened helds)
