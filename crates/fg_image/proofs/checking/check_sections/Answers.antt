use Rattle.std.proofs.Common.{◌≡◌, ℕ, List, sym, ◌∙◌, arith}
use Rattle.fg_image.specs.Checking.{bad_edge_in}
use Rattle.fg_image.specs.Image.{IndexFits}
use Rattle.fg_image.specs.Lists.{graph_by}
use Rattle.fg_image.proofs.CheckingLaws.{mirror-by}
use Rattle.fg_image.proofs.LimitLaws.{IsBytes, limits-by}
use Rattle.fg_image.proofs.TargetLaws.{sound-by}
use Rattle.fg_index.specs.ImageIndex.{ImageIndex}
use Rattle.fg_model.specs.Graph.{IsSound}
use Rattle.fg_stripe.specs.declared.layout.Layout.{Layout}
use Rattle.std.specs.Prelude.{None}
use Rattle.fg_image.proofs.checking.check_sections.Goals as goal

sound-image : (layout : Layout) (index : ImageIndex) (image : List ℕ) → IndexFits layout index → IsBytes image → bad_edge_in (graph_by layout index image) ≡ None
    → IsSound (graph_by layout index image)
sound-image layout index image fits bytes none = sound-by (graph_by layout index image) (limits-by layout index image fits bytes) none

pub first_unlike-requires-clause-sound : goal.first_unlike-requires-clause-sound
first_unlike-requires-clause-sound c =
    let image = c.args.image.now in
    let bytes : IsBytes image = record { each = λ i. let fits = c.type_inv.image i in omega (arith, fits) } in
    sound-image c.args.layout.now c.args.index.now image c.requires.fits bytes (sym c.first_bad_edge.ensures ∙ c.in-None.is)

pub returns-in-Ok-None-clause-mirror : goal.returns-in-Ok-None-clause-mirror
returns-in-Ok-None-clause-mirror c =
    let image = c.args.image.now in
    let bytes : IsBytes image = record { each = λ i. let fits = c.type_inv.image i in omega (arith, fits) } in
    let found = rw c.in-Ok-None.field-0-is at c.in-Ok-None.ensures in
    mirror-by (graph_by c.args.layout.now c.args.index.now image)
    (sound-image c.args.layout.now c.args.index.now image c.requires.fits bytes (sym c.first_bad_edge.ensures ∙ c.in-None.is)) found
