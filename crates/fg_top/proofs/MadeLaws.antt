-- Laws of images that are made of edges and built over empty drives.
use Rattle.std.proofs.Common.{◌≡◌, ◌/◌, ◌+◌, ℕ, arith, length}
use Rattle.fg_build.specs.Layouts.{Plan, all_drive_bytes, drive_bytes}
use Rattle.fg_build.proofs.BuildLaws.{layout_length}
use Rattle.fg_build.proofs.BuiltLaws.{PlanFits, built_opens}
use Rattle.fg_image.specs.Made.{image_bytes}
use Rattle.fg_model.specs.Edges.{AreEdges, EdgeList}
use Rattle.fg_stripe.specs.Striping.{pages_on}
use Rattle.fg_top.specs.MadeDrives.{OpenToEdges}

-- a drive's part of an image is its label and its pages
pub drive_pages : (plan : Plan) (edges : EdgeList) (drive : ℕ) →
    length (drive_bytes plan edges drive) / 4096 ≡ 1 + length (pages_on drive plan.drives plan.unit (length (image_bytes edges) / 4096))
unfolding drive_bytes
drive_pages plan edges drive = omega (arith, layout_length plan (image_bytes edges) drive)

-- drives that were empty before the image was built open to it
pub open_to_edges : (plan : Plan) (edges : EdgeList) → PlanFits plan → AreEdges edges → OpenToEdges (all_drive_bytes plan edges) edges
open_to_edges plan edges fits are =
    let built = built_opens plan edges are fits in
    record {
      opened = built.0;
      opening = built.1.opens;
      vertices = built.1.vertices;
      outs = built.1.out_entries;
      ins = built.1.in_entries;
      graph = built.1.graph;
    }
