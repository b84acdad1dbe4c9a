use Rattle.fg_outside.specs.contracts.room_drive.RoomDriveDrive.TheImpl.{held-value, room-value, faults-value}
use Rattle.fg_stripe.specs.declared.layout.Layout.{Layout}
use Rattle.fg_text.specs.Generator.{generated_text}
use Rattle.fg_top.proofs.MadeEnds.{building_refused, edges_held, empty_kept, empty_unfailed}
use Rattle.fg_top.proofs.large.make_drives.Goals as goal

pub returns-in-Ok-build-clause-made : goal.returns-in-Ok-build-clause-made
returns-in-Ok-build-clause-made c =
    let layout : Layout = record { drives = c.args.count; unit = c.args.unit; pages = c.in-Ok-image_pages.pages; out_first = 1; in_first = 1 } in
    record {
      edges = c.in-Ok.edges;
      made = c.in-Ok.ensures.read;
      hold = edges_held held-value.it room-value.it faults-value.it layout 0 c.in-Ok.edges c.in-Ok-empty_drives.drives.items c.build.new.drives.items
          (rw (← c.edges.view_is) c.edges.invariant) c.in-Ok-empty_drives.ensures c.in-Ok-build.ensures.holds c.in-Ok-build.ensures.counts;
    }

pub returns-clause-refused : goal.returns-clause-refused
returns-clause-refused c =
    let layout : Layout = record { drives = c.args.count; unit = c.args.unit; pages = c.in-Ok-image_pages.pages; out_first = 1; in_first = 1 } in
    let drives = c.in-Ok-empty_drives.drives.items in
    building_refused faults-value.it drives c.build.new.drives.items c.args.recipe.undirected
    (generated_text c.args.recipe.start c.args.recipe.nodes c.args.recipe.edges) c.in-Err-build.refusal
    (empty_unfailed held-value.it room-value.it faults-value.it layout drives c.in-Ok-empty_drives.ensures)
    (empty_kept held-value.it room-value.it faults-value.it layout 0 c.in-Ok.edges drives c.build.new.drives.items
    c.in-Ok-image_pages.ensures.pages c.in-Ok-empty_drives.ensures c.build.ensures.sure)
    c.in-Err-build.ensures.counts
