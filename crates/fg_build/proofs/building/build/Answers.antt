-- The image is made, and then appended.
use Rattle.std.proofs.Common.{◌≡◌, ◌∙◌, List, ℕ, Result, Err, length, refl, sym, ap, subst}
use Rattle.fg_base.specs.declared.refusal.Refusal.{Refusal}
use Rattle.fg_build.specs.Building.{Builds, HoldImage, RoomyKeptForImage}
use Rattle.fg_build.specs.Layouts.{plan_of}
use Rattle.fg_build.proofs.CallLaws.{whole_written}
use Rattle.fg_build.proofs.BuildLaws.{builds_first, holds_image, kept_for_image}
use Rattle.fg_image.specs.Made.{image_bytes}
use Rattle.fg_outside.proofs.DriveLemmas.{EachDrive-same, EachDriveFrom-same}
use Rattle.fg_build.specs.Appends.{BuildsInOrder, HoldAfter, PageAppend, build_appends}
use Rattle.fg_build.proofs.OrderLaws.{build_appends-is, builds_as}
use Rattle.fg_build.proofs.building.build.Goals as goal

pub returns-in_default-clause-holds : goal.returns-in_default-clause-holds
returns-in_default-clause-holds g c = EachDrive-same _ (λ one. refl) c.args.drives.now.items

pub returns-in_default-clause-counts : goal.returns-in_default-clause-counts
returns-in_default-clause-counts g c = EachDrive-same _ (λ one. refl) c.args.drives.now.items

pub returns-in_default-clause-log : goal.returns-in_default-clause-log
returns-in_default-clause-log g c = EachDrive-same _ (λ one. refl) c.args.drives.now.items

pub returns-in_default-clause-sure : goal.returns-in_default-clause-sure
returns-in_default-clause-sure g c = EachDriveFrom-same 0 _ (λ number one at roomy. refl) c.args.drives.now.items

pub returns-in-Ok-append_image-clause-holds : goal.returns-in-Ok-append_image-clause-holds
returns-in-Ok-append_image-clause-holds g c =
    let held = g.D.Drive.held in
    let room = g.D.Drive.room in
    let faults = g.D.Drive.faults in
    let edges = c.args.edges.now in
    let items = c.args.drives.now.items in
    let lent = c.deref_mut.result.now in
    let new = c.append_image.new.drives in
    let image = c.deref.result.now in
    let is : image ≡ image_bytes edges = c.deref.ensures.value ∙ c.in-Ok.ensures.bytes in
    let count : c.len-2.result ≡ length items = c.len-2.ensures ∙ sym c.deref_mut.ensures.len ∙ ap length c.deref_mut.ensures.value in
    let plan = plan_of c.len-2.result c.args.unit c.args.number in
    let same : length new ≡ length items = c.append_image.auto.drives ∙ ap length c.deref_mut.ensures.value in
    let written = whole_written items new c.args.drives.now.len (sym c.deref_mut.ensures.len ∙ ap length c.deref_mut.ensures.value) same in
    let N : ℕ → Type 0 = λ n. HoldImage held (plan_of n c.args.unit c.args.number) edges lent new in
    let Q : List g.row.D.Denot → Type 0 = λ olds. HoldImage held (plan_of (length items) c.args.unit c.args.number) edges olds new in
    let P : List g.row.D.Denot → Type 0 = λ news. HoldImage held (plan_of (length items) c.args.unit c.args.number) edges items news in
    subst P (sym written) (subst Q c.deref_mut.ensures.value (subst N count (holds_image plan edges image is held room faults lent new c.in-Ok-append_image.ensures.appends)))

pub returns-clause-holds : goal.returns-clause-holds
returns-clause-holds g c =
    let held = g.D.Drive.held in
    let room = g.D.Drive.room in
    let faults = g.D.Drive.faults in
    let edges = c.args.edges.now in
    let items = c.args.drives.now.items in
    let lent = c.deref_mut.result.now in
    let new = c.append_image.new.drives in
    let image = c.deref.result.now in
    let is : image ≡ image_bytes edges = c.deref.ensures.value ∙ c.in-Ok.ensures.bytes in
    let count : c.len-2.result ≡ length items = c.len-2.ensures ∙ sym c.deref_mut.ensures.len ∙ ap length c.deref_mut.ensures.value in
    let plan = plan_of c.len-2.result c.args.unit c.args.number in
    let same : length new ≡ length items = c.append_image.auto.drives ∙ ap length c.deref_mut.ensures.value in
    let written = whole_written items new c.args.drives.now.len (sym c.deref_mut.ensures.len ∙ ap length c.deref_mut.ensures.value) same in
    let stopped : Result ℕ Refusal = Err c.in-Err.refusal in
    let N : ℕ → Type 0 = λ n. Builds held (plan_of n c.args.unit c.args.number) edges lent new stopped in
    let Q : List g.row.D.Denot → Type 0 = λ olds. Builds held (plan_of (length items) c.args.unit c.args.number) edges olds new stopped in
    let P : List g.row.D.Denot → Type 0 = λ news. Builds held (plan_of (length items) c.args.unit c.args.number) edges items news stopped in
    subst P (sym written) (subst Q c.deref_mut.ensures.value (subst N count (builds_first plan edges image is held room faults lent new c.in-Err.refusal c.in-Err.ensures.appends)))

pub returns-in-Ok-append_image-clause-sure : goal.returns-in-Ok-append_image-clause-sure
returns-in-Ok-append_image-clause-sure g c =
    let held = g.D.Drive.held in
    let room = g.D.Drive.room in
    let faults = g.D.Drive.faults in
    let edges = c.args.edges.now in
    let items = c.args.drives.now.items in
    let lent = c.deref_mut.result.now in
    let new = c.append_image.new.drives in
    let image = c.deref.result.now in
    let is : image ≡ image_bytes edges = c.deref.ensures.value ∙ c.in-Ok.ensures.bytes in
    let count : c.len-2.result ≡ length items = c.len-2.ensures ∙ sym c.deref_mut.ensures.len ∙ ap length c.deref_mut.ensures.value in
    let plan = plan_of c.len-2.result c.args.unit c.args.number in
    let same : length new ≡ length items = c.append_image.auto.drives ∙ ap length c.deref_mut.ensures.value in
    let written = whole_written items new c.args.drives.now.len (sym c.deref_mut.ensures.len ∙ ap length c.deref_mut.ensures.value) same in
    let N : ℕ → Type 0 = λ n. RoomyKeptForImage room faults (plan_of n c.args.unit c.args.number) edges lent new in
    let Q : List g.row.D.Denot → Type 0 = λ olds. RoomyKeptForImage room faults (plan_of (length items) c.args.unit c.args.number) edges olds new in
    let P : List g.row.D.Denot → Type 0 = λ news. RoomyKeptForImage room faults (plan_of (length items) c.args.unit c.args.number) edges items news in
    subst P (sym written) (subst Q c.deref_mut.ensures.value (subst N count (kept_for_image plan edges image is held room faults lent new c.append_image.ensures.sure)))

pub returns-clause-sure : goal.returns-clause-sure
returns-clause-sure g c =
    let held = g.D.Drive.held in
    let room = g.D.Drive.room in
    let faults = g.D.Drive.faults in
    let edges = c.args.edges.now in
    let items = c.args.drives.now.items in
    let lent = c.deref_mut.result.now in
    let new = c.append_image.new.drives in
    let image = c.deref.result.now in
    let is : image ≡ image_bytes edges = c.deref.ensures.value ∙ c.in-Ok.ensures.bytes in
    let count : c.len-2.result ≡ length items = c.len-2.ensures ∙ sym c.deref_mut.ensures.len ∙ ap length c.deref_mut.ensures.value in
    let plan = plan_of c.len-2.result c.args.unit c.args.number in
    let same : length new ≡ length items = c.append_image.auto.drives ∙ ap length c.deref_mut.ensures.value in
    let written = whole_written items new c.args.drives.now.len (sym c.deref_mut.ensures.len ∙ ap length c.deref_mut.ensures.value) same in
    let N : ℕ → Type 0 = λ n. RoomyKeptForImage room faults (plan_of n c.args.unit c.args.number) edges lent new in
    let Q : List g.row.D.Denot → Type 0 = λ olds. RoomyKeptForImage room faults (plan_of (length items) c.args.unit c.args.number) edges olds new in
    let P : List g.row.D.Denot → Type 0 = λ news. RoomyKeptForImage room faults (plan_of (length items) c.args.unit c.args.number) edges items news in
    subst P (sym written) (subst Q c.deref_mut.ensures.value (subst N count (kept_for_image plan edges image is held room faults lent new c.append_image.ensures.sure)))

pub returns-in_default-clause-in_order : goal.returns-in_default-clause-in_order
returns-in_default-clause-in_order g c = EachDrive-same _ (λ one. refl) c.args.drives.now.items

pub returns-in-Ok-append_image-clause-in_order : goal.returns-in-Ok-append_image-clause-in_order
returns-in-Ok-append_image-clause-in_order g c =
    let held = g.D.Drive.held in
    let edges = c.args.edges.now in
    let items = c.args.drives.now.items in
    let lent = c.deref_mut.result.now in
    let new = c.append_image.new.drives in
    let image = c.deref.result.now in
    let is : image ≡ image_bytes edges = c.deref.ensures.value ∙ c.in-Ok.ensures.bytes in
    let count : c.len-2.result ≡ length items = c.len-2.ensures ∙ sym c.deref_mut.ensures.len ∙ ap length c.deref_mut.ensures.value in
    let plan = plan_of c.len-2.result c.args.unit c.args.number in
    let same : length new ≡ length items = c.append_image.auto.drives ∙ ap length c.deref_mut.ensures.value in
    let written = whole_written items new c.args.drives.now.len (sym c.deref_mut.ensures.len ∙ ap length c.deref_mut.ensures.value) same in
    let A : List PageAppend → Type 0 = λ appends. HoldAfter held appends lent new in
    let N : ℕ → Type 0 = λ n. HoldAfter held (build_appends (plan_of n c.args.unit c.args.number) edges) lent new in
    let Q : List g.row.D.Denot → Type 0 = λ olds. HoldAfter held (build_appends (plan_of (length items) c.args.unit c.args.number) edges) olds new in
    let P : List g.row.D.Denot → Type 0 = λ news. HoldAfter held (build_appends (plan_of (length items) c.args.unit c.args.number) edges) items news in
    subst P (sym written) (subst Q c.deref_mut.ensures.value (subst N count (subst A (build_appends-is plan edges image is) c.in-Ok-append_image.ensures.in_order)))

pub returns-clause-in_order : goal.returns-clause-in_order
returns-clause-in_order g c =
    let held = g.D.Drive.held in
    let edges = c.args.edges.now in
    let items = c.args.drives.now.items in
    let lent = c.deref_mut.result.now in
    let new = c.append_image.new.drives in
    let image = c.deref.result.now in
    let is : image ≡ image_bytes edges = c.deref.ensures.value ∙ c.in-Ok.ensures.bytes in
    let count : c.len-2.result ≡ length items = c.len-2.ensures ∙ sym c.deref_mut.ensures.len ∙ ap length c.deref_mut.ensures.value in
    let plan = plan_of c.len-2.result c.args.unit c.args.number in
    let same : length new ≡ length items = c.append_image.auto.drives ∙ ap length c.deref_mut.ensures.value in
    let written = whole_written items new c.args.drives.now.len (sym c.deref_mut.ensures.len ∙ ap length c.deref_mut.ensures.value) same in
    let stopped : Result ℕ Refusal = Err c.in-Err.refusal in
    let N : ℕ → Type 0 = λ n. BuildsInOrder held (build_appends (plan_of n c.args.unit c.args.number) edges) lent new stopped in
    let Q : List g.row.D.Denot → Type 0 = λ olds. BuildsInOrder held (build_appends (plan_of (length items) c.args.unit c.args.number) edges) olds new stopped in
    let P : List g.row.D.Denot → Type 0 = λ news. BuildsInOrder held (build_appends (plan_of (length items) c.args.unit c.args.number) edges) items news stopped in
    subst P (sym written)
    (subst Q c.deref_mut.ensures.value (subst N count (builds_as held _ (build_appends plan edges) c.in-Err.refusal lent new (build_appends-is plan edges image is) c.in-Err.ensures.in_order)))
