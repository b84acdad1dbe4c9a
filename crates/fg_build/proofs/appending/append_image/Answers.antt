-- The labels come first, and then the pages.
use Rattle.std.proofs.Common.{ℕ, Err, List, subst}
use Rattle.fg_build.specs.Appends.{AppendsInOrder, HoldAfter, PageAppend, label_appends, page_appends}
use Rattle.fg_build.proofs.OrderLaws.{HoldAfter-more, image_appends-is, stopped_behind, stopped_first}
use Rattle.fg_build.proofs.BuildLaws.{image_whole, labels_kept, labels_stop_it, pages_kept, pages_stop_it}
use Rattle.fg_outside.proofs.DriveLemmas.{EachSame-more}
use Rattle.fg_build.proofs.appending.append_image.Goals as goal

pub returns-in-Err-clause-appends : goal.returns-in-Err-clause-appends
returns-in-Err-clause-appends g c =
    labels_stop_it c.args.label.now c.args.image.now c.requires.pages g.D.Drive.held g.D.Drive.room g.D.Drive.faults c.args.drives.now c.append_labels.new.drives c.append_labels.new.drives c.in-Err.refusal
    c.in-Err.ensures.appends

pub returns-in-Err-clause-sure : goal.returns-in-Err-clause-sure
returns-in-Err-clause-sure g c =
    labels_kept c.args.label.now c.args.image.now c.requires.pages g.D.Drive.held g.D.Drive.room g.D.Drive.faults c.args.drives.now c.append_labels.new.drives c.append_labels.new.drives
    c.append_labels.ensures.sure

pub returns-in-Err-append_pages-clause-appends : goal.returns-in-Err-append_pages-clause-appends
returns-in-Err-append_pages-clause-appends g c =
    pages_stop_it c.args.label.now c.args.image.now c.requires.pages g.D.Drive.held g.D.Drive.room g.D.Drive.faults c.args.drives.now c.append_labels.new.drives c.append_pages.new.drives
    c.in_default.ensures.appends c.in-Err-append_pages.refusal c.in-Err-append_pages.ensures.appends

pub returns-in-Err-append_pages-clause-log : goal.returns-in-Err-append_pages-clause-log
returns-in-Err-append_pages-clause-log g c = EachSame-more g.D.Drive.log _ c.append_labels.new.drives _ c.append_labels.ensures.log c.append_pages.ensures.log

pub returns-in-Err-append_pages-clause-sure : goal.returns-in-Err-append_pages-clause-sure
returns-in-Err-append_pages-clause-sure g c =
    pages_kept c.args.label.now c.args.image.now c.requires.pages g.D.Drive.held g.D.Drive.room g.D.Drive.faults c.args.drives.now c.append_labels.new.drives c.append_pages.new.drives
    c.in_default.ensures.appends c.append_pages.ensures.sure

pub returns-clause-appends : goal.returns-clause-appends
returns-clause-appends g c =
    image_whole c.args.label.now c.args.image.now c.requires.pages g.D.Drive.held g.D.Drive.room g.D.Drive.faults c.args.drives.now c.append_labels.new.drives c.append_pages.new.drives
    c.in_default.ensures.appends c.in_default-append_pages.ensures.appends

pub returns-clause-log : goal.returns-clause-log
returns-clause-log g c = EachSame-more g.D.Drive.log _ c.append_labels.new.drives _ c.append_labels.ensures.log c.append_pages.ensures.log

pub returns-clause-sure : goal.returns-clause-sure
returns-clause-sure g c =
    pages_kept c.args.label.now c.args.image.now c.requires.pages g.D.Drive.held g.D.Drive.room g.D.Drive.faults c.args.drives.now c.append_labels.new.drives c.append_pages.new.drives
    c.in_default.ensures.appends c.append_pages.ensures.sure

pub returns-in-Err-clause-in_order : goal.returns-in-Err-clause-in_order
returns-in-Err-clause-in_order g c =
    let held = g.D.Drive.held in
    let label = c.args.label.now in
    let image = c.args.image.now in
    let olds = c.args.drives.now in
    let news = c.append_labels.new.drives in
    let refusal = c.in-Err.refusal in
    let N : ℕ → Type 0 = λ count. AppendsInOrder held (label_appends count label) olds news (Err refusal) in
    let P : List PageAppend → Type 0 = λ appends. AppendsInOrder held appends olds news (Err refusal) in
    subst P (image_appends-is label image c.requires.pages)
    (stopped_first held (label_appends label.drives label) (page_appends label.drives label.unit image label.pages) refusal olds news
    (subst N c.requires.drives c.in-Err.ensures.in_order))

pub returns-in-Err-append_pages-clause-in_order : goal.returns-in-Err-append_pages-clause-in_order
returns-in-Err-append_pages-clause-in_order g c =
    let held = g.D.Drive.held in
    let label = c.args.label.now in
    let image = c.args.image.now in
    let olds = c.args.drives.now in
    let mids = c.append_labels.new.drives in
    let news = c.append_pages.new.drives in
    let refusal = c.in-Err-append_pages.refusal in
    let N : ℕ → Type 0 = λ count. HoldAfter held (label_appends count label) olds mids in
    let P : List PageAppend → Type 0 = λ appends. AppendsInOrder held appends olds news (Err refusal) in
    subst P (image_appends-is label image c.requires.pages)
    (stopped_behind held (label_appends label.drives label) (page_appends label.drives label.unit image label.pages) refusal olds mids news
    (subst N c.requires.drives c.in_default.ensures.in_order) c.in-Err-append_pages.ensures.in_order)

pub returns-clause-in_order : goal.returns-clause-in_order
returns-clause-in_order g c =
    let held = g.D.Drive.held in
    let label = c.args.label.now in
    let image = c.args.image.now in
    let olds = c.args.drives.now in
    let mids = c.append_labels.new.drives in
    let news = c.append_pages.new.drives in
    let N : ℕ → Type 0 = λ count. HoldAfter held (label_appends count label) olds mids in
    let P : List PageAppend → Type 0 = λ appends. HoldAfter held appends olds news in
    subst P (image_appends-is label image c.requires.pages)
    (HoldAfter-more held (label_appends label.drives label) (page_appends label.drives label.unit image label.pages) olds mids news
    (subst N c.requires.drives c.in_default.ensures.in_order) c.in_default-append_pages.ensures.in_order)
