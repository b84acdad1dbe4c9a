use Rattle.std.proofs.Common.{◌≡◌, ◌-◌, ℕ, arith, subst}
use Rattle.fg_build.specs.Calls.{ReadUntil}
use Rattle.fg_build.specs.OpeningReads.{page_reads}
use Rattle.fg_build.proofs.FrontLaws.{fault_behind}
use Rattle.fg_image.specs.Header.{pages_for}
use Rattle.fg_build.proofs.FrontLaws.{fault-behind_labels, outside-behind}
use Rattle.fg_build.proofs.front.read_index.Goals as goal

pub returns-clause-reads : goal.returns-clause-reads
returns-clause-reads g c =
    let layout = c.args.layout.now in
    let header = c.args.header.now in
    let count : layout.pages - header.index_first ≡ pages_for header.index_bytes = omega (arith, c.requires.fits.index_last) in
    let P : ℕ → Type 0 =
    λ count. ReadUntil g.D.Drive.faults g.D.Drive.log (page_reads layout.drives layout.unit header.index_first count) c.in-Err-read.refusal c.args.drives.now c.read_pages.new.drives in
    subst P count (fault_behind g.D.Drive.faults g.D.Drive.log _ _ c.in-Err-read.refusal _ _ c.in-Err-read.ensures.fault c.in-Ok.ensures.reads)

pub returns-in-Err-clause-behind : goal.returns-in-Err-clause-behind
returns-in-Err-clause-behind g c = outside-behind c.in-Err.refusal c.in-Err.ensures.fault

pub returns-clause-behind : goal.returns-clause-behind
returns-clause-behind g c = fault-behind_labels _ c.in-Err-read.refusal c.in-Err-read.ensures.fault
