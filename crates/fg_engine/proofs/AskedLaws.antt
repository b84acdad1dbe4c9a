-- What is known of a run over a cache of its image, told of the run by itself.
use Rattle.std.proofs.Common.{◌≡◌, ℕ, Option, None, Some, List, length, true}
use Rattle.std.specs.Prelude.{is_some}
use Rattle.fg_base.specs.declared.limits.TheConstants.{MAX_RUN_PAGES}
use Rattle.fg_build.specs.Answers.{OpenedFits}
use Rattle.fg_build.specs.Asked.{IsAsked, IsAskedPage}
use Rattle.fg_build.specs.declared.opened.Opened.{Opened}
use Rattle.fg_build.specs.Opening.{graph_on}
use Rattle.fg_build.specs.ToldImage.{graph_over}
use Rattle.fg_cache.specs.Closing.{LogsTell}
use Rattle.fg_cache.specs.Site.{Site}
use Rattle.fg_model.specs.Program.{Rules}
use Rattle.fg_model.specs.Run.{Run, begun_of, run}
use Rattle.fg_outside.specs.declared.drive.Read.{Read}
use Rattle.fg_worker.specs.Desk.{image_of}
use Rattle.fg_engine.specs.Naming.{image_held, pages_asked}
use Rattle.fg_engine.specs.Told.{OfRun, ReadsAsked}
use Rattle.fg_engine.proofs.NamedLaws.{asked-page}
use Rattle.fg_engine.proofs.ReadLaws.{grew-by, read-pages}
use Rattle.fg_engine.proofs.StockLaws.{told-at}

module _ (opened : Opened) (P : Rules) (max : ℕ) where
  -- a fact of the run on the cache's image is one of the run on the image that was opened
  pub of-known : (all : Option (List (List ℕ))) (image : Option (List (List ℕ))) → image ≡ image_held opened.layout all → (fact : Run → Type 0)
      → (is_some image ≡ true → fact (run P (graph_over opened (image_of image)) max)) → OfRun all P opened max fact
  of-known all image is fact known = told-at opened.layout all image (λ (bytes : List ℕ). fact (run P (graph_over opened bytes) max)) is known

  module _ {D : Type 0} (log : D → Option (List Read)) (fits : OpenedFits opened) (site : Site) (same : site.layout ≡ opened.layout)
      (failed : Option ℕ) (reads pages : ℕ) (olds news : List D) (many : length olds ≡ opened.layout.drives) (tells : LogsTell log site failed reads pages olds news) where
    -- each read is of pages that the run asks for
    pub reads-asked : (all : Option (List (List ℕ))) → site.asked ≡ pages_asked P opened max all → OfRun all P opened max (λ run. ReadsAsked log P opened run olds news)
    reads-asked None asked = tt
    reads-asked (Some helds) asked =
        let begun = begun_of (run P (graph_on opened helds) max) in
        let IsOne : ℕ → Type 0 = IsAskedPage opened.layout opened.index P begun in
        grew-by log site (IsAsked MAX_RUN_PAGES opened.layout opened.index P begun) opened.layout.drives failed reads pages olds news many
        (λ drive read below is.
        read-pages MAX_RUN_PAGES opened.layout site IsOne drive read same fits.some_drives fits.some_unit (asked-page opened fits P max site same begun asked)
        below is.some is.few is.at_place)
        tells
